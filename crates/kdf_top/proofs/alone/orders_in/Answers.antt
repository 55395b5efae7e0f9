use Rattle.std.proofs.Common.{◌<◌, length, arith}
use Rattle.kdf_schedule.specs.declared.event.Event.TheVariants.{Orders}
use Rattle.kdf_schedule.proofs.Schedules.{order_count-drop}
use Rattle.kdf_top.proofs.alone.orders_in.Goals as goal

pub overflow_add-orders : goal.overflow_add-orders
overflow_add-orders c =
    let lt : c.loop-event.event-index < length c.args.events.now = omega arith in
    omega (arith, c.loop-event.invariant, c.requires, c.orders_of-orders.ensures, order_count-drop c.args.events.now c.loop-event.event-index (Orders 0) lt)

pub loop-event-preserved : goal.loop-event-preserved
loop-event-preserved c =
    let lt : c.loop-event.event-index < length c.args.events.now = omega arith in
    omega (arith, c.loop-event.invariant, c.orders_of-orders.ensures, order_count-drop c.args.events.now c.loop-event.event-index (Orders 0) lt)
