use Rattle.std.proofs.Common.{◌≡◌, ◌+◌, drop}
use Rattle.kdf_schedule.specs.Calls.{order_count}
use Rattle.kdf_top.proofs.alone.orders_in.Given as goal

abbrev pub invariant-loop-event : goal.invariant-loop-event
invariant-loop-event l = l.orders + order_count (drop l.event-index l.events) ≡ order_count l.events
