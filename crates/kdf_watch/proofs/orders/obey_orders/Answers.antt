use Rattle.std.proofs.Common.{arith, ◌∙◌}
use Rattle.kdf_watch.proofs.Going.{at_moved, fit_calls, whole_early}
use Rattle.kdf_watch.proofs.Gone.{gone_look, gone_on, on_err, seen_look}
use Rattle.kdf_watch.proofs.orders.obey_orders.Goals as goal

pub call-requires-clause-few : goal.call-requires-clause-few
call-requires-clause-few g c =
    fit_calls c.args.events.now c.loop-cursor.cursor c.loop-cursor.machine c.loop-cursor.invariant.at
    (omega (arith, c.requires.more, c.loop-cursor.invariant.same_event)) c.orders_of-n.result c.loop-cursor.invariant.orders c.loop-cursor-test.true

pub returns-in_err-look-clause-at : goal.returns-in_err-look-clause-at
returns-in_err-look-clause-at g c = at_moved c.args.events.now c.loop-cursor.cursor c.loop-cursor.machine c.loop-cursor.invariant.at
    (omega (arith, c.requires.more, c.loop-cursor.invariant.same_event)) (λ n a. goal.F-post g c.args.service.now n a) c.call.new.made c.call.new.machine
    c.call.ensures.moved (omega (arith, c.call.ensures.within, c.loop-cursor.invariant.orders))

pub returns-in_err-look-clause-err : goal.returns-in_err-look-clause-err
returns-in_err-look-clause-err g c =
    on_err c.from_residual.result _ (gone_on (λ look b. goal.G-post g c.args.watch.now look b) c.args.machine.now c.loop-cursor.machine c.call.new.machine
    c.loop-cursor.invariant.gone c.loop-cursor.invariant.same_slots c.in_err-look.ensures.err)

pub returns-then-sees-clause-at : goal.returns-then-sees-clause-at
returns-then-sees-clause-at g c = at_moved c.args.events.now c.loop-cursor.cursor c.loop-cursor.machine c.loop-cursor.invariant.at
    (omega (arith, c.requires.more, c.loop-cursor.invariant.same_event)) (λ n a. goal.F-post g c.args.service.now n a) c.call.new.made c.call.new.machine
    c.call.ensures.moved (omega (arith, c.call.ensures.within, c.loop-cursor.invariant.orders))

pub returns-then-sees-clause-paused : goal.returns-then-sees-clause-paused
returns-then-sees-clause-paused g c =
    let called = rw c.in-Seen.is at c.in_ok-look.ensures.called in
    seen_look (λ look b. goal.G-post g c.args.watch.now look b) c.args.machine.now called.between c.call.new.machine
    (gone_on (λ look b. goal.G-post g c.args.watch.now look b) c.args.machine.now c.loop-cursor.machine called.between c.loop-cursor.invariant.gone
    c.loop-cursor.invariant.same_slots called.gone) (called.same ∙ c.loop-cursor.invariant.same_slots)
    c.in-Seen.look called.note called.tells called.look_is called.legal c.if-sees.ensures

pub loop-cursor-preserved-else-sees : goal.loop-cursor-preserved-else-sees
loop-cursor-preserved-else-sees g c =
    let called = rw c.in-Seen.is at c.in_ok-look.ensures.called in
    record {
      at = at_moved c.args.events.now c.loop-cursor.cursor c.loop-cursor.machine c.loop-cursor.invariant.at
          (omega (arith, c.requires.more, c.loop-cursor.invariant.same_event)) (λ n a. goal.F-post g c.args.service.now n a) c.call.new.made c.call.new.machine
          c.call.ensures.moved (omega (arith, c.call.ensures.within, c.loop-cursor.invariant.orders));
      gone =
          gone_look (λ look b. goal.G-post g c.args.watch.now look b) c.args.machine.now called.between c.call.new.machine
          (gone_on (λ look b. goal.G-post g c.args.watch.now look b) c.args.machine.now c.loop-cursor.machine called.between c.loop-cursor.invariant.gone
          c.loop-cursor.invariant.same_slots called.gone) (called.same ∙ c.loop-cursor.invariant.same_slots)
          c.in-Seen.look called.note called.tells called.look_is called.legal c.if-sees.ensures;
      truthful = λ t. c.call.ensures.moved.on.truthful (c.loop-cursor.invariant.truthful t);
      same_slots = c.call.ensures.moved.on.slots ∙ c.loop-cursor.invariant.same_slots;
      same_event = c.loop-cursor.invariant.same_event;
      orders = c.loop-cursor.invariant.orders;
    }

pub loop-cursor-preserved : goal.loop-cursor-preserved
loop-cursor-preserved g c =
    let called = rw c.in-Unseen.is at c.in_ok-look.ensures.called in
    record {
      at = at_moved c.args.events.now c.loop-cursor.cursor c.loop-cursor.machine c.loop-cursor.invariant.at
          (omega (arith, c.requires.more, c.loop-cursor.invariant.same_event)) (λ n a. goal.F-post g c.args.service.now n a) c.call.new.made c.call.new.machine
          c.call.ensures.moved (omega (arith, c.call.ensures.within, c.loop-cursor.invariant.orders));
      gone = gone_on (λ look b. goal.G-post g c.args.watch.now look b) c.args.machine.now c.loop-cursor.machine c.call.new.machine c.loop-cursor.invariant.gone
          c.loop-cursor.invariant.same_slots called;
      truthful = λ t. c.call.ensures.moved.on.truthful (c.loop-cursor.invariant.truthful t);
      same_slots = c.call.ensures.moved.on.slots ∙ c.loop-cursor.invariant.same_slots;
      same_event = c.loop-cursor.invariant.same_event;
      orders = c.loop-cursor.invariant.orders;
    }

pub returns-in-Over-clause-at : goal.returns-in-Over-clause-at
returns-in-Over-clause-at g c = at_moved c.args.events.now c.loop-cursor.cursor c.loop-cursor.machine c.loop-cursor.invariant.at
    (omega (arith, c.requires.more, c.loop-cursor.invariant.same_event)) (λ n a. goal.F-post g c.args.service.now n a) c.call.new.made c.call.new.machine
    c.call.ensures.moved (omega (arith, c.call.ensures.within, c.loop-cursor.invariant.orders))

pub returns-in-Over-clause-paused : goal.returns-in-Over-clause-paused
returns-in-Over-clause-paused g c =
    let called = rw c.in-Over.is at c.in_ok-look.ensures.called in (
      gone_on (λ look b. goal.G-post g c.args.watch.now look b) c.args.machine.now c.loop-cursor.machine c.call.new.machine c.loop-cursor.invariant.gone
          c.loop-cursor.invariant.same_slots called.0,
      whole_early c.args.events.now _ c.call.new.machine
          (at_moved c.args.events.now c.loop-cursor.cursor c.loop-cursor.machine c.loop-cursor.invariant.at
          (omega (arith, c.requires.more, c.loop-cursor.invariant.same_event)) (λ n a. goal.F-post g c.args.service.now n a) c.call.new.made c.call.new.machine
          c.call.ensures.moved (omega (arith, c.call.ensures.within, c.loop-cursor.invariant.orders))) called.1,
    )
