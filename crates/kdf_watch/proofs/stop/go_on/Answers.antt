use Rattle.std.proofs.Common.{◌<◌, arith, length, refl, sym, ap, subst, ◌∙◌}
use Rattle.kdf_schedule.specs.declared.event.Event.TheVariants.{Orders}
use Rattle.kdf_theory.specs.Served.{IsTrueFor}
use Rattle.kdf_theory.specs.MachineView.{MachineView}
use Rattle.kdf_watch.specs.declared.cursor.Cursor.{Cursor}
use Rattle.kdf_watch.specs.Cursors.{event_at}
use Rattle.kdf_watch.specs.Onward.{IsAt}
use Rattle.kdf_watch.proofs.Going.{at_passed, whole_early, whole_late}
use Rattle.kdf_watch.proofs.Gone.{gone_entered, gone_none, gone_on, gone_same, on_err, paused_on, slots_entered, true_entered_by, whole_same}
use Rattle.kdf_watch.proofs.stop.go_on.Goals as goal

pub obey_orders-requires-clause-more : goal.obey_orders-requires-clause-more
obey_orders-requires-clause-more g c = omega (arith, c.loop-cursor-test.true)

pub pass-requires-clause-more : goal.pass-requires-clause-more
pass-requires-clause-more g c = omega (arith, c.loop-cursor-test.true, c.obey_orders.ensures.event)

pub returns-then-not-pass-clause-at : goal.returns-then-not-pass-clause-at
returns-then-not-pass-clause-at g c =
    let passed = c.if-not-pass.ensures.passed in
    subst (λ (d : Cursor). IsAt c.args.events.now d c.pass.new.machine) (sym passed.2)
    (subst (λ (m : MachineView). IsAt c.args.events.now c.obey_orders.new.cursor m) (sym passed.1) c.obey_orders.ensures.at)

pub loop-cursor-smaller : goal.loop-cursor-smaller
loop-cursor-smaller g c =
    let next = ap (λ (d : Cursor). d.event) c.if-not-pass.ensures.passed.3 in
    omega (arith, next, c.obey_orders.ensures.event, c.loop-cursor-test.true)

pub loop-cursor-init : goal.loop-cursor-init
loop-cursor-init g c = record { at = c.requires.at; gone = gone_none _ c.args.machine.now; truthful = λ t. t; same_slots = refl }

pub obey_orders-requires-clause-service : goal.obey_orders-requires-clause-service
obey_orders-requires-clause-service g c = c.requires.service

pub obey_orders-requires-clause-watch : goal.obey_orders-requires-clause-watch
obey_orders-requires-clause-watch g c = c.requires.watch

pub obey_orders-requires-clause-at : goal.obey_orders-requires-clause-at
obey_orders-requires-clause-at g c = c.loop-cursor.invariant.at

pub pass-requires-clause-short : goal.pass-requires-clause-short
pass-requires-clause-short g c = c.requires.short

pub pass-requires-clause-in_range : goal.pass-requires-clause-in_range
pass-requires-clause-in_range g c = c.requires.in_range

pub pass-requires-clause-at : goal.pass-requires-clause-at
pass-requires-clause-at g c = c.obey_orders.ensures.at

pub pass-requires-clause-all : goal.pass-requires-clause-all
pass-requires-clause-all g c = c.in_ok-stop.ensures.all c.in_default.is

pub returns-in_err-stop-clause-at : goal.returns-in_err-stop-clause-at
returns-in_err-stop-clause-at g c = c.obey_orders.ensures.at

pub returns-in_err-stop-clause-truthful : goal.returns-in_err-stop-clause-truthful
returns-in_err-stop-clause-truthful g c t = c.obey_orders.ensures.truthful (c.loop-cursor.invariant.truthful t)

pub returns-in_err-stop-clause-slots : goal.returns-in_err-stop-clause-slots
returns-in_err-stop-clause-slots g c = c.obey_orders.ensures.slots ∙ c.loop-cursor.invariant.same_slots

pub returns-in-Some-clause-at : goal.returns-in-Some-clause-at
returns-in-Some-clause-at g c = c.obey_orders.ensures.at

pub returns-in-Some-clause-truthful : goal.returns-in-Some-clause-truthful
returns-in-Some-clause-truthful g c t = c.obey_orders.ensures.truthful (c.loop-cursor.invariant.truthful t)

pub returns-in-Some-clause-slots : goal.returns-in-Some-clause-slots
returns-in-Some-clause-slots g c = c.obey_orders.ensures.slots ∙ c.loop-cursor.invariant.same_slots

pub returns-in-Some-clause-err : goal.returns-in-Some-clause-err
returns-in-Some-clause-err g c = tt

pub returns-then-not-pass-clause-slots : goal.returns-then-not-pass-clause-slots
returns-then-not-pass-clause-slots g c = ap (λ (m : MachineView). m.slots) c.if-not-pass.ensures.passed.1 ∙ c.obey_orders.ensures.slots
    ∙ c.loop-cursor.invariant.same_slots

pub returns-then-not-pass-clause-err : goal.returns-then-not-pass-clause-err
returns-then-not-pass-clause-err g c = tt

pub returns-clause-at : goal.returns-clause-at
returns-clause-at g c = c.loop-cursor.invariant.at

pub returns-clause-truthful : goal.returns-clause-truthful
returns-clause-truthful g c = c.loop-cursor.invariant.truthful

pub returns-clause-slots : goal.returns-clause-slots
returns-clause-slots g c = c.loop-cursor.invariant.same_slots

pub returns-clause-err : goal.returns-clause-err
returns-clause-err g c = tt

pub returns-in_err-stop-clause-err : goal.returns-in_err-stop-clause-err
returns-in_err-stop-clause-err g c =
    on_err c.from_residual.result _
    (gone_on _ c.args.machine.now c.loop-cursor.machine c.obey_orders.new.machine c.loop-cursor.invariant.gone c.loop-cursor.invariant.same_slots
    c.in_err-stop.ensures.err)

pub returns-in-Some-clause-stopped : goal.returns-in-Some-clause-stopped
returns-in-Some-clause-stopped g c =
    rw c.in-Some.is at (paused_on _ c.args.machine.now c.loop-cursor.machine c.obey_orders.new.machine c.loop-cursor.invariant.gone
    c.loop-cursor.invariant.same_slots c.args.events.now c.in_ok-stop.field-0 c.in_ok-stop.ensures.paused)

pub returns-then-not-pass-clause-truthful : goal.returns-then-not-pass-clause-truthful
returns-then-not-pass-clause-truthful g c t =
    subst (λ (m : MachineView). IsTrueFor (λ n a. goal.F-post g c.args.service.now n a) m.slots m.journal) (sym c.if-not-pass.ensures.passed.1)
    (c.obey_orders.ensures.truthful (c.loop-cursor.invariant.truthful t))

pub returns-then-not-pass-clause-stopped : goal.returns-then-not-pass-clause-stopped
returns-then-not-pass-clause-stopped g c = (
  gone_same _ c.args.machine.now c.obey_orders.new.machine c.pass.new.machine
      (rw c.in_default.is at (paused_on _ c.args.machine.now c.loop-cursor.machine c.obey_orders.new.machine c.loop-cursor.invariant.gone
      c.loop-cursor.invariant.same_slots c.args.events.now c.in_ok-stop.field-0 c.in_ok-stop.ensures.paused))
      c.if-not-pass.ensures.passed.1,
  whole_same c.args.events.now c.obey_orders.new.machine c.pass.new.machine c.if-not-pass.ensures.passed.1
      (whole_early c.args.events.now c.obey_orders.new.cursor c.obey_orders.new.machine c.obey_orders.ensures.at c.if-not-pass.ensures.passed.0),
)

pub loop-cursor-preserved : goal.loop-cursor-preserved
loop-cursor-preserved g c =
    let es = c.args.events.now in
    let at = c.obey_orders.new.cursor in
    let m = c.obey_orders.new.machine in
    let w = c.pass.new.machine in
    let passed = c.if-not-pass.ensures.passed in
    let lt : at.event < length es = omega (arith, c.loop-cursor-test.true, c.obey_orders.ensures.event) in
    record {
      at =
          subst (λ (d : Cursor). IsAt es d w) (sym passed.3)
          (at_passed es at m c.obey_orders.ensures.at lt (c.in_ok-stop.ensures.all c.in_default.is) w (c.requires.in_range at.event (Orders 0) lt) passed.2
          passed.1 passed.0);
      gone =
          gone_entered _ c.args.machine.now m w
          (rw c.in_default.is at (paused_on _ c.args.machine.now c.loop-cursor.machine m c.loop-cursor.invariant.gone c.loop-cursor.invariant.same_slots es
          c.in_ok-stop.field-0 c.in_ok-stop.ensures.paused))
          (event_at es at.event) passed.2;
      truthful = λ t.
          true_entered_by (λ n a. goal.F-post g c.args.service.now n a) m w (event_at es at.event) passed.1
          (c.obey_orders.ensures.truthful (c.loop-cursor.invariant.truthful t)) passed.2;
      same_slots = slots_entered m w (event_at es at.event) passed.2 ∙ c.obey_orders.ensures.slots ∙ c.loop-cursor.invariant.same_slots;
    }

pub returns-clause-stopped : goal.returns-clause-stopped
returns-clause-stopped g c = (
  c.loop-cursor.invariant.gone,
  whole_late c.args.events.now c.loop-cursor.cursor c.loop-cursor.machine c.loop-cursor.invariant.at
      (omega (arith, c.loop-cursor-test.false)),
)
