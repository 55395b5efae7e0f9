use Rattle.std.proofs.Common.{◌≡◌, ℕ, ◌+◌, ◌<◌, ◌≤◌, List, ◌∷◌, true, false, length, length-drop, take, drop, get_or, drop-cons, add-one, refl, sym, ◌∙◌, ap}
use Rattle.std.proofs.Common.{subst, arith}
use Rattle.kdf_journal.specs.Counts.{calls, clock, moves}
use Rattle.kdf_journal.specs.Steps.{steps}
use Rattle.kdf_schedule.specs.declared.event.Event.{Event}
use Rattle.kdf_schedule.specs.declared.event.Event.TheVariants.{Orders}
use Rattle.kdf_schedule.specs.Calls.{calls_made, calls_of, orders_in}
use Rattle.kdf_schedule.proofs.Schedules.{calls_made-one, order_count-drop}
use Rattle.kdf_theory.specs.Follows.{IsRising}
use Rattle.kdf_theory.proofs.Course.EventsInTurn.{ended_early, ended_late, no_calls, rises-first, rises-rest, some_more}
use Rattle.kdf_check.proofs.Nexts.{live-so}
use Rattle.kdf_check.proofs.Pairs.{pair}
use Rattle.kdf_check.proofs.schedule.follow_each.Goals as goal

-- the next event, and those behind it
first_made : (es : List Event) (i : ℕ) → i < length es → calls_made (take 1 (drop i es)) ≡ calls_of (get_or es i (Orders 0))
first_made es i lt = ap (λ (fs : List Event). calls_made (take 1 fs)) (drop-cons es i (Orders 0) lt) ∙ calls_made-one (get_or es i (Orders 0))

rises-from : (es : List Event) (i : ℕ) (t : ℕ) → i < length es → IsRising t (drop i es) → IsRising t (get_or es i (Orders 0) ∷ drop (i + 1) es)
rises-from es i t lt rises = subst (IsRising t) (drop-cons es i (Orders 0) lt ∙ ap (λ (n : ℕ). get_or es i (Orders 0) ∷ drop n es) (sym (add-one i))) rises

pub returns-then-not-is_any_on-clause-keeps : goal.returns-then-not-is_any_on-clause-keeps
returns-then-not-is_any_on-clause-keeps g c = c.loop-event.invariant.keeps

pub returns-clause-steps : goal.returns-clause-steps
returns-clause-steps g c =
    ended_late g.slots (steps c.args.journal.now.entries) c.args.events.now c.loop-event.event-index g.slots c.loop-event.journal.entries
    c.loop-event.invariant.keeps.legal refl c.loop-event.invariant.taken c.loop-event-test.false

pub returns-clause-keeps : goal.returns-clause-keeps
returns-clause-keeps g c = c.loop-event.invariant.keeps

pub loop-event-init : goal.loop-event-init
loop-event-init g c = record {
  taken = no_calls g.slots (steps c.args.journal.now.entries) c.args.events.now;
  keeps = c.requires.1.1.0;
  few = c.requires.1.1.1.0;
  few_moves = c.requires.1.1.1.1.0;
  rises = c.requires.1.1.1.1.1.0;
}

pub returns-then-not-is_any_on-clause-steps : goal.returns-then-not-is_any_on-clause-steps
returns-then-not-is_any_on-clause-steps g c =
    ended_early g.slots (steps c.args.journal.now.entries) c.args.events.now c.loop-event.event-index g.slots c.loop-event.journal.entries
    c.loop-event.invariant.keeps.legal refl c.loop-event.invariant.taken
    (live-so (λ n a. goal.F-post g c.args.service.now n a) g.slots c.loop-event.journal.entries c.loop-event.table.places c.loop-event.programs.items
    c.loop-event.invariant.keeps c.deref.result.now c.is_any_on.result false c.deref.ensures.value c.is_any_on.ensures c.if-not-is_any_on.true)

pub make_calls-requires : goal.make_calls-requires
make_calls-requires g c =
    let es = c.args.events.now in
    let i = c.loop-event.event-index in
    let e = get_or es i (Orders 0) in
    let lt : i < length es = omega arith in
    let few : calls c.loop-event.journal.entries + orders_in e ≤ 20000000 = omega (arith, c.loop-event.invariant.few, order_count-drop es i (Orders 0) lt) in
    let few_moves : moves c.loop-event.journal.entries + 4096 ≤ 2048000000 = omega (arith, c.loop-event.invariant.few_moves, length-drop i es) in
    λ lives within. pair within
    (pair c.requires.1.0
    (pair (live-so (λ n a. goal.F-post g c.args.service.now n a) g.slots c.loop-event.journal.entries c.loop-event.table.places c.loop-event.programs.items
    c.loop-event.invariant.keeps c.deref.result.now c.is_any_on.result true c.deref.ensures.value c.is_any_on.ensures c.if-not-is_any_on.false)
    (pair c.loop-event.invariant.keeps
    (pair few
    (pair few_moves
    (pair (rises-first (clock c.loop-event.journal.entries) e _ (rises-from es i (clock c.loop-event.journal.entries) lt c.loop-event.invariant.rises))
    (c.requires.1.1.1.1.1.1 i (Orders 0) lt)))))))

pub loop-event-preserved : goal.loop-event-preserved
loop-event-preserved g c =
    let es = c.args.events.now in
    let i = c.loop-event.event-index in
    let e = get_or es i (Orders 0) in
    let lt : i < length es = omega arith in
    let new = c.in_ok-make_calls.ensures in
    record {
      taken =
          some_more g.slots (steps c.args.journal.now.entries) es i g.slots c.loop-event.journal.entries c.loop-event.invariant.keeps.legal refl
          c.loop-event.invariant.taken c.make_calls.new.journal.entries 1 e (first_made es i lt)
          (live-so (λ n a. goal.F-post g c.args.service.now n a) g.slots c.loop-event.journal.entries c.loop-event.table.places c.loop-event.programs.items
          c.loop-event.invariant.keeps c.deref.result.now c.is_any_on.result true c.deref.ensures.value c.is_any_on.ensures c.if-not-is_any_on.false)
          new.steps;
      keeps = new.keeps;
      few = omega (arith, c.loop-event.invariant.few, new.calls, order_count-drop es i (Orders 0) lt);
      few_moves = omega (arith, c.loop-event.invariant.few_moves, new.moves, length-drop i es, length-drop (i + 1) es);
      rises = rw new.time (rises-rest (clock c.loop-event.journal.entries) e _
          (rises-from es i (clock c.loop-event.journal.entries) lt c.loop-event.invariant.rises));
    }
