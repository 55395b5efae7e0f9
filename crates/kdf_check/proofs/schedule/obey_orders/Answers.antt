use Rattle.std.proofs.Common.{◌≡◌, ℕ, ◌<◌, ◌≤◌, ◌+◌, ◌-◌, List, refl, sym, ◌∙◌, subst, arith}
use Rattle.std.specs.Prelude.{replicate}
use Rattle.kdf_journal.specs.declared.entry.Entry.{Entry}
use Rattle.kdf_journal.specs.Counts.{calls, moves}
use Rattle.kdf_journal.specs.Steps.{steps}
use Rattle.kdf_schedule.specs.Calls.{AnOrder}
use Rattle.kdf_course.specs.Follows.{Reaches}
use Rattle.kdf_course.proofs.Reaching.{reach-nil}
use Rattle.kdf_theory.specs.Next.{lone_dispatched}
use Rattle.kdf_theory.proofs.Course.EventsInTurn.{rested}
use Rattle.kdf_check.specs.Keeps.{GoesOnFor}
use Rattle.kdf_check.proofs.Calls.{calls-on, moves-on, reach-on, time-on}
use Rattle.kdf_check.proofs.Pairs.{pair}
use Rattle.kdf_check.proofs.schedule.obey_orders.Goals as goal

pub loop-made-init : goal.loop-made-init
loop-made-init g c = record {
  within = omega arith;
  taken = reach-nil (lone_dispatched g.slots) (steps c.args.journal.now.entries);
  keeps = c.requires.1.1.0;
  count = omega arith;
  same_moves = refl;
  time = refl;
}

pub advance-requires : goal.advance-requires
advance-requires g c =
    let was = c.loop-made.invariant in
    let J = c.loop-made.journal.entries in
    let left : 0 < c.args.n - c.loop-made.made = omega (arith, c.loop-made-test.true) in
    let few : calls J + (c.args.n - c.loop-made.made) ≤ 20000000 = omega (arith, was.count, c.requires.1.1.1.0, c.loop-made-test.true) in
    let few_moves : moves J ≤ 2048000000 = omega (arith, was.same_moves, c.requires.1.1.1.1) in
    λ lives within. pair within (pair c.requires.1.0 (pair was.keeps (pair left (pair few few_moves))))

pub loop-made-preserved : goal.loop-made-preserved
loop-made-preserved g c =
    let answers : ℕ → ℕ → Type 0 = λ n a. goal.F-post g c.args.service.now n a in
    let was = c.loop-made.invariant in
    let J = c.loop-made.journal.entries in
    let K = c.advance.new.journal.entries in
    let more = c.in_ok-more.more in
    let on = c.in_ok-more.ensures.goes_on in
    let le = c.in_ok-more.ensures.within in
    record {
      within = omega (arith, le, c.loop-made-test.true);
      taken = reach-on answers g.slots J (steps c.args.journal.now.entries) c.loop-made.made more K was.keeps.legal was.taken on;
      keeps = c.in_ok-more.ensures.keeps;
      count = omega (arith, calls-on answers g.slots J more K on, was.count);
      same_moves = moves-on answers g.slots J more K on ∙ was.same_moves;
      time = time-on answers g.slots J more K on ∙ was.time;
    }

pub returns-then-more-eq0-clause-steps : goal.returns-then-more-eq0-clause-steps
returns-then-more-eq0-clause-steps g c =
    let P = steps c.args.journal.now.entries in
    let was = c.loop-made.invariant in
    let J = c.loop-made.journal.entries in
    let K = c.advance.new.journal.entries in
    let none : K ≡ J =
    subst (λ (m : ℕ). GoesOnFor (λ n a. goal.F-post g c.args.service.now n a) g.slots m J K) c.if-more-eq0.true c.in_ok-more.ensures.goes_on in
    subst (λ (E : List Entry). Reaches (lone_dispatched g.slots) P (replicate c.args.n AnOrder) (steps E)) (sym none)
    (rested g.slots g.slots J P c.loop-made.made c.args.n was.keeps.legal refl was.taken (c.in_ok-more.ensures.none c.if-more-eq0.true) was.within)

pub returns-then-more-eq0-clause-keeps : goal.returns-then-more-eq0-clause-keeps
returns-then-more-eq0-clause-keeps g c = c.in_ok-more.ensures.keeps

pub returns-then-more-eq0-clause-calls : goal.returns-then-more-eq0-clause-calls
returns-then-more-eq0-clause-calls g c =
    let answers : ℕ → ℕ → Type 0 = λ n a. goal.F-post g c.args.service.now n a in
    let was = c.loop-made.invariant in
    let count = calls-on answers g.slots c.loop-made.journal.entries c.in_ok-more.more c.advance.new.journal.entries c.in_ok-more.ensures.goes_on in
    omega (arith, count, was.count, was.within, c.if-more-eq0.true)

pub returns-then-more-eq0-clause-moves : goal.returns-then-more-eq0-clause-moves
returns-then-more-eq0-clause-moves g c =
    let answers : ℕ → ℕ → Type 0 = λ n a. goal.F-post g c.args.service.now n a in
    moves-on answers g.slots c.loop-made.journal.entries c.in_ok-more.more c.advance.new.journal.entries c.in_ok-more.ensures.goes_on
    ∙ c.loop-made.invariant.same_moves

pub returns-then-more-eq0-clause-time : goal.returns-then-more-eq0-clause-time
returns-then-more-eq0-clause-time g c =
    let answers : ℕ → ℕ → Type 0 = λ n a. goal.F-post g c.args.service.now n a in
    time-on answers g.slots c.loop-made.journal.entries c.in_ok-more.more c.advance.new.journal.entries c.in_ok-more.ensures.goes_on
    ∙ c.loop-made.invariant.time

pub returns-clause-steps : goal.returns-clause-steps
returns-clause-steps g c =
    let all : c.loop-made.made ≡ c.args.n = omega (arith, c.loop-made-test.false, c.loop-made.invariant.within) in
    let P = steps c.args.journal.now.entries in
    let Q = steps c.loop-made.journal.entries in
    subst (λ (n : ℕ). Reaches (lone_dispatched g.slots) P (replicate n AnOrder) Q) all c.loop-made.invariant.taken

pub returns-clause-keeps : goal.returns-clause-keeps
returns-clause-keeps g c = c.loop-made.invariant.keeps

pub returns-clause-calls : goal.returns-clause-calls
returns-clause-calls g c = omega (arith, c.loop-made.invariant.count, c.loop-made.invariant.within)

pub returns-clause-moves : goal.returns-clause-moves
returns-clause-moves g c = c.loop-made.invariant.same_moves

pub returns-clause-time : goal.returns-clause-time
returns-clause-time g c = c.loop-made.invariant.time
