use Rattle.std.specs.List.{All}
use Rattle.std.proofs.Common.{◌+◌, ◌*◌, ◌≤◌, ℕ, List, [], length, sym, ap, ◌∙◌, subst, arith}
use Rattle.kdf_journal.specs.Counts.{calls, clock, moves}
use Rattle.kdf_journal.specs.Steps.{JournalStep, steps}
use Rattle.kdf_journal.proofs.Steps.{steps-nil}
use Rattle.kdf_schedule.specs.declared.event.Event.{Event}
use Rattle.kdf_schedule.specs.Calls.{calls_made, order_count}
use Rattle.kdf_schedule.specs.Events.{IsInRange}
use Rattle.kdf_course.specs.Follows.{Reaches}
use Rattle.kdf_course.proofs.Reaching.{reach-whole}
use Rattle.kdf_theory.specs.Follows.{IsRising}
use Rattle.kdf_theory.specs.Next.{lone_dispatched}
use Rattle.kdf_check.proofs.Pairs.{pair}
use Rattle.kdf_check.proofs.schedule.follow.Goals as goal

pub follow_each-requires : goal.follow_each-requires
follow_each-requires g c =
    let es = c.deref.result.now in
    let is = c.deref.ensures.value in
    let J = c.args.journal.now.entries in
    let fresh = c.requires.1.1.0 in
    let few : calls J + order_count es ≤ 20000000 = omega (arith, ap calls fresh, ap order_count is, c.requires.1.1.1.1.1.0) in
    let few_moves : moves J + 4096 * length es ≤ 2048000000 = omega (arith, ap moves fresh, ap length is, c.requires.1.1.1.1.0) in
    λ lives within. pair within
    (pair c.requires.1.0
    (pair c.requires.1.1.1.0
    (pair few
    (pair few_moves
    (pair (subst (λ (t : ℕ). IsRising t es) (sym (ap clock fresh)) (subst (IsRising 0) (sym is) c.requires.1.1.1.1.1.1.0))
    (subst (λ (fs : List Event). All IsInRange fs) (sym is) c.requires.1.1.1.1.1.1.1))))))

pub returns : goal.returns
returns g c =
    let es = c.args.source.job.now.events.items in
    let K = c.follow_each.new.journal.entries in
    let keeps = c.in_ok-follow_each.ensures.keeps in
    record {
      legal = keeps.legal;
      truly = keeps.truly;
      whole =
          reach-whole (lone_dispatched g.slots) (calls_made es) K keeps.legal.in_form
          (subst (λ (fs : List Event). Reaches (lone_dispatched g.slots) [] (calls_made fs) (steps K)) c.deref.ensures.value
          (subst (λ (P : List JournalStep). Reaches (lone_dispatched g.slots) P (calls_made c.deref.result.now) (steps K))
          (ap steps c.requires.1.1.0 ∙ steps-nil)
          c.in_ok-follow_each.ensures.steps));
    }
