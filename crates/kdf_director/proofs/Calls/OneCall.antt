-- What one call of a machine makes of its journal.
use Rattle.std.proofs.Common.{◌≡◌, ℕ, ◌+◌, ◌-◌, ◌≤◌, [], ◌∷◌, true, ◌∙◌, ap, arith, subst, sym}
use Rattle.kdf_journal.specs.Counts.{calls, clock, moves}
use Rattle.kdf_journal.specs.Steps.{JournalStep, Obeys, Holds, Waits, steps}
use Rattle.kdf_journal.proofs.Added.{calls_by, calls-added, moves-added, clock_by, clock-added}
use Rattle.kdf_schedule.specs.Calls.{Call}
use Rattle.kdf_course.specs.Follows.{call_of, Reaches}
use Rattle.kdf_course.proofs.Reaching.{reach-added, reach-nil}
use Rattle.kdf_course.specs.Legal as course
use Rattle.kdf_director.specs.declared.machine.Progress.{Progress}
use Rattle.kdf_director.specs.declared.machine.Progress.TheVariants as progress
use Rattle.kdf_director.specs.Advance.{Advance, Enters}
use Rattle.kdf_theory.proofs.Course.OneJournal.{true_for_added}
use Rattle.kdf_theory.specs.Legal.{note_of, IsLegal}
use Rattle.kdf_theory.specs.Next.{lone_dispatched, any_live}
use Rattle.kdf_theory.specs.MachineView.{MachineView, state_at, world_of}
use Rattle.kdf_theory.specs.True.{truth}
use Rattle.kdf_theory.specs.Served.{is_true_for, IsTrueFor}

pub calls-took : (heard : ℕ) (m n : MachineView) (r : Progress) → Advance heard m n r → calls n.journal ≤ calls m.journal + 1
calls-took heard m n progress.AllEnded took = omega (arith, ap (λ (x : MachineView). calls x.journal) took.1)
calls-took heard m n (progress.Ran p) took =
    omega (arith, ap calls took.journal, calls-added m.journal (Obeys p (note_of (state_at m p) (truth (world_of m) m.journal p heard))))
calls-took heard m n (progress.Held p need) took = omega (arith, ap calls took.journal, calls-added m.journal (Holds p need))
calls-took heard m n progress.Idle took = omega (arith, ap calls took.journal, calls-added m.journal Waits)

pub moves-took : (heard : ℕ) (m n : MachineView) (r : Progress) → Advance heard m n r → moves n.journal ≡ moves m.journal
moves-took heard m n progress.AllEnded took = ap (λ (x : MachineView). moves x.journal) took.1
moves-took heard m n (progress.Ran p) took =
    omega (arith, ap moves took.journal, moves-added m.journal (Obeys p (note_of (state_at m p) (truth (world_of m) m.journal p heard))))
moves-took heard m n (progress.Held p need) took = omega (arith, ap moves took.journal, moves-added m.journal (Holds p need))
moves-took heard m n progress.Idle took = omega (arith, ap moves took.journal, moves-added m.journal Waits)

pub clock-took : (heard : ℕ) (m n : MachineView) (r : Progress) → Advance heard m n r → clock n.journal ≡ clock m.journal
clock-took heard m n progress.AllEnded took = ap (λ (x : MachineView). clock x.journal) took.1
clock-took heard m n (progress.Ran p) took = ap clock took.journal
    ∙ clock-added m.journal (Obeys p (note_of (state_at m p) (truth (world_of m) m.journal p heard)))
clock-took heard m n (progress.Held p need) took = ap clock took.journal ∙ clock-added m.journal (Holds p need)
clock-took heard m n progress.Idle took = ap clock took.journal ∙ clock-added m.journal Waits

-- an event that is entered answers its call
pub entered_on : (m n : MachineView) (c : Call) (s : JournalStep) → IsLegal m.slots m.journal → any_live m.slots m.journal ≡ true → call_of s ≡ c → Enters m n s
    → Reaches (lone_dispatched m.slots) (steps m.journal) (c ∷ []) (steps n.journal)
entered_on m n c s l live is e =
    reach-added (lone_dispatched m.slots) (steps m.journal) m.journal n.journal [] c s l.in_form (reach-nil (lone_dispatched m.slots) (steps m.journal)) live
    is (ap (λ (x : MachineView). x.journal) e)

module _ (m n : MachineView) (s : JournalStep) (e : Enters m n s) where
  pub calls-entered : calls n.journal ≡ calls m.journal + calls_by s
  calls-entered = ap (λ (x : MachineView). calls x.journal) e ∙ calls-added m.journal s

  pub clock-entered : clock n.journal ≡ clock_by (clock m.journal) s
  clock-entered = ap (λ (x : MachineView). clock x.journal) e ∙ clock-added m.journal s

-- an event that is entered has no answer
pub true_entered : (answers : ℕ → ℕ → Type 0) (m n : MachineView) (s : JournalStep) → IsLegal m.slots m.journal → IsTrueFor answers m.slots m.journal
    → course.Noted (is_true_for answers m.slots m.journal) s → Enters m n s → IsTrueFor answers n.slots n.journal
true_entered answers m n s l truly noted is =
    subst (λ (x : MachineView). IsTrueFor answers x.slots x.journal) (sym is) (true_for_added answers m.slots m.journal s l truly noted)
