-- A call that does something found a live program.
use Rattle.std.specs.Prelude.{replicate}
use Rattle.std.proofs.Common.{◌≡◌, ℕ, ◌≤◌, false, List, sym, ◌∙◌, subst}
use Rattle.std.proofs.lemmas.Bool.{true≢false}
use Rattle.kdf_journal.specs.Steps.{JournalStep, steps}
use Rattle.kdf_schedule.specs.Calls.{AnOrder}
use Rattle.kdf_course.specs.Follows.{Reaches}
use Rattle.kdf_transfer.specs.Slots.{Slot}
use Rattle.kdf_director.specs.declared.machine.Progress.{Progress}
use Rattle.kdf_director.specs.declared.machine.Progress.TheVariants as progress
use Rattle.kdf_director.specs.Advance.{Advance}
use Rattle.kdf_theory.specs.Legal.{IsLegal}
use Rattle.kdf_theory.specs.Next.{any_live, lone_dispatched}
use Rattle.kdf_director.specs.Progressed.{found_live}
use Rattle.kdf_theory.specs.MachineView.{MachineView, world_of}
use Rattle.kdf_theory.proofs.Course.NextLives.{next_found}
use Rattle.kdf_theory.proofs.Course.EventsInTurn.{rested}

-- ---- what a call answers

-- a program was live where the answer tells so
pub found_is : (heard : ℕ) (m n : MachineView) (r : Progress) → Advance heard m n r → any_live m.slots m.journal ≡ found_live r
found_is heard m n progress.AllEnded took = took.0
found_is heard m n (progress.Ran p) took = next_found (world_of m) m.slots m.journal p took.was_next
found_is heard m n (progress.Held p need) took = next_found (world_of m) m.slots m.journal p took.was_next
found_is heard m n progress.Idle took = took.live

-- and else nothing was done
nothing_done : (heard : ℕ) (m n : MachineView) (r : Progress) → Advance heard m n r → found_live r ≡ false → n ≡ m
nothing_done heard m n progress.AllEnded took none = took.1
nothing_done heard m n (progress.Ran p) took none = absurd (true≢false none)
nothing_done heard m n (progress.Held p need) took none = absurd (true≢false none)
nothing_done heard m n progress.Idle took none = absurd (true≢false none)

-- so the orders are over
pub rested_at : (slots0 : List Slot) (P : List JournalStep) (i k : ℕ) (heard : ℕ) (m n : MachineView) (r : Progress) → IsLegal m.slots m.journal
    → m.slots ≡ slots0
    → Reaches (lone_dispatched slots0) P (replicate i AnOrder) (steps m.journal) → Advance heard m n r → found_live r ≡ false → i ≤ k
    → Reaches (lone_dispatched slots0) P (replicate k AnOrder) (steps n.journal)
rested_at slots0 P i k heard m n r l same taken took none le =
    subst (λ (x : MachineView). Reaches (lone_dispatched slots0) P (replicate k AnOrder) (steps x.journal)) (sym (nothing_done heard m n r took none))
    (rested m.slots slots0 m.journal P i k l same taken (found_is heard m n r took ∙ none) le)
