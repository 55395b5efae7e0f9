-- What the try of a program's next order comes to, by its lone state and what of it is pending.
use Rattle.std.specs.Prelude.{◌≡◌, ◌+◌, ℕ, List, Option, Some, None, not, true}
use Rattle.kdf_journal.specs.declared.entry.Entry.{Entry}
use Rattle.kdf_journal.specs.Counts.{over}
use Rattle.kdf_journal.specs.Steps.{JournalStep, Obeys, Holds}
use Rattle.kdf_transfer.specs.Slots.{Slot}
use Rattle.kdf_processor.specs.declared.registers.Registers.{Registers}
use Rattle.kdf_journal.specs.declared.need.Need.{Need}
use Rattle.kdf_processor.specs.declared.step.Step.{Step}
use Rattle.kdf_processor.specs.Effect.{Question}
use Rattle.kdf_processor.specs.Outcome.{Outcome, held_or}
use Rattle.kdf_processor.specs.Row.{next_of, taken}
use Rattle.kdf_alone.specs.declared.lone_port.LonePort.{LonePort}
use Rattle.kdf_alone.specs.LonePort.{state_with}
use Rattle.kdf_theory.specs.Legal.{note_of, IsLegal, IsTrue}
use Rattle.kdf_theory.specs.Slots.{AreSlots}
use Rattle.kdf_theory.specs.ByJournal.{lone_world, own}
use Rattle.kdf_theory.specs.True.{truth}
use Rattle.kdf_theory.specs.World.{first_need}
use Rattle.kdf_check.specs.Around.{Around}
use Rattle.kdf_check.specs.declared.table.Pending.{Pending}
use Rattle.kdf_check.specs.CheckPort.{entry_after, IsInTable, table_after}
use Rattle.kdf_check.specs.Tracks.{IsAround}

-- what program p is truly answered, where the service is heard to answer so
abbrev pub lone_truth : List Slot → List Entry → ℕ → ℕ → Question → ℕ
lone_truth slots J heard p = truth (lone_world slots J) J p heard

-- what its next order comes to: it is held by the first of its needs that is pending, or does what it does by itself, truly answered
abbrev pub outcome_by : List Slot → List Entry → ℕ → ℕ → Option Need → Outcome
outcome_by slots J heard p held =
    held_or (own slots J p).registers held (next_of (own slots J p) (lone_truth slots J heard p))

abbrev pub outcome_of : List Slot → List Entry → ℕ → ℕ → Outcome
outcome_of slots J heard p = outcome_by slots J heard p (first_need (lone_world slots J) p)

-- the step that it makes in its turn: it is held, or it obeys
abbrev pub step_by : List Slot → List Entry → ℕ → ℕ → Option Need → JournalStep
step_by slots J heard p None = Obeys p (note_of (own slots J p) (lone_truth slots J heard p))
step_by slots J heard p (Some need) = Holds p need

abbrev pub step_of : List Slot → List Entry → ℕ → ℕ → JournalStep
step_of slots J heard p = step_by slots J heard p (first_need (lone_world slots J) p)

-- program p is live, it has its lone state over its lone port, and what stands around it is as the journal tells
pub record IsPosed (slots : List Slot) (J : List Entry) (p : ℕ) (around : Around) (registers : Registers)
    (bench : LonePort) : Type 0 where
  pub are : AreSlots slots
  pub legal : IsLegal slots J
  pub truly : IsTrue slots J
  pub around_is : IsAround slots J around
  pub live : not (over p J) ≡ true
  pub own_is : state_with registers bench ≡ own slots J p

-- its next order was tried there, and came out so: this is what it has, what is pending, and what the journal tells of the order
pub record IsTried (slots : List Slot) (J : List Entry) (p : ℕ) (around : Around) (o : Outcome) (ending : Step)
    (registers : Registers) (bench : LonePort) (table : List (Option Pending)) (entry : Option Entry) : Type 0 where
  pub ending_is : ending ≡ o.step
  pub state : state_with registers bench ≡ taken o (own slots J p)
  pub table_is : table ≡ table_after p o.act around.table
  pub inside : IsInTable o.act
  pub entry_is : entry ≡ entry_after p ((own slots J p).registers.ran + 1) o.act None
