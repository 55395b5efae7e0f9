-- What turns of a program leave.
use Rattle.std.specs.Prelude.{◌≡◌, ◌≢◌, ℕ, List, Option}
use Rattle.kdf_journal.specs.declared.entry.Entry.{Entry}
use Rattle.kdf_journal.specs.Counts.{last_hold}
use Rattle.kdf_transfer.specs.Slots.{Slot}
use Rattle.kdf_alone.specs.LonePort.{state_with}
use Rattle.kdf_theory.specs.ByJournal.{own}
use Rattle.kdf_check.specs.declared.table.Pending.{Pending}
use Rattle.kdf_check.specs.declared.program.Program.{Program}
use Rattle.kdf_check.specs.Keeps.{GoesOnFor}
use Rattle.kdf_check.specs.Tracks.{Tells}

-- the journal K answers so many calls more than J, in each of which it was the turn of program p: it keeps to K, the others stay, and the table
-- tells what is pending
pub record AreTurned (answers : ℕ → ℕ → Type 0) (slots : List Slot) (made : ℕ) (J : List Entry) (p : ℕ) (x : Program)
    (table : List (Option Pending)) (K : List Entry) : Type 0 where
  pub goes_on : GoesOnFor answers slots made J K
  pub number : x.p ≡ p
  pub own_is : state_with x.registers x.bench ≡ own slots K p
  pub hold_is : x.hold ≡ last_hold p K
  pub others : (q : ℕ) → p ≢ q → own slots K q ≡ own slots J q
  pub other_holds : (q : ℕ) → p ≢ q → last_hold q K ≡ last_hold q J
  pub tells : Tells slots K table
