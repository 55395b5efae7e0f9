-- How programs that are followed, and the table beside them, keep to a journal. `answers n a` says that a is one of the service's
-- answers to n.
use Rattle.std.specs.Prelude.{◌≡◌, ℕ, zero, suc, ◌&&◌, not, Bool, true, false, List, length, Option, Some, None, is_some, slice_index_or}
use Rattle.kdf_journal.specs.declared.entry.Entry.{Entry}
use Rattle.kdf_journal.specs.Counts.{last_hold}
use Rattle.kdf_journal.specs.Steps.{JournalStep, added}
use Rattle.kdf_transfer.specs.Slots.{Slot}
use Rattle.kdf_schedule.specs.Calls.{Call, AnOrder}
use Rattle.kdf_course.specs.Follows.{call_of}
use Rattle.kdf_course.specs.Legal.{Noted}
use Rattle.kdf_journal.specs.declared.need.Need.{Need}
use Rattle.kdf_processor.specs.Lone.{is_live}
use Rattle.kdf_processor.specs.View.{is_pending}
use Rattle.kdf_alone.specs.LonePort.{state_with, stock_of}
use Rattle.kdf_theory.specs.Legal.{IsLegal, Meets}
use Rattle.kdf_theory.specs.Next.{any_live}
use Rattle.kdf_theory.specs.Served.{is_true_for, IsTrueFor}
use Rattle.kdf_theory.specs.Slots.{AreSlots, slot_of}
use Rattle.kdf_theory.specs.ByJournal.{lone_world, own}
use Rattle.kdf_check.specs.Around.{Around}
use Rattle.kdf_check.specs.declared.table.Pending.{Pending}
use Rattle.kdf_check.specs.declared.program.Program.{Program}
use Rattle.kdf_check.specs.CheckPort.{shown_by}
use Rattle.kdf_check.specs.Tracks.{Tells}

-- ---- which program goes on

-- a program is live
abbrev pub is_on : Option Program → Bool
is_on None = false
is_on (Some x) = is_live x.registers.state

-- what held it is pending still
abbrev pub is_stopped : Around → Program → Option Need → Bool
is_stopped around x None = false
is_stopped around x (Some need) = is_pending (shown_by x.p around (stock_of x.bench)) need

-- it is live, and nothing holds it up still
abbrev pub goes : Around → Option Program → Bool
goes around None = false
goes around (Some x) = is_live x.registers.state && not (is_stopped around x x.hold)

-- what stands at the place of a slot
abbrev pub place_at : List (Option Program) → ℕ → Option Program
place_at programs p = slice_index_or programs p None

-- ---- what is kept

-- the program of slot p has its lone state, and what held it is known
pub record IsFollowed (slots : List Slot) (J : List Entry) (p : ℕ) (x : Program) : Type 0 where
  pub there : is_some (slot_of slots p) ≡ true
  pub number : x.p ≡ p
  pub own_is : state_with x.registers x.bench ≡ own slots J p
  pub hold_is : x.hold ≡ last_hold p J

abbrev pub IsKeptAt : List Slot → List Entry → ℕ → Option Program → Type 0
IsKeptAt slots J p None = is_some (slot_of slots p) ≡ false
IsKeptAt slots J p (Some x) = IsFollowed slots J p x

-- the journal is legal, and true for the service, the table tells what is pending by it, and each program keeps to it
pub record Keeps (answers : ℕ → ℕ → Type 0) (slots : List Slot) (J : List Entry) (table : List (Option Pending))
    (programs : List (Option Program)) : Type 0 where
  pub are : AreSlots slots
  pub legal : IsLegal slots J
  pub truly : IsTrueFor answers slots J
  pub tells : Tells slots J table
  pub four : length programs ≡ 4
  pub each : (p : ℕ) → IsKeptAt slots J p (place_at programs p)

-- ---- a call

-- the journal K has one step more than J, which answers the call as the rules have it, and is true for the service
pub record GoesOn (answers : ℕ → ℕ → Type 0) (slots : List Slot) (J : List Entry) (c : Call) (K : List Entry) : Type 0 where
  pub step : JournalStep
  pub call : call_of step ≡ c
  pub heard : ℕ
  pub meets : Meets (lone_world slots J) slots J heard step
  pub truly : Noted (is_true_for answers slots J) step
  pub entered : K ≡ added J step

-- so it is with so many calls, one after another, each of which found a live program
abbrev pub GoesOnFor : (answers : ℕ → ℕ → Type 0) → List Slot → ℕ → List Entry → List Entry → Type 0
GoesOnFor answers slots zero J K = K ≡ J
GoesOnFor answers slots (suc n) J K =
    (between : List Entry) × GoesOnFor answers slots n J between × (any_live slots between ≡ true) × GoesOn answers slots between AnOrder K
