-- What a printed journal is worth. Each of its lines tells an entry, or none: then it is one that no journal has.
-- `answers n a` says that a is one of the service's answers to n.
use Rattle.std.specs.Prelude.{◌≡◌, ℕ, ◌+◌, ◌<◌, ◌≤◌, ◌⊎◌, List, length, map, take, Option, Some}
use Rattle.kdf_transfer.specs.Slots.{Slot}
use Rattle.kdf_journal.specs.declared.entry.Entry.{Entry}
use Rattle.kdf_schedule.specs.declared.event.Event.{Event}
use Rattle.kdf_theory.specs.Served.{IsJournalFor}
use Rattle.kdf_check.specs.declared.verdict.Verdict.{Verdict}
use Rattle.kdf_check.specs.declared.verdict.Verdict.TheVariants.{Yes, No}

-- lines that tell just these entries
abbrev pub told : List Entry → List (Option Entry)
told J = map (λ (e : Entry). Some e) J

-- the lines tell the journal of the slots under the schedule
abbrev pub TellJournal : (answers : ℕ → ℕ → Type 0) → List Slot → List Event → List (Option Entry) → Type 0
TellJournal answers slots events lines = (J : List Entry) × IsJournalFor answers slots events J × (lines ≡ told J)

-- such a journal begins as the first k lines tell
abbrev pub CanGoOn : (answers : ℕ → ℕ → Type 0) → List Slot → List Event → List (Option Entry) → ℕ → Type 0
CanGoOn answers slots events lines k =
    (J : List Entry) × IsJournalFor answers slots events J × (take k lines ≡ take k (told J))

-- k is the least number, from 1, of first lines as which no journal begins, or one more than the number of lines, where
-- there is no such number
pub record IsFirstWrong (answers : ℕ → ℕ → Type 0) (slots : List Slot) (events : List Event) (lines : List (Option Entry)) (k : ℕ) : Type 0 where
  pub counted : 1 ≤ k
  pub before : (j : ℕ) → 1 ≤ j → j < k → (j ≤ length lines) × CanGoOn answers slots events lines j
  pub here : (k ≡ length lines + 1) ⊎ ((k ≤ length lines) × (CanGoOn answers slots events lines k → ⊥))

-- the verdict on the lines
abbrev pub IsVerdict : (answers : ℕ → ℕ → Type 0) → List Slot → List Event → List (Option Entry) → Verdict → Type 0
IsVerdict answers slots events lines Yes = TellJournal answers slots events lines
IsVerdict answers slots events lines (No k) =
    (TellJournal answers slots events lines → ⊥) × IsFirstWrong answers slots events lines k
