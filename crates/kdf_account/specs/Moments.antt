-- The moments of a run.
use Rattle.std.specs.Prelude.{◌≡◌, ℕ, ◌<◌, List, map, take, length, slice_index_or}
use Rattle.kdf_journal.specs.declared.entry.Entry.{Entry}
use Rattle.kdf_journal.specs.Counts.{calls}
use Rattle.kdf_account.specs.declared.moment.Moment.{Moment}

-- the entries of these moments
abbrev pub entries_of : List Moment → List Entry
entries_of ms = map (λ (m : Moment). m.entry) ms

-- each moment tells how many calls the entries before it answer
abbrev pub AreCounted : List Moment → Type 0
AreCounted ms = (i : ℕ) → (m : Moment) → i < length ms → (slice_index_or ms i m).call ≡ calls (entries_of (take i ms))

-- and so many calls all of them answer
pub record IsAccount (ms : List Moment) (n : ℕ) : Type 0 where
  pub counted : AreCounted ms
  pub all : n ≡ calls (entries_of ms)
