-- What a journal is judged by, whatever the programs are, and which program is next.
-- J is the journal so far, oldest entry first.
use Rattle.std.specs.Prelude.{ℕ, List, not, ◌&&◌, Bool, false, Option, Some, None, find}
use Rattle.std.specs.List.{list_any}
use Rattle.kdf_journal.specs.declared.need.Need.{Need}
use Rattle.kdf_journal.specs.declared.entry.Entry.{Entry}
use Rattle.kdf_journal.specs.Counts.{last_hold, over, priorities, slot_numbers}

-- which programs there are, what of each is pending, and what holds its next order up
pub record Dispatch : Type 0 where
  pub there : ℕ → Bool
  pub pending : ℕ → Need → Bool
  pub held : ℕ → Option Need

-- a program is live until it has ended or failed
unfoldable pub lives : (there : ℕ → Bool) → List Entry → ℕ → Bool
lives there J p = there p && not (over p J)

-- what held a program is pending still
abbrev pub stands : Dispatch → ℕ → Option Need → Bool
stands w p None = false
stands w p (Some by) = w.pending p by

-- a live program without a standing hold
unfoldable pub can_go : Dispatch → List Entry → ℕ → Bool
can_go w J p = lives w.there J p && not (stands w p (last_hold p J))

-- the live program of highest priority that has no standing hold
unfoldable pub next : Dispatch → List Entry → Option ℕ
next w J = find (can_go w J) (priorities J)

-- a program is live
unfoldable pub any_live : (there : ℕ → Bool) → List Entry → Bool
any_live there J = list_any (lives there J) slot_numbers
