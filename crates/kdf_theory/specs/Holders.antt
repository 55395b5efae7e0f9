-- Which program took a device of the pool, as a journal tells it.
use Rattle.std.specs.Prelude.{ℕ, ◌==◌, List, Bool, false, Option, Some, None, is_some, slice_index_or}
use Rattle.kdf_journal.specs.declared.entry.Entry.{Entry}
use Rattle.kdf_journal.specs.Counts.{holder}
use Rattle.kdf_processor.specs.State.{State}

-- the taker is this program
abbrev pub is_taker : ℕ → Option ℕ → Bool
is_taker p None = false
is_taker p (Some q) = q == p

-- the holder of each device of the pool
abbrev pub held_by : List Entry → ℕ → Option ℕ
held_by J d = holder d J

-- a device of the pool has a holder
abbrev pub is_held : List Entry → ℕ → Bool
is_held J d = is_some (holder d J)

-- the program has claimed the device
abbrev pub has_mark : State → ℕ → Bool
has_mark s d = slice_index_or s.stock.claims.claimed d false
