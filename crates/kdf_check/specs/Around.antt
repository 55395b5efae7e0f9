-- What of a program is pending, by the table of transfers, and what is free of the pool, by who has its devices.
use Rattle.std.specs.Prelude.{ℕ, ◌==◌, ◌&&◌, not, nat_le, Bool, false, find, List, Option, Some, None, is_some, slice_index_or}
use Rattle.std.specs.List.{filter, list_any, range_with_len}
use Rattle.kdf_journal.specs.declared.entry.Entry.{Entry}
use Rattle.kdf_journal.specs.declared.kind.Kind.{Kind}
use Rattle.kdf_journal.specs.Counts.{clock, holder}
use Rattle.kdf_transfer.specs.Devices.{is_kind}
use Rattle.kdf_processor.specs.State.{Claims, device_limit, pool_kind_at}
use Rattle.kdf_check.specs.declared.table.Pending.{Pending}

-- what a program finds when its order is tried
pub record Around : Type 0 where
  -- the transfers that are pending, of whichever program, by device
  pub table : List (Option Pending)
  -- the live program that has a device of the pool
  pub holders : ℕ → Option ℕ
  -- the time that was set last
  pub time : ℕ
  -- what the service answers, if the order asks it
  pub heard : ℕ

abbrev pub holders_by : List Entry → ℕ → Option ℕ
holders_by J d = holder d J

-- what it finds after this journal, where these transfers are pending and this is heard
abbrev pub around_by : List (Option Pending) → List Entry → ℕ → Around
around_by table J heard = record { table = table; holders = holders_by J; time = clock J; heard = heard }

-- a group is one of these, from the first to the last
abbrev pub is_among : Option (ℕ × ℕ) → ℕ → Bool
is_among None g = false
is_among (Some range) g = nat_le range.0 g && nat_le g range.1

-- what stands at a device's place is a transfer of program p, and its area touches the group
abbrev pub is_of : ℕ → Option Pending → Bool
is_of p None = false
is_of p (Some t) = t.p == p

abbrev pub covers : ℕ → ℕ → Option Pending → Bool
covers p g None = false
covers p g (Some t) = t.p == p && is_among t.groups g

-- a group of program p is out, and a device is busy
abbrev pub is_out_in : ℕ → List (Option Pending) → ℕ → Bool
is_out_in p table g = list_any (covers p g) table

abbrev pub is_busy_in : List (Option Pending) → ℕ → Bool
is_busy_in table d = is_some (slice_index_or table d None)

-- the devices on which it has a transfer, rising
abbrev pub mine_in : ℕ → List (Option Pending) → List ℕ
mine_in p table = filter (λ d. is_of p (slice_index_or table d None)) (range_with_len 0 device_limit)

-- a device of the pool is of a kind, and no program has it
abbrev pub is_free_in : (ℕ → Option ℕ) → Claims → Kind → ℕ → Bool
is_free_in holders c kind d =
    is_kind kind (pool_kind_at c d) && not (is_some (holders d))

-- the least such device
unfoldable pub free_in : (ℕ → Option ℕ) → Claims → Kind → Option ℕ
free_in holders c kind = find (is_free_in holders c kind) (range_with_len 0 device_limit)
