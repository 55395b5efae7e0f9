-- Which devices a program has claimed, and which it may claim.
use Rattle.std.specs.Prelude.{ℕ, ◌==◌, Bool, false, not, ◌&&◌, nat_lt, Option, Some, None, is_some, if◌then◌else◌, find, slice_index_or, unwrap_or}
use Rattle.std.specs.List.{range_with_len}
use Rattle.kdf_journal.specs.declared.kind.Kind.{Kind}
use Rattle.kdf_journal.specs.declared.kind.Kind.TheVariants.{Tr, Tp, Cr, Lp}
use Rattle.kdf_transfer.specs.Devices.{is_kind, is_wanted, kind_in}
use Rattle.kdf_transfer.specs.declared.wanted.Wanted.{Wanted}
use Rattle.kdf_processor.specs.State.{Claims, fixture_at, own_fixture_at, pool_kind_at, device_limit}

-- the kind of a device of the program or of the pool
abbrev pub kind_at : Claims → ℕ → Option Kind
kind_at c d = kind_in (fixture_at c d)

-- the kind of a device that the program has claimed
abbrev pub claim : Claims → ℕ → Option Kind
claim c d =
    if nat_lt d device_limit && slice_index_or c.claimed d false then kind_at c d else None

-- the program has claimed a device
abbrev pub is_claimed : Claims → ℕ → Bool
is_claimed c d = is_some (claim c d)

-- a device of the program's own is what a claim wants, and isn't claimed
abbrev pub is_free : Wanted → Claims → ℕ → Bool
is_free wanted c d = is_wanted wanted (own_fixture_at c d) && not (is_claimed c d)

-- the least such device
unfoldable pub free_for : Wanted → Claims → Option ℕ
free_for wanted c = find (is_free wanted c) (range_with_len 0 device_limit)

-- the kinds that a program may claim by number
abbrev pub kind_numbered : ℕ → Option Kind
kind_numbered n =
    if n == 1 then Some Tp
    else (if n == 2 then Some Tr
    else (if n == 3 then Some Lp
    else (if n == 4 then Some Cr
    else None)))

-- a device of the pool is of this kind, and the program hasn't claimed it
abbrev pub can_take : Claims → Kind → ℕ → Bool
can_take c k d = is_kind k (pool_kind_at c d) && not (is_claimed c d)

-- the least such device
unfoldable pub least_pooled : Claims → Kind → Option ℕ
least_pooled c k = find (can_take c k) (range_with_len 0 device_limit)

-- there is one
abbrev pub may_take : Claims → Kind → Bool
may_take c k = is_some (least_pooled c k)

-- the device that is taken where a is the answer: a itself where it is such, else the least
abbrev pub taken_device : Claims → Kind → ℕ → ℕ
taken_device c k a = if can_take c k a then a else unwrap_or (least_pooled c k) 0
