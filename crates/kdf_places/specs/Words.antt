-- The one store, its groups here or out, the leases of those that are out, and the words of a window.
use Rattle.std.specs.Prelude.{ℕ, ◌+◌, ◌/◌, ◌%◌, ◌&&◌, nat_le, nat_lt, ◌==◌, List, length, map, Bool, false, Option, Some, None, if◌then◌else◌, slice_index}
use Rattle.std.specs.List.{range_with_len}
use Rattle.kdf_lockout.specs.Groups.{Cells, Lent, group_at}
use Rattle.kdf_transfer.specs.InFlight.{lent_at}
use Rattle.std.proofs.Common.{zero, suc}
use Rattle.kdf_transfer.specs.ByNumber.{device_count}

-- a lease has a group
abbrev pub has_group : Option Lent → ℕ → Bool
has_group None g = false
has_group (Some l) g = nat_le l.first g && nat_lt g (l.first + length l.groups)

-- the word of a group that is out, in the leases of the devices below n
abbrev pub word_out : ℕ → (ℕ → Option Lent) → ℕ → ℕ
word_out zero leases place = 0
word_out (suc d) leases place =
    if has_group (leases d) (place / 32) then lent_at (leases d) place else word_out d leases place

-- the word at a place whose group is so
abbrev pub word_where : (ℕ → Option Lent) → ℕ → Option (List ℕ) → ℕ
word_where leases place None = word_out device_count leases place
word_where leases place (Some words) = slice_index words (place % 32)

-- the word at a place, here or out
abbrev pub word_at_place : Cells → (ℕ → Option Lent) → ℕ → ℕ
word_at_place store leases place = word_where leases place (group_at store (place / 32))

-- the words of a program whose window begins at base
abbrev pub own_words : ℕ → ℕ → Cells → (ℕ → Option Lent) → List ℕ
own_words base size store leases =
    map (λ a. word_at_place store leases (base + a)) (range_with_len 0 size)

-- the leases, that of a device being another
abbrev pub with_lease : ℕ → Option Lent → (ℕ → Option Lent) → ℕ → Option Lent
with_lease d l leases x = if x == d then l else leases x
