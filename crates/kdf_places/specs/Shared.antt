-- What all programs share, the store and the places, and what its groups and leases are to one another.
use Rattle.std.specs.Prelude.{List, map, ℕ, ◌-◌, Bool, is_some, ◌≡◌, ◌≢◌, ◌+◌, ◌<◌, ◌≤◌, length, true, false, Some, None, ◌++◌, replicate}
use Rattle.kdf_lockout.specs.Groups.{Cells, Lent, group_at, AreWhole, AreFull}
use Rattle.kdf_places.specs.declared.place.Place.{Place}
use Rattle.kdf_places.specs.Spots.{Spot, spot_of, spot_at, leases_of, no_spot}
use Rattle.kdf_places.specs.Words.{has_group}
use Rattle.kdf_transfer.specs.ByNumber.{device_count}

-- what all programs share: the groups, and the places of the devices
pub record Shared : Type 0 where
  pub cells : Cells
  pub spots : List Spot

abbrev pub shared_in : Cells → List Place → Shared
shared_in cells places = record { cells = cells; spots = map spot_of places }

-- a device has a transfer
abbrev pub is_busy_in : Shared → ℕ → Bool
is_busy_in s d = is_some (spot_at s.spots d).flight

-- each group is here, or in exactly one lease
pub record IsSound (s : Shared) : Type 0 where
  pub spots : length s.spots ≡ device_count
  pub whole : AreWhole s.cells
  pub full : (d : ℕ) (l : Lent) → leases_of s.spots d ≡ Some l → AreFull l
  pub inside : (d : ℕ) (l : Lent) → leases_of s.spots d ≡ Some l
      → l.first + length l.groups ≤ length s.cells
  pub out : (d g : ℕ) → has_group (leases_of s.spots d) g ≡ true → group_at s.cells g ≡ None
  pub alone : (d e g : ℕ) → e ≢ d → has_group (leases_of s.spots d) g ≡ true
      → has_group (leases_of s.spots e) g ≡ false
  pub held : (g : ℕ) → g < length s.cells → group_at s.cells g ≡ None
      → (d : ℕ) × (has_group (leases_of s.spots d) g ≡ true)

-- those that are left, and none after them
abbrev pub padded : List Spot → List Spot
padded spots = spots ++ replicate (device_count - length spots) no_spot

abbrev pub left_in : Cells → List Place → Shared
left_in cells places = record { cells = cells; spots = padded (map spot_of places) }
