-- What holds of a program's devices and stints: which devices stand in their places, and which it has from the pool.
use Rattle.std.specs.Prelude.{◌≡◌, ◌≢◌, ◌<◌, ℕ, Bool, List, [], length, true, false, Some, slice_index_or}
use Rattle.std.specs.List.{All, AllPairs}
use Rattle.kdf_journal.specs.declared.kind.Kind.{Kind}
use Rattle.kdf_transfer.specs.ByNumber.{device_count}
use Rattle.kdf_transfer.specs.Devices.{blank_fixture}
use Rattle.kdf_processor.specs.State.{device_limit}
use Rattle.kdf_places.specs.declared.place.Place.{Place}
use Rattle.kdf_yard.specs.declared.stint.Stint.{Stint}
use Rattle.kdf_relocate.specs.declared.window.Window.{Window}
use Rattle.kdf_yard.specs.declared.slot.Loaded.{Loaded}
use Rattle.kdf_yard.specs.Fields.Parts.{Part, in_pool, part_with, pool_kind}
use Rattle.kdf_theory.specs.Loading.{owns}
use Rattle.kdf_places.specs.Shared.{Shared, shared_in}
use Rattle.kdf_places.specs.Spots.{spot_at}
use Rattle.kdf_yard.specs.Fields.Stints.{IsOfKind, Keeping, is_left, is_open, lends}

-- No number of the slot's devices is the pool's. In the place of each number of the pool stands a device of its kind.
-- Each stint is of a device of the pool, and no two stints that weren't given back are of one device.
pub record IsKept (q : Part) (s : Shared) : Type 0 where
  pub few : (d : ℕ) → in_pool q d ≡ true → d < device_count
  pub apart : (d : ℕ) → owns q.devices d ≡ true → in_pool q d ≡ false
  pub there : (d : ℕ) (k : Kind) → pool_kind q d ≡ Some k → (spot_at s.spots d).fixture ≡ Some (blank_fixture k)
  pub pooled : All (λ (x : Keeping). in_pool q x.device ≡ true) q.stints
  pub kinds : All (λ (x : Keeping). IsOfKind (pool_kind q x.device) x.loan) q.stints
  pub one : AllPairs (λ (x y : Keeping). is_open x.loan ≡ true → is_open y.loan ≡ true → x.device ≢ y.device) q.stints

-- A live program has a mark for each number of a device. Of the pool's devices it has claimed just those that one of its
-- stints has in their places, and it has kept none.
pub record IsActive (q : Part) : Type 0 where
  pub sized : length q.claimed ≡ device_limit
  pub marks : (d : ℕ) → in_pool q d ≡ true → slice_index_or q.claimed d false ≡ lends q.stints d
  pub none_left : All (λ (x : Keeping). is_left x.loan ≡ false) q.stints

-- a program with these fields keeps what it has: neither its marks nor what it spooled, nor the words, matter to that
abbrev pub IsKeptBy : ℕ → Window → Loaded → List Stint → List Place → Type 0
IsKeptBy p window slot stints places =
    IsKept (part_with p window slot [] [] stints) (shared_in [] places)

-- and is live, with these marks
abbrev pub IsActiveBy : ℕ → Window → Loaded → List Bool → List Stint → Type 0
IsActiveBy p window slot claimed stints = IsActive (part_with p window slot claimed [] stints)
