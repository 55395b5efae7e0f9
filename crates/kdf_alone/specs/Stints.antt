-- Stints as their program's state has them.
use Rattle.std.specs.Prelude.{◌≡◌, ◌≢◌, ◌==◌, ◌&&◌, if◌then◌else◌, ℕ, Bool, true, false, List, [], map, not, Option, None, Some, is_some, slice_index_or}
use Rattle.std.specs.Prelude.{unwrap_or}
use Rattle.std.specs.List.{AllPairs}
use Rattle.std.specs.Option.{option_map}
use Rattle.kdf_journal.specs.declared.kind.Kind.{Kind}
use Rattle.kdf_journal.specs.declared.kind.Kind.TheVariants.{Tp}
use Rattle.kdf_transfer.specs.Devices.{blank_fixture, fixture_of, new_progress, progress_of}
use Rattle.kdf_transfer.specs.declared.device.Device.{Device}
use Rattle.kdf_processor.specs.State.{State, Stock, new_registers}
use Rattle.kdf_processor.specs.State as state
use Rattle.kdf_processor.specs.Stints.{IsLent}
use Rattle.kdf_alone.specs.declared.lone_place.LonePlace.{LonePlace}
use Rattle.kdf_alone.specs.declared.stint.Stint.{Stint}
use Rattle.kdf_alone.specs.LonePlaces.{pool_kind_in, progress_in}

-- a stint as a state has it
abbrev pub stint_in : Stint → state.StintState
stint_in x = record { device = x.d; left = option_map progress_of x.left }

-- one that was given back kept a device of the pool
abbrev pub IsKept : List (Option Kind) → Stint → Type 0
IsKept pool x =
    option_map fixture_of x.left
    ≡ option_map (λ _. blank_fixture (unwrap_or (slice_index_or pool x.d None) Tp)) x.left

-- a program that has these places, marks and stints, and nothing else
abbrev pub lent_stock : List LonePlace → List Bool → List Stint → Stock
lent_stock places claimed stints =
    record {
      claims = record { size = 0; claimed = claimed; fixtures = []; pool = map pool_kind_in places; served = false };
      spooled = [];
      asked = 0;
      stints = map stint_in stints;
      store = [];
      devices = map progress_in places;
    }

-- its stints are as those of a state are
abbrev pub AreLent : List LonePlace → List Bool → List Stint → Type 0
AreLent places claimed stints =
    IsLent (record { registers = new_registers; stock = lent_stock places claimed stints })

-- a stint of a device that isn't given back
abbrev pub IsOpen : ℕ → Stint → Type 0
IsOpen d x = (x.d ≡ d) × (x.left ≡ None)

-- a stint once this device is given back: if it is the device's, and wasn't given back, it keeps the device
abbrev pub ended : ℕ → Device → Stint → Stint
ended d device x =
    if x.d == d && not (is_some x.left) then record x { left = Some device } else x

-- of the stints of one device one at most isn't given back
abbrev pub HaveOneOpen : List Stint → Type 0
HaveOneOpen stints =
    AllPairs (λ (x y : state.StintState). x.left ≡ None → y.left ≡ None → x.device ≢ y.device)
    (map stint_in stints)

-- a device of the pool has moved nothing
abbrev pub IsUnlent : LonePlace → Type 0
IsUnlent place = is_some (pool_kind_in place) ≡ true → progress_in place ≡ new_progress
