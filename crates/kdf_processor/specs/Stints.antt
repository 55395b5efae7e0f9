-- What an order makes of the stints of a program, which stand in the order in which their devices were taken.
use Rattle.std.specs.Prelude.{◌≡◌, ◌≢◌, ◌<◌, ◌==◌, ◌&&◌, not, ℕ, Bool, true, false, List, [], ◌∷◌, ◌++◌, length, map, None, if◌then◌else◌, slice_index_or}
use Rattle.std.specs.List.{All, AllPairs}
use Rattle.kdf_transfer.specs.AtOnce.{device_after, order_words}
use Rattle.kdf_transfer.specs.declared.device.Device.{Device}
use Rattle.kdf_transfer.specs.declared.order.TransferOrder.{TransferOrder}
use Rattle.kdf_processor.specs.Claims.{taken_device}
use Rattle.kdf_processor.specs.Effect.{Question, FreeOf, Effect, Starting, Asking, Returning}
use Rattle.kdf_transfer.specs.Devices.{blank_fixture, fixture_of, new_progress, progress_of}
use Rattle.kdf_transfer.specs.Slots.{Slot}
use Rattle.kdf_processor.specs.State.{Lending, State, StintState, device_at, device_limit, is_pooled, stocked}

-- what is done to the stint of a device that isn't given back
abbrev pub on_stint : ℕ → (Lending → Lending) → Lending → Lending
on_stint d f x = if x.device == d && not x.given then f x else x

-- a transfer, finished, on the device of a stint
abbrev pub moved_on : TransferOrder → (first last : ℕ) → List ℕ → Lending → Lending
moved_on o first last store x =
    record x {
      progress = device_after o first last (order_words o first last store) (blank_fixture x.kind) x.progress;
    }

-- The stints after an order. One that takes from the pool begins a stint without a block, at place 0 and with flag 0; one that gives
-- back to the pool marks the stint of its device; a transfer on a device of the pool acts on the stint of that number that isn't given
-- back.
abbrev pub lendings_after : (Question → ℕ) → Effect → State → List Lending → List Lending
lendings_after answer (Asking (FreeOf kind) after) s xs =
    xs
    ++ record {
      device = taken_device s.stock.claims kind (answer (FreeOf kind));
      kind = kind;
      progress = new_progress;
      given = false;
    } ∷ []
lendings_after answer (Returning true d after) s xs = map (on_stint d (λ x. record x { given = true })) xs
lendings_after answer (Starting d o first last after) s xs =
    map (on_stint d (moved_on o first last s.stock.store)) xs
lendings_after answer e s xs = xs

-- a stint is told by the number of its device, whether that was given back, and the device itself
pub record IsStint (x : Lending) (d : ℕ) (is_given : Bool) (device : Device) : Type 0 where
  pub number : d ≡ x.device
  pub given : is_given ≡ x.given
  pub fixture : fixture_of device ≡ blank_fixture x.kind
  pub progress : progress_of device ≡ x.progress

-- What holds of the stints of a program: its places and its marks are sixteen; a device of the pool that isn't claimed has moved nothing; each stint is
-- of a device of the pool, which is claimed until it is given back; and no two that aren't given back are of one device.
pub record IsLent (s : State) : Type 0 where
  pub places : length s.stock.devices ≡ device_limit
  pub marks : length s.stock.claims.claimed ≡ device_limit
  pub few : (d : ℕ) → is_pooled s.stock.claims d ≡ true → d < device_limit
  pub fresh : (d : ℕ) → is_pooled s.stock.claims d ≡ true → slice_index_or s.stock.claims.claimed d false ≡ false
      → device_at s d ≡ new_progress
  pub pooled : All (λ (x : StintState). is_pooled s.stock.claims x.device ≡ true) s.stock.stints
  pub held : All (λ (x : StintState). x.left ≡ None → slice_index_or s.stock.claims.claimed x.device false ≡ true) s.stock.stints
  pub one : AllPairs (λ (x y : StintState). x.left ≡ None → y.left ≡ None → x.device ≢ y.device) s.stock.stints

-- a slot has a place for each of sixteen devices, and those of the pool's numbers are without blocks
pub record HasPool (slot : Slot) : Type 0 where
  pub places : length slot.devices ≡ device_limit
  pub few : (d : ℕ) → is_pooled (stocked slot).claims d ≡ true → d < device_limit
  pub fresh : (d : ℕ) → is_pooled (stocked slot).claims d ≡ true → slice_index_or slot.devices d new_progress ≡ new_progress
