-- The place of a number: no device, one of the program's own, or one of the pool.
use Rattle.std.specs.Prelude.{◌≡◌, ℕ, Option, Some, None, List}
use Rattle.std.specs.Option.{option_map}
use Rattle.kdf_journal.specs.declared.kind.Kind.{Kind}
use Rattle.kdf_transfer.specs.AtOnce.{device_after, order_words, stored}
use Rattle.kdf_transfer.specs.Devices.{Fixture, DeviceProgress, fixture_of, new_progress, progress_of}
use Rattle.kdf_transfer.specs.Spare.{HasSpare}
use Rattle.kdf_transfer.specs.declared.device.Device.{Device}
use Rattle.kdf_transfer.specs.declared.order.TransferOrder.{TransferOrder}
use Rattle.kdf_processor.specs.State.{pooled_or}
use Rattle.kdf_alone.specs.declared.lone_place.LonePlace.{LonePlace}
use Rattle.kdf_alone.specs.declared.lone_place.LonePlace.TheVariants.{Absent, Own, Pooled}

-- the device that stands there
abbrev pub device_of_place : LonePlace → Option Device
device_of_place Absent = None
device_of_place (Own device) = Some device
device_of_place (Pooled device) = Some device

-- it, where it is the program's own
abbrev pub own_device_in : LonePlace → Option Device
own_device_in Absent = None
own_device_in (Own device) = Some device
own_device_in (Pooled device) = None

-- what it is, where it is the program's own
abbrev pub own_fixture_in : LonePlace → Option Fixture
own_fixture_in Absent = None
own_fixture_in (Own device) = Some (fixture_of device)
own_fixture_in (Pooled device) = None

-- its kind, where it is of the pool
abbrev pub pool_kind_in : LonePlace → Option Kind
pool_kind_in Absent = None
pool_kind_in (Own device) = None
pool_kind_in (Pooled device) = Some (fixture_of device).kind

-- what it is
abbrev pub fixture_in : LonePlace → Option Fixture
fixture_in place = pooled_or (pool_kind_in place) (own_fixture_in place)

-- how far it has come
abbrev pub progress_in : LonePlace → DeviceProgress
progress_in Absent = new_progress
progress_in (Own device) = progress_of device
progress_in (Pooled device) = progress_of device

-- one of the pool has no medium and no label
abbrev pub IsWhole : LonePlace → Type 0
IsWhole place = fixture_in place ≡ option_map fixture_of (device_of_place place)

-- it has memory for the blocks that an order adds
abbrev pub IsReady : TransferOrder → LonePlace → Type 0
IsReady order Absent = Unit {0}
IsReady order (Own device) = HasSpare order device
IsReady order (Pooled device) = HasSpare order device

-- the device of a place and a list of words after a transfer
pub record IsMoved (order : TransferOrder) (first last : ℕ) (device : Device) (words : List ℕ)
    (place : LonePlace) (after : List ℕ) : Type 0 where
  pub words_are : after ≡ stored order first last words (fixture_of device) (progress_of device)
  pub progress : progress_in place ≡
      device_after order first last (order_words order first last words) (fixture_of device) (progress_of device)
