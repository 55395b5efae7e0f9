-- Which program has a device, and what is told of a device by its number.
use Rattle.std.specs.List.{All}
use Rattle.std.specs.Prelude.{◌≡◌, ℕ, ◌&&◌, nat_lt, List, Bool, true, false, Option, Some, None, is_some, not, position, slice_index_or}
use Rattle.kdf_transfer.specs.Devices.{Fixture, DeviceProgress, fixture_of, progress_of}
use Rattle.kdf_transfer.specs.declared.device.Device.{Device}
use Rattle.kdf_journal.specs.declared.entry.Entry.{Entry}
use Rattle.kdf_journal.specs.declared.kind.Kind.{Kind}
use Rattle.kdf_journal.specs.Counts.{holder}
use Rattle.kdf_job.specs.Slots.{lent_kind}
use Rattle.kdf_processor.specs.State.{device_limit}
use Rattle.kdf_yard.specs.declared.slot.Loaded.{Loaded}
use Rattle.kdf_yard.specs.Fields.Parts.{Seat, numbers}
use Rattle.kdf_theory.specs.Loading.{owns}
use Rattle.kdf_yard.specs.Fields.Running.{seat_at}
use Rattle.kdf_places.specs.Spots.{Spot, fixture_or, spot_at, IsDeviceOf}
use Rattle.kdf_yard.specs.Fields.Stints.{Keeping, Loan, Lent, Left, Back, is_lent, is_open}

-- the first of the slots that has a device of this number
abbrev pub owner_in : List Loaded → ℕ → Option ℕ
owner_in slots d = position (λ (l : Loaded). owns (numbers l.devices.items) d) slots

-- the device of a place, where a slot has it
abbrev pub IsDeviceOwned : Option ℕ → Spot → Option Device → Type 0
IsDeviceOwned None x device = device ≡ None
IsDeviceOwned (Some owner) x device = IsDeviceOf x device

-- a device of the pool has a holder
abbrev pub is_lent_in : List (ℕ × Kind) → List Entry → ℕ → Bool
is_lent_in pool J d = nat_lt d device_limit && (is_some (lent_kind pool d) && is_some (holder d J))

-- whether the program of the slot that has a device has claimed it, or, where no slot has it, the pool has lent it
abbrev pub is_claimed_by : Option ℕ → List Seat → List (ℕ × Kind) → List Entry → ℕ → Bool
is_claimed_by None seats pool J d = is_lent_in pool J d
is_claimed_by (Some owner) seats pool J d =
    nat_lt d device_limit && slice_index_or (seat_at seats owner).claimed d false

-- what the device of a stint is, and how far it has come, where this is the place of its number
abbrev pub fixture_told : Loan → Spot → Fixture
fixture_told Lent x = fixture_or x.fixture
fixture_told (Left fixture progress) x = fixture
fixture_told (Back fixture progress) x = fixture

abbrev pub progress_told : Loan → Spot → DeviceProgress
progress_told Lent x = x.progress
progress_told (Left fixture progress) x = progress
progress_told (Back fixture progress) x = progress

-- a stint of these, told by the number of its device, whether that was given back, and the device
pub record IsTold (spots : List Spot) (x : Keeping) (d : ℕ) (is_given : Bool) (device : Device) : Type 0 where
  pub number : d ≡ x.device
  pub given : is_given ≡ not (is_open x.loan)
  pub fixture : fixture_of device ≡ fixture_told x.loan (spot_at spots x.device)
  pub progress : progress_of device ≡ progress_told x.loan (spot_at spots x.device)

-- each of these stints whose device is lent has one in its place
abbrev pub HasLent : List Spot → List Keeping → Type 0
HasLent spots stints =
    All (λ (x : Keeping). is_lent x.loan ≡ true → is_some (spot_at spots x.device).fixture ≡ true) stints
