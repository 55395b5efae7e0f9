-- The places of the devices, as contracts see them.
use Rattle.std.specs.Prelude.{◌≡◌, ℕ, ◌+◌, ◌==◌, ◌&&◌, List, [], ◌∷◌, Bool, false, if◌then◌else◌, Option, Some, None, slice_index_or, is_some, is_none}
use Rattle.std.specs.Option.{option_map}
use Rattle.kdf_lockout.specs.Groups.{Lent}
use Rattle.kdf_journal.specs.declared.kind.Kind.{Kind}
use Rattle.kdf_journal.specs.declared.kind.Kind.TheVariants.{Tr}
use Rattle.kdf_transfer.specs.Devices.{Fixture, DeviceProgress, blank_fixture, fixture_of, kind_in, new_progress, progress_of}
use Rattle.kdf_transfer.specs.InFlight.{Motion}
use Rattle.kdf_transfer.specs.Spare.{HasSpare}
use Rattle.kdf_transfer.specs.declared.order.TransferOrder.{TransferOrder}
use Rattle.kdf_places.specs.declared.place.Place.{Place}
use Rattle.kdf_places.specs.declared.place.Place.TheVariants.{Absent, Idle, Busy}
use Rattle.kdf_transfer.specs.declared.device.Device.{Device}

-- a transfer in flight, and whose it is
pub record Held : Type 0 where
  pub p : ℕ
  pub motion : Motion

-- a place: the device, as it was at the begin where it has a transfer
pub record Spot : Type 0 where
  pub fixture : Option Fixture
  pub progress : DeviceProgress
  pub flight : Option Held

abbrev pub no_spot : Spot
no_spot = record { fixture = None; progress = new_progress; flight = None }

abbrev pub spot_of : Place → Spot
spot_of Absent = no_spot
spot_of (Idle device ring) =
    record { fixture = Some (fixture_of device); progress = progress_of device; flight = None }
spot_of (Busy p t) =
    record {
      fixture = Some t.fixture;
      progress = t.progress;
      flight = Some (record { p = p; motion = t });
    }

abbrev pub spot_at : List Spot → ℕ → Spot
spot_at spots d = slice_index_or spots d no_spot

abbrev pub is_flying : Spot → Bool
is_flying s = is_some s.flight

-- there is a device, and it has no transfer
abbrev pub can_leave : Spot → Bool
can_leave x = is_some x.fixture && is_none x.flight

-- a place whose device left it: a blank one of the same kind stands there
abbrev pub blank_spot : Spot → Spot
blank_spot x =
    record {
      fixture = option_map (λ (f : Fixture). blank_fixture f.kind) x.fixture;
      progress = new_progress;
      flight = None;
    }

-- a place whose device left it, if it can
abbrev pub left_spot : Spot → Spot
left_spot x = if can_leave x then blank_spot x else x

abbrev pub lease_held : Option Held → Option Lent
lease_held None = None
lease_held (Some h) = h.motion.lease

-- the leases by the number of their devices
abbrev pub leases_of : List Spot → ℕ → Option Lent
leases_of spots d = lease_held (spot_at spots d).flight

-- the transfer is of slot p
abbrev pub is_of : ℕ → Option Held → Bool
is_of p None = false
is_of p (Some h) = h.p == p

-- the numbers, from d on, of the devices with a transfer of slot p
abbrev pub own_from : ℕ → ℕ → List Spot → List ℕ
own_from p d [] = []
own_from p d (s ∷ spots) =
    if is_of p s.flight then d ∷ own_from p (d + 1) spots else own_from p (d + 1) spots

abbrev pub fixture_or : Option Fixture → Fixture
fixture_or None = record { kind = Tr; label = 0; codes = []; cards = [] }
fixture_or (Some f) = f

-- the words in the ring of a device without a transfer
abbrev pub ring_in : Place → List ℕ
ring_in Absent = []
ring_in (Idle device ring) = ring
ring_in (Busy p t) = []

-- the ring of each device without a transfer is empty
abbrev pub AreDry : List Place → Type 0
AreDry places = (d : ℕ) → ring_in (slice_index_or places d Absent) ≡ []

-- the device of a place that has no transfer has memory for the blocks that an order adds, and fewer than 2^32 - 1
-- blocks yet
abbrev pub IsReady : TransferOrder → Place → Type 0
IsReady order Absent = Unit {0}
IsReady order (Idle device ring) = HasSpare order device
IsReady order (Busy p t) = Unit {0}

-- the kind of the device, if there is one
abbrev pub spot_kind : Spot → Option Kind
spot_kind s = kind_in s.fixture

-- a device as a place has it: as its transfer found it, where it has one
abbrev pub IsDeviceOf : Spot → Option Device → Type 0
IsDeviceOf x None = x.fixture ≡ None
IsDeviceOf x (Some device) = (x.fixture ≡ Some (fixture_of device)) × (x.progress ≡ progress_of device)
