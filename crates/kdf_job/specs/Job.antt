-- A job: its slots, each with its deck and its devices, the schedule, and the pool.
use Rattle.std.specs.Prelude.{ℕ, Bool, List}
use Rattle.kdf_journal.specs.declared.kind.Kind.{Kind}
use Rattle.kdf_schedule.specs.declared.event.Event.{Event}
use Rattle.kdf_transfer.specs.Devices.{Fixture, DeviceProgress}

-- a device with its number, as it is at the start
pub record JobDevice : Type 0 where
  pub d : ℕ
  pub fixture : Fixture
  pub progress : DeviceProgress

-- a slot: its number, the size of its store, the text of its deck, its devices, the first and the last address of
-- each run of words that the report shows, the numbers and kinds of the devices that are lent out, and whether the
-- installation's service answers its program
pub record ShownSlot : Type 0 where
  pub p : ℕ
  pub size : ℕ
  pub deck : List ℕ
  pub devices : List JobDevice
  pub shows : List (ℕ × ℕ)
  pub pool : List (ℕ × Kind)
  pub served : Bool

-- the slots, the schedule, and the devices that are lent out
pub record ShownJob : Type 0 where
  pub slots : List ShownSlot
  pub events : List Event
  pub pool : List (ℕ × Kind)
