-- The slot as which a job's slot is loaded with the words of its image.
use Rattle.std.specs.Prelude.{ℕ, ◌==◌, Bool, List, find, Option, Some, None}
use Rattle.std.specs.Option.{option_map}
use Rattle.kdf_journal.specs.declared.kind.Kind.{Kind}
use Rattle.kdf_transfer.specs.ByNumber.{by_number}
use Rattle.kdf_transfer.specs.Devices.{Fixture, DeviceProgress, new_progress}
use Rattle.kdf_transfer.specs.Slots.{Slot}
use Rattle.kdf_job.specs.Job.{JobDevice, ShownSlot}

-- the first device of a number, of those that a slot of a job has
abbrev pub numbered : List JobDevice → ℕ → Option JobDevice
numbered devices d = find (λ (x : JobDevice). x.d == d) devices

-- what it is, and how far it has come, where there is one
abbrev pub fixture_on : Option JobDevice → Option Fixture
fixture_on o = option_map (λ (x : JobDevice). x.fixture) o

abbrev pub progress_on : Option JobDevice → DeviceProgress
progress_on None = new_progress
progress_on (Some x) = x.progress

-- the kind of the first device of a number, of those that are lent out
abbrev pub lent_kind : List (ℕ × Kind) → ℕ → Option Kind
lent_kind pool d = option_map (λ (x : ℕ × Kind). x.1) (find (λ (x : ℕ × Kind). x.0 == d) pool)

-- a slot of this number and size: these words at the front of its store, these devices and those of the pool by
-- number, and whether it is served
abbrev pub slot_with : ℕ → ℕ → List ℕ → List JobDevice → List (ℕ × Kind) → Bool → Slot
slot_with p size words devices pool served =
    record {
      p = p;
      size = size;
      words = words;
      fixtures = by_number (λ d. fixture_on (numbered devices d));
      devices = by_number (λ d. progress_on (numbered devices d));
      pool = by_number (lent_kind pool);
      served = served;
    }

-- a slot of a job with these words
abbrev pub slot_of : ShownSlot → List ℕ → Slot
slot_of s words = slot_with s.p s.size words s.devices s.pool s.served
