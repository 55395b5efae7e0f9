-- What a program by itself is answered, and a device as its state has it.
use Rattle.std.specs.Prelude.{◌≡◌, ℕ, List, Option, Some, None, is_some, slice_index, true}
use Rattle.kdf_job.specs.Job.{ShownSlot}
use Rattle.kdf_job.specs.Slots.{lent_kind, numbered}
use Rattle.kdf_transfer.specs.Devices.{fixture_of, progress_of}
use Rattle.kdf_transfer.specs.declared.device.Device.{Device}
use Rattle.kdf_processor.specs.Effect.{Question}
use Rattle.kdf_processor.specs.State.{State, device_at, own_fixture_at}

-- no number is both a device's of a slot and one's of the pool
abbrev pub IsApart : ShownSlot → Type 0
IsApart s = (d : ℕ) → is_some (lent_kind s.pool d) ≡ true → numbered s.devices d ≡ None

-- the answer whose place is the number of those that were taken, or 0 past the end, whatever is asked
abbrev pub given_by : List ℕ → State → Question → ℕ
given_by answers s question = slice_index answers s.stock.asked

-- a device of the program's own as a state has it: what it is, and how far it has come
abbrev pub IsDeviceAt : State → ℕ → Option Device → Type 0
IsDeviceAt s d None = own_fixture_at s.stock.claims d ≡ None
IsDeviceAt s d (Some device) =
    (own_fixture_at s.stock.claims d ≡ Some (fixture_of device)) × (device_at s d ≡ progress_of device)
