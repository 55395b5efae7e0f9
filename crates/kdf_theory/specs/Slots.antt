-- The slots that are loaded, and each program's state at its start.
use Rattle.std.specs.Prelude.{◌≡◌, ◌≢◌, ℕ, ◌<◌, ◌≤◌, ◌==◌, ◌⊎◌, true, false, List, [], Option, Some, None, is_some, find, length, slice_index_or}
use Rattle.std.specs.List.{All, AllPairs}
use Rattle.kdf_transfer.specs.Devices.{Fixture}
use Rattle.kdf_transfer.specs.Slots.{Slot}
use Rattle.kdf_transfer.specs.ByNumber.{device_count}
use Rattle.kdf_processor.specs.State.{State, begin, device_limit}

-- a slot without words and devices
abbrev pub no_slot : Slot
no_slot = record { p = 0; size = 0; words = []; fixtures = []; devices = []; pool = []; served = false }

-- the slot with this number
abbrev pub slot_of : List Slot → ℕ → Option Slot
slot_of slots p = find (λ (s : Slot). s.p == p) slots

-- a program at its start; where there is no slot, one without words and devices
abbrev pub start_of : Option Slot → State
start_of None = begin no_slot
start_of (Some s) = begin s

-- the state of program p at its start
abbrev pub start : List Slot → ℕ → State
start slots p = start_of (slot_of slots p)

-- what a slot has as device d
abbrev pub device_of : Slot → ℕ → Option Fixture
device_of s d = slice_index_or s.fixtures d None

-- a slot: its image fits its store, it has a place for a device of each number, and the numbers of the pool are such
-- and none of its own
pub record IsSlot (s : Slot) : Type 0 where
  pub fits : length s.words ≤ s.size
  pub fixtures : length s.fixtures ≡ device_count
  pub devices : length s.devices ≡ device_count
  pub few : (d : ℕ) → is_some (slice_index_or s.pool d None) ≡ true → d < device_limit
  pub apart : (d : ℕ) → (device_of s d ≡ None) ⊎ (slice_index_or s.pool d None ≡ None)

-- no device number is in both
abbrev pub HaveOwnDevices : Slot → Slot → Type 0
HaveOwnDevices a b = (d : ℕ) → (device_of a d ≡ None) ⊎ (device_of b d ≡ None)

-- each of these is a slot, no two have one number, no two have a device of one number, and the pool is common
pub record AreSlots (slots : List Slot) : Type 0 where
  pub each : All IsSlot slots
  pub numbers : AllPairs (λ (a b : Slot). a.p ≢ b.p) slots
  pub devices : AllPairs HaveOwnDevices slots
  pub pool : AllPairs (λ (a b : Slot). a.pool ≡ b.pool) slots

-- none of them is served
abbrev pub NoneServed : List Slot → Type 0
NoneServed slots = All (λ (s : Slot). s.served ≡ false) slots
