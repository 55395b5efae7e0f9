-- How what is loaded fills the fields of a yard: the store, the programs and the places of the devices.
use Rattle.std.specs.Prelude.{ℕ, ◌+◌, ◌/◌, ◌==◌, List, [], ◌∷◌, map, replicate, Option, Some, None, if◌then◌else◌}
use Rattle.kdf_lockout.specs.Groups.{Cells, is_out, with_word}
use Rattle.kdf_relocate.specs.declared.window.Window.{Window}
use Rattle.kdf_journal.specs.declared.kind.Kind.{Kind}
use Rattle.kdf_transfer.specs.Devices.{blank_fixture, new_progress}
use Rattle.kdf_transfer.specs.declared.device.Device.{Device}
use Rattle.kdf_job.specs.Job.{JobDevice}
use Rattle.kdf_job.specs.Shows.{shown_device}
use Rattle.kdf_processor.specs.State.{new_registers, unclaimed}
use Rattle.kdf_places.specs.declared.place.Place.{Place}
use Rattle.kdf_places.specs.declared.place.Place.TheVariants.{Absent, Idle}
use Rattle.kdf_yard.specs.declared.slot.Loaded.{Loaded}
use Rattle.kdf_yard.specs.Fields.Parts.{Seat, window_at}
use Rattle.kdf_places.specs.Spots.{Spot, no_spot}
use Rattle.kdf_job.specs.Slots.{lent_kind, numbered}
use Rattle.kdf_theory.specs.Loading.{SlotLoad, loaded_slot}
use Rattle.kdf_limits.specs.declared.store.TheConstants.{STORE_GROUPS}
use Rattle.kdf_transfer.specs.Slots.{Slot}

-- what was loaded
abbrev pub loaded : Loaded → SlotLoad
loaded l =
    record {
      p = l.p;
      size = l.size;
      words = l.words.items;
      devices = map shown_device l.devices.items;
      pool = l.pool.items;
      served = l.served;
    }

-- the size of the slot with a number, 0 where it is absent
abbrev pub size_at : List SlotLoad → ℕ → ℕ
size_at [] p = 0
size_at (l ∷ slots) p = if l.p == p then l.size else size_at slots p

abbrev pub sizes_of : List SlotLoad → List ℕ
sizes_of slots = size_at slots 0 ∷ size_at slots 1 ∷ size_at slots 2 ∷ size_at slots 3 ∷ []

-- the store with a word at a place, unless the place's group is out
abbrev pub kept_word : Cells → ℕ → ℕ → Cells
kept_word cells place w = if is_out cells (place / 32) then cells else with_word cells place w

-- the store with these words from a place on
abbrev pub with_words : Cells → ℕ → List ℕ → Cells
with_words cells place [] = cells
with_words cells place (w ∷ words) = with_words (kept_word cells place w) (place + 1) words

-- the store with the words of each slot from the begin of its window on
abbrev pub with_images : List Window → Cells → List SlotLoad → Cells
with_images windows cells [] = cells
with_images windows cells (l ∷ slots) =
    with_images windows (with_words cells (window_at windows l.p).base l.words) slots

-- a store of all its groups, all words zero
unfoldable pub zero_cells : Cells
zero_cells = replicate STORE_GROUPS (Some (replicate 32 0))

-- a program before its first order
abbrev pub first_seat : SlotLoad → Seat
first_seat l = record { p = l.p; registers = new_registers; claimed = unclaimed; spooled = []; stints = [] }

-- a place without a transfer, with a device of a slot's, with a blank one of the pool, or with none
abbrev pub own_spot : JobDevice → Spot
own_spot x = record { fixture = Some x.fixture; progress = x.progress; flight = None }

abbrev pub pool_spot : Option Kind → Spot
pool_spot None = no_spot
pool_spot (Some kind) =
    record { fixture = Some (blank_fixture kind); progress = new_progress; flight = None }

abbrev pub spot_or : Option JobDevice → Spot → Spot
spot_or None other = other
spot_or (Some x) other = own_spot x

-- the place of a number: the device of the first slot that has one, or else that of the pool, which is the first slot's
abbrev pub first_own : List SlotLoad → ℕ → Spot → Spot
first_own [] d other = other
first_own (l ∷ slots) d other = spot_or (numbered l.devices d) (first_own slots d other)

abbrev pub pool_in : List SlotLoad → List (ℕ × Kind)
pool_in [] = []
pool_in (l ∷ slots) = l.pool

abbrev pub idle_spot : List SlotLoad → ℕ → Spot
idle_spot slots d = first_own slots d (pool_spot (lent_kind (pool_in slots) d))

-- what is put into a place: a device and its ring
abbrev pub idle_place : Option (Device × List ℕ) → Place
idle_place None = Absent
idle_place (Some x) = Idle x.0 x.1

-- the words in the ring of a device
abbrev pub idle_ring : Option (Device × List ℕ) → List ℕ
idle_ring None = []
idle_ring (Some x) = x.1

-- a slot as it was loaded
abbrev pub slot_loaded : Loaded → Slot
slot_loaded l = loaded_slot (loaded l)
