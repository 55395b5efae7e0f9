-- What a machine is to its callers.
use Rattle.std.specs.Prelude.{◌≡◌, ℕ, ◌-◌, ◌==◌, List, ◌∷◌, map, Option, Some, None, unwrap_or, if◌then◌else◌}
use Rattle.kdf_journal.specs.declared.entry.Entry.{Entry}
use Rattle.kdf_journal.specs.Steps.{JournalStep, added}
use Rattle.kdf_transfer.specs.Devices.{fixture_of, progress_of}
use Rattle.kdf_transfer.specs.declared.device.Device.{Device}
use Rattle.kdf_transfer.specs.Slots.{Slot}
use Rattle.kdf_processor.specs.State.{State, device_at, own_fixture_at}
use Rattle.kdf_theory.specs.Slots.{start_of}
use Rattle.kdf_theory.specs.ByJournal.{seen_of, world_after}
use Rattle.kdf_theory.specs.World.{World}

-- the slots as they were loaded, each program's own state, in the order of the slots, the journal, and how many events
-- more can be entered in it
pub record MachineView : Type 0 where
  pub slots : List Slot
  pub states : List State
  pub journal : List Entry
  pub room : ℕ

-- what is seen of each program, by the journal
abbrev pub states_seen : List Slot → List Entry → List State
states_seen slots J = map (λ (x : Slot). seen_of slots J x.p) slots

-- the state of program p
abbrev pub state_in : List Slot → List State → ℕ → Option State
state_in (slot ∷ slots) (state ∷ states) p = if slot.p == p then Some state else state_in slots states p
state_in _ _ p = None

abbrev pub state_of : MachineView → ℕ → Option State
state_of m p = state_in m.slots m.states p

-- the state of program p, and where there is no such slot, one of an empty store
abbrev pub state_at : MachineView → ℕ → State
state_at m p = unwrap_or (state_of m p) (start_of None)

-- the machine's own states, and what its journal tells
abbrev pub world_of : MachineView → World
world_of m = world_after m.slots m.journal (state_at m)

-- each program's own state is what is seen of its lone run
abbrev pub ShowsSeen : MachineView → Type 0
ShowsSeen m = m.states ≡ states_seen m.slots m.journal

-- a machine in which an event was entered: its states are what is seen then
abbrev pub entered : MachineView → JournalStep → MachineView
entered m s =
    record {
      slots = m.slots;
      states = states_seen m.slots (added m.journal s);
      journal = added m.journal s;
      room = m.room - 1;
    }

-- a device of the program's own as its state has it: what it is, and how far it has come
abbrev pub IsDeviceAt : State → ℕ → Option Device → Type 0
IsDeviceAt s d None = own_fixture_at s.stock.claims d ≡ None
IsDeviceAt s d (Some device) =
    (own_fixture_at s.stock.claims d ≡ Some (fixture_of device)) × (device_at s d ≡ progress_of device)
