-- How things stand in the yard of a machine: all that it has beside its journal.
use Rattle.std.specs.Prelude.{◌≡◌, List, length, map, Option}
use Rattle.kdf_lockout.specs.Groups.{Cells}
use Rattle.kdf_places.specs.Shared.{Shared, shared_in}
use Rattle.kdf_places.specs.Spots.{AreDry}
use Rattle.kdf_places.specs.declared.place.Place.{Place}
use Rattle.kdf_journal.specs.declared.need.Need.{Need}
use Rattle.kdf_relocate.specs.Windows.{windows_from}
use Rattle.kdf_relocate.specs.declared.window.Window.{Window}
use Rattle.kdf_transfer.specs.Slots.{Slot}
use Rattle.kdf_yard.specs.declared.program.Program.{Program}
use Rattle.kdf_yard.specs.declared.slot.Loaded.{Loaded}
use Rattle.kdf_yard.specs.Fields.Filled.{loaded, sizes_of, slot_loaded}
use Rattle.kdf_yard.specs.Fields.Parts.{Reach, Seat}
use Rattle.kdf_yard.specs.Fields.Running.{reaches_in, seats_in, IsRunning}
use Rattle.kdf_limits.specs.declared.store.TheConstants.{DIRECTOR_WORDS}

-- the slots as they were loaded, what each of them reaches, the programs, what holds each of them, and what they share
pub record Standing : Type 0 where
  pub slots : List Slot
  pub reaches : List Reach
  pub seats : List Seat
  pub holds : List (Option Need)
  pub shared : Shared

abbrev pub standing : List Loaded → List Window → Cells → List Program → List Place → Standing
standing slots windows store programs places =
    record {
      slots = map slot_loaded slots;
      reaches = reaches_in windows slots;
      seats = seats_in programs;
      holds = map (λ (x : Program). x.hold) programs;
      shared = shared_in store places;
    }

-- the windows are those of the slots, each slot has a program, no ring has a word where no transfer is, and the programs
-- are over what they share
pub record IsYard (slots : List Loaded) (windows : List Window) (store : Cells) (programs : List Program)
    (places : List Place) : Type 0 where
  pub placed : windows ≡ windows_from DIRECTOR_WORDS (sizes_of (map loaded slots))
  pub many : length slots ≡ length programs
  pub dry : AreDry places
  pub running : IsRunning (reaches_in windows slots) (seats_in programs) (shared_in store places)

-- the programs are in the same slots, and what holds them stays
pub record IsSameYard (old new : Standing) : Type 0 where
  pub slots : new.slots ≡ old.slots
  pub reaches : new.reaches ≡ old.reaches
  pub holds : new.holds ≡ old.holds
  pub many : length new.seats ≡ length old.seats
