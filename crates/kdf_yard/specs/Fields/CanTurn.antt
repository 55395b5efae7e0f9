-- What a program has to have for its turn.
use Rattle.std.specs.Prelude.{◌≡◌, ◌+◌, ◌*◌, ◌%◌, ◌≤◌, List, length}
use Rattle.kdf_lockout.specs.Groups.{Cells}
use Rattle.kdf_places.specs.Shared.{shared_in}
use Rattle.kdf_places.specs.Spots.{AreDry}
use Rattle.kdf_places.specs.declared.place.Place.{Place}
use Rattle.kdf_relocate.specs.declared.window.Window.{Window}
use Rattle.kdf_yard.specs.declared.program.Program.{Program}
use Rattle.kdf_yard.specs.declared.slot.Loaded.{Loaded}
use Rattle.kdf_yard.specs.Fields.Keeping.{IsActive, IsKept}
use Rattle.kdf_yard.specs.Fields.Parts.{part_in, reach_of, seat_of, window_at}

-- a program in its slot has its window in the store, and its devices in their places
pub record CanTurn (windows : List Window) (slot : Loaded) (program : Program) (store : Cells)
    (places : List Place) : Type 0 where
  pub at_group : (window_at windows slot.p).base % 32 ≡ 0
  pub in_store : (window_at windows slot.p).base + (window_at windows slot.p).size ≤ 32 * length store
  pub sixteen : length places ≡ 16
  pub dry : AreDry places
  pub kept : IsKept (part_in (seat_of program) (reach_of windows slot)) (shared_in store places)
  pub active : IsActive (part_in (seat_of program) (reach_of windows slot))
