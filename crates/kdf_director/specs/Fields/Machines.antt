-- The fields of a machine: how things stand by them, what is shown of them, and what holds of them.
use Rattle.kdf_director.specs.declared.machine.Machine.TheInside.{Inside}
use Rattle.kdf_director.specs.Fields.Agrees.{IsReady}
use Rattle.kdf_yard.specs.Fields.Standing.{Standing, standing, IsYard}
use Rattle.kdf_director.specs.Fields.Viewed.{shown_of}
use Rattle.kdf_theory.specs.MachineView.{MachineView}

abbrev pub stands : Inside → Standing
stands m = standing m.slots.items m.windows m.store m.programs.items m.devices.items

abbrev pub shown : Inside → MachineView
shown m = shown_of (stands m) m.journal m.room

-- they are those of a yard, and how things stand in it agrees with the journal
pub record IsMachine (m : Inside) : Type 0 where
  pub yard : IsYard m.slots.items m.windows m.store m.programs.items m.devices.items
  pub ready : IsReady (stands m) m.journal m.room
