use Rattle.std.proofs.Common.{◌≡◌, map, take, None}
use Rattle.kdf_yard.specs.declared.program.Program.{Program}
use Rattle.kdf_yard.specs.declared.slot.Loaded.{Loaded}
use Rattle.kdf_yard.specs.Fields.Filled.{first_seat, loaded}
use Rattle.kdf_yard.specs.Fields.Running.{seats_in}
use Rattle.kdf_yard.proofs.load.first_programs.Given as goal

abbrev pub invariant-loop-slot : goal.invariant-loop-slot
invariant-loop-slot l =
    record {
      seats : seats_in l.programs.items ≡ map (λ (s : Loaded). first_seat (loaded s)) (take l.slot-index l.slots);
      no_hold : map (λ (x : Program). x.hold) l.programs.items ≡ map (λ (s : Loaded). None) (take l.slot-index l.slots);
    }
