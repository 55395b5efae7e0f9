-- Where calls stop, by how things stand in a yard.
use Rattle.std.specs.Prelude.{◌==◌, Bool, false, find}
use Rattle.std.specs.Option.{option_map}
use Rattle.kdf_director.specs.declared.halt.Halt.{Halt}
use Rattle.kdf_director.specs.declared.machine.Progress.{Progress}
use Rattle.kdf_director.specs.declared.machine.Progress.TheVariants.{Ran, Held, Idle, AllEnded}
use Rattle.kdf_yard.specs.Fields.Parts.{Seat}
use Rattle.kdf_yard.specs.Fields.Standing.{Standing}
use Rattle.kdf_director.specs.Halts.{halts}

-- whether they stop after a call that answers so
abbrev pub stops_in : Halt → Standing → Progress → Bool
stops_in halt y (Ran p) = halts halt p (option_map (λ (x : Seat). x.registers) (find (λ (x : Seat). x.p == p) y.seats))
stops_in halt y (Held p need) = false
stops_in halt y Idle = false
stops_in halt y AllEnded = false
