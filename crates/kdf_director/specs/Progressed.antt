-- What the answer of a call tells.
use Rattle.std.specs.Prelude.{Bool, true, false}
use Rattle.kdf_director.specs.declared.machine.Progress.{Progress}
use Rattle.kdf_director.specs.declared.machine.Progress.TheVariants.{Ran, Held, Idle, AllEnded}

-- whether a program was live
abbrev pub found_live : Progress → Bool
found_live (Ran p) = true
found_live (Held p need) = true
found_live Idle = true
found_live AllEnded = false
