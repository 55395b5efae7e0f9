use Rattle.std.proofs.Common.{◌≡◌, drop}
use Rattle.kdf_yard.specs.Fields.Yards.{first_in}
use Rattle.kdf_yard.proofs.yard.Yard.first_by.Given as goal

abbrev pub invariant-loop-p : goal.invariant-loop-p
invariant-loop-p l = first_in l.self l.priorities ≡ first_in l.self (drop l.p-index l.priorities)
