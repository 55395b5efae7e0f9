use Rattle.std.proofs.Common.{◌≡◌, ◌++◌, take, drop}
use Rattle.kdf_place.specs.Pending.{settled}
use Rattle.kdf_place.proofs.entries.settle.Given as goal

abbrev pub invariant-loop-label : goal.invariant-loop-label
invariant-loop-label l = l.labels ≡ settled (take l.label-index l.fn.labels) l.at ++ drop l.label-index l.fn.labels
