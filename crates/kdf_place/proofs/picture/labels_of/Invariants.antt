use Rattle.std.proofs.Common.{◌≡◌, take, map}
use Rattle.kdf_place.specs.Placement.{label_of}
use Rattle.kdf_place.proofs.picture.labels_of.Given as goal

abbrev pub invariant-loop-entry : goal.invariant-loop-entry
invariant-loop-entry l = l.labels.items ≡ map label_of (take l.entry-index l.entries)
