use Rattle.std.proofs.Common.{map, take}
use Rattle.kdf_text.specs.Text.{Adds}
use Rattle.kdf_place.specs.Listing.{reference_line}
use Rattle.kdf_place.proofs.listings.write_references.Given as goal

abbrev pub invariant-loop-label : goal.invariant-loop-label
invariant-loop-label l = Adds l.initial.out l.out (map reference_line (take l.label-index l.labels))
