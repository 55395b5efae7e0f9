use Rattle.std.proofs.Common.{◌≡◌, ◌++◌, map, drop}
use Rattle.kdf_job.specs.Shows.{shown_slot}
use Rattle.kdf_place.specs.declared.image.Image.{Image}
use Rattle.kdf_theory.specs.Loading.{loads}
use Rattle.kdf_yard.specs.Fields.Filled.{loaded}
use Rattle.kdf_yard.proofs.load.load_slots.Given as goal

abbrev pub invariant-loop-i : goal.invariant-loop-i
invariant-loop-i l =
    map loaded l.loaded.items
    ++ loads (map shown_slot (drop l.i l.slots)) (map (λ (x : Image). x.words.items) (drop l.i l.images))
    ≡ loads (map shown_slot l.slots) (map (λ (x : Image). x.words.items) l.images)
