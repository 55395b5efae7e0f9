use Rattle.std.proofs.Common.{map, sym, ◌∙◌, subst}
use Rattle.std.proofs.lemmas.List.{length-map}
use Rattle.kdf_job.specs.Shows.{shown_slot}
use Rattle.kdf_place.specs.declared.image.Image.{Image}
use Rattle.kdf_theory.specs.Loading.{AreLoads}
use Rattle.kdf_theory.proofs.JobsLoaded.{are_loads, one_each}
use Rattle.kdf_yard.proofs.load.load_yard.Goals as goal

pub load_slots-requires : goal.load_slots-requires
load_slots-requires c =
    sym (length-map c.args.slots.now shown_slot)
    ∙ one_each (map shown_slot c.args.slots.now) (map (λ (x : Image). x.words.items) c.args.images.now) c.requires.images
    ∙ length-map c.args.images.now (λ (x : Image). x.words.items)

pub equip-requires : goal.equip-requires
equip-requires c =
    subst AreLoads (sym c.in_ok-loaded.ensures)
    (are_loads (map shown_slot c.args.slots.now) (map (λ (x : Image). x.words.items) c.args.images.now) c.requires.slots c.requires.images)
