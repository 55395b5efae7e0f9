use Rattle.std.specs.Prelude.{map}
use Rattle.kdf_job.specs.Shows.{shown_slot}
use Rattle.kdf_place.specs.declared.image.Image.{Image}
use Rattle.kdf_theory.specs.Loading.{slots_of}
use Rattle.kdf_check.proofs.checker.check_with.Given as goal

abbrev pub ghost-follow : goal.ghost-follow
ghost-follow g a = slots_of (map shown_slot a.source.job.now.slots.items) (map (λ (x : Image). x.words.items) a.source.images.now)
