use Rattle.std.proofs.Common.{◌∙◌, map}
use Rattle.kdf_place.specs.declared.image.Image.{Image}
use Rattle.kdf_job.specs.Shows.{shown_slot}
use Rattle.kdf_report.proofs.SeenPrograms.{has_programs}
use Rattle.kdf_trials.proofs.pool.reported.Goals as goal

pub sections-requires : goal.sections-requires
sections-requires c =
    has_programs c.follow.new.machine (map shown_slot c.args.job.now.slots.items) (map (λ (x : Image). x.words.items) c.args.images.now)
    c.requires.job.slots c.requires.images (c.follow.ensures.slots ∙ c.requires.slots) c.journal-journal.ensures.seen
