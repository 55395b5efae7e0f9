use Rattle.std.proofs.Common.{ℕ, List, ap, ◌∙◌}
use Rattle.kdf_job.specs.Shows.{shown_job}
use Rattle.kdf_theory.specs.Loading as loading
use Rattle.kdf_top.proofs.LoadedDecks.{fitting_images, same_words}
use Rattle.kdf_top.proofs.MadeTexts.{map_ok}
use Rattle.kdf_facts.proofs.running.load_machine.Goals as goal

pub load-requires-clause-images : goal.load-requires-clause-images
load-requires-clause-images c = fitting_images c.args.job.now.slots.items c.args.images.now c.requires.images

pub returns-clause-slots : goal.returns-clause-slots
returns-clause-slots c =
    map_ok _ _ c.load.result (λ m e. e ∙ ap (λ (xs : List (List ℕ)). loading.slots_of (shown_job c.args.job.now).slots xs)
    (same_words c.args.job.now.slots.items c.args.images.now c.requires.images)) c.load.ensures.slots
