use Rattle.kdf_top.proofs.LoadedDecks.{fitting_images}
use Rattle.kdf_facts.proofs.check.verdict_on.Goals as goal

pub check_with-requires-clause-images : goal.check_with-requires-clause-images
check_with-requires-clause-images g c = fitting_images c.args.job.now.slots.items c.args.images.now c.requires.images
