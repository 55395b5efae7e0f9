use Rattle.kdf_job.specs.Shows.{shown_job}
use Rattle.kdf_top.proofs.Reported.{programs}
use Rattle.kdf_facts.proofs.snapshot.snapshot_facts.Goals as goal

pub told_after-told-requires-clause-programs : goal.told_after-told-requires-clause-programs
told_after-told-requires-clause-programs g c =
    programs (shown_job c.args.loaded.job.now) c.in_ok-machine.machine c.requires.job.slots c.requires.images.fits c.in_ok-machine.ensures.slots
    c.in_ok-machine.ensures.seen
