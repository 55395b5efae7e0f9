use Rattle.kdf_job.specs.Shows.{shown_slot}
use Rattle.kdf_report.proofs.Loaded.{ran_from}
use Rattle.kdf_trials.proofs.pool.alone_after.Goals as goal

pub returns : goal.returns
returns c = ran_from (shown_slot c.args.slot.now) c.args.image.now.words.items c.args.answers.now c.args.orders _ _ c.requires.slot c.in_ok-program.ensures
    c.in_ok-orders.ensures
