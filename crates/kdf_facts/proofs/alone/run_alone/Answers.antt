use Rattle.std.proofs.Common.{[]}
use Rattle.kdf_job.specs.Shows.{shown_slot}
use Rattle.kdf_report.proofs.Loaded.{ran_from}
use Rattle.kdf_facts.proofs.alone.run_alone.Goals as goal

pub returns : goal.returns
returns c =
    ran_from (shown_slot c.args.slot.now) c.args.image.now.words.items [] c.args.orders c.in_ok-program.program c.orders.new.self c.requires.slot
    c.in_ok-program.ensures c.in_ok-orders.ensures
