use Rattle.kdf_theory.specs.Served.{unasked}
use Rattle.kdf_director.proofs.Course.UnservedMachines.{advance_unserved}
use Rattle.kdf_theory.proofs.Course.OneJournal.{answered_unserved}
use Rattle.kdf_theory.proofs.Results.{if_ok}
use Rattle.kdf_director.proofs.machine.Machine.order.Goals as goal

pub returns-clause-took : goal.returns-clause-took
returns-clause-took c =
    if_ok c.order_with.result _ _
    (λ r took. advance_unserved _ unasked c.args.self.now c.order_with.new.self r c.requires.unserved c.journal-journal.ensures.seen took)
    c.order_with.ensures.took

pub returns-clause-answered : goal.returns-clause-answered
returns-clause-answered c =
    answered_unserved _ unasked c.args.self.now.slots c.requires.unserved c.args.self.now.journal c.order_with.new.self.journal c.order_with.ensures.answered
