use Rattle.kdf_check.proofs.CheckPorts.{order_then, tried_by}
use Rattle.kdf_check.proofs.trying.obey_next.Goals as goal

pub returns-clause-tried : goal.returns-clause-tried
returns-clause-tried c =
    let done = c.in_ok-step.ensures.obeyed in
    tried_by c.args.desk.now done.kept c.obey_in_general.new.port c.args.registers.now c.obey_in_general.new.registers c.in_ok-step.step
    c.requires.order c.requires.quiet done.stays done.obeyed.step done.obeyed.registers done.obeyed.acted

pub returns-clause-same : goal.returns-clause-same
returns-clause-same c =
    let done = c.in_ok-step.ensures.obeyed in
    order_then c.args.desk.now done.kept c.obey_in_general.new.port _ done.stays done.obeyed.acted
