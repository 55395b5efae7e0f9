use Rattle.kdf_yard.proofs.Turns.TurnsShow.{program_acts, program_stays, program_then, tried_by}
use Rattle.kdf_yard.proofs.dispatch.obey_next.Goals as goal

pub returns-clause-tried : goal.returns-clause-tried
returns-clause-tried c =
    let done = c.in_ok-step.ensures.obeyed in
    tried_by c.args.turn.now done.kept c.obey_in_general.new.port c.args.registers.now c.obey_in_general.new.registers c.in_ok-step.step
    c.requires.quiet done.stays done.obeyed.step done.obeyed.registers done.obeyed.acted

pub returns-clause-same : goal.returns-clause-same
returns-clause-same c =
    let done = c.in_ok-step.ensures.obeyed in
    program_then c.args.turn.now done.kept c.obey_in_general.new.port (program_stays c.args.turn.now done.kept done.stays)
    (program_acts done.kept c.obey_in_general.new.port _ done.obeyed.acted)
