use Rattle.std.proofs.Common.{ap, ◌∙◌}
use Rattle.kdf_processor.specs.Outcome.{outcome}
use Rattle.kdf_processor.specs.Row.{at_once}
use Rattle.kdf_alone.specs.LonePort.{shown}
use Rattle.kdf_alone.specs.LonePort.{given, stock_of}
use Rattle.kdf_processor.proofs.Beside.{agrees_with}
use Rattle.kdf_alone.proofs.Rows.{row_over, step_over}
use Rattle.kdf_alone.proofs.obeying.obey_next.Goals as goal

pub returns-clause-state : goal.returns-clause-state
returns-clause-state c =
    let done = c.in_ok-step.ensures.obeyed in
    let act = (outcome (shown c.prepare.new.self) c.args.registers.now).act in
    row_over c.args.bench.now c.prepare.new.self c.obey_buffered.new.port c.args.answer c.args.registers.now c.obey_buffered.new.registers
    c.prepare.ensures.stock c.prepare.ensures.answer
    done.obeyed.registers (done.obeyed.acted ∙ ap (at_once act) done.stays.stock)

pub returns-clause-step : goal.returns-clause-step
returns-clause-step c =
    c.in_ok-step.ensures.obeyed.obeyed.step
    ∙ step_over c.args.bench.now c.prepare.new.self c.args.answer c.args.registers.now c.prepare.ensures.stock c.prepare.ensures.answer

pub obey_buffered-requires-clause-agrees : goal.obey_buffered-requires-clause-agrees
obey_buffered-requires-clause-agrees c =
    let b = c.args.bench.now in
    let new = c.prepare.new.self in
    agrees_with (given (stock_of b).claims b.answer) (given (stock_of new).claims new.answer) (stock_of b) (stock_of new) c.args.held.now
    c.prepare.ensures.stock c.requires.agrees
