use Rattle.std.proofs.Common.{ap}
use Rattle.kdf_processor.specs.State.{State}
use Rattle.kdf_alone.specs.LonePort.{given, stock_of}
use Rattle.kdf_processor.proofs.Beside.{agrees_with}
use Rattle.kdf_alone.proofs.alone.Alone.order_buffered.Goals as goal

pub obey_next-requires-clause-agrees : goal.obey_next-requires-clause-agrees
obey_next-requires-clause-agrees c =
    let b = c.self.inside.bench in
    agrees_with (λ _. 0) (given (stock_of b).claims b.answer) c.args.self.now.stock (stock_of b) c.args.held.now (ap (λ (s : State). s.stock) c.self.view_is)
    c.requires.agrees
