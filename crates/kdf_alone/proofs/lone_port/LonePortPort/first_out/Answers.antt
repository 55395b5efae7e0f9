use Rattle.std.proofs.Common.{sym}
use Rattle.kdf_processor.specs.View.{groups_of}
use Rattle.kdf_processor.proofs.ByItself.{none_out}
use Rattle.kdf_alone.specs.LonePort.{stock_of}
use Rattle.kdf_alone.proofs.lone_port.LonePortPort.first_out.Goals as goal

pub returns : goal.returns
returns c =
    sym (none_out (stock_of c.args.self.now) (λ _. c.args.self.now.answer) (groups_of c.args._first c.args._last))
