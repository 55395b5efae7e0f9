use Rattle.kdf_processor.specs.View.{groups_of}
use Rattle.kdf_processor.proofs.ByItself.{none_out}
use Rattle.kdf_alone.specs.LonePort.{stock_of, shown}
use Rattle.kdf_check.proofs.check_port.CheckPortPort.spool.Goals as goal

pub spool-requires-clause-free : goal.spool-requires-clause-free
spool-requires-clause-free c = none_out (stock_of c.args.self.now.bench.now) (shown c.args.self.now.bench.now).answer (groups_of c.args.first c.args.last)
