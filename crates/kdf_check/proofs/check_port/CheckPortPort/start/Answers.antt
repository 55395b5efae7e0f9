use Rattle.kdf_processor.specs.View.{order_groups}
use Rattle.kdf_processor.proofs.ByItself.{none_out}
use Rattle.kdf_alone.specs.LonePort.{stock_of, shown}
use Rattle.kdf_check.proofs.check_port.CheckPortPort.start.Goals as goal

pub start-requires-clause-free : goal.start-requires-clause-free
start-requires-clause-free c = none_out (stock_of c.args.self.now.bench.now) (shown c.args.self.now.bench.now).answer
    (order_groups c.args.order c.args.first c.args.last)
