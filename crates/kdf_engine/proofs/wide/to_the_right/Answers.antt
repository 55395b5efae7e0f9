use Rattle.std.proofs.Common.{arith}
use Rattle.kdf_engine.proofs.Halves.{right_fits, right_below, right_beyond}
use Rattle.kdf_engine.proofs.wide.to_the_right.Goals as goal

pub overflow_add-result : goal.overflow_add-result
overflow_add-result c = omega (arith, right_fits c.args.low c.args.high c.args.places (omega arith) (omega arith))

pub returns-then-places-lt64 : goal.returns-then-places-lt64
returns-then-places-lt64 c = right_below c.args.low c.args.high c.args.places (omega arith)

pub returns-else-places-lt64 : goal.returns-else-places-lt64
returns-else-places-lt64 c = right_beyond c.args.low c.args.high c.args.places (omega arith) (omega arith)
