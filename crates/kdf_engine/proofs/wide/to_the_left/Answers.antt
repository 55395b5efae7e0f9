use Rattle.std.proofs.Common.{arith}
use Rattle.kdf_engine.proofs.Halves.{left_fits, left_below, left_beyond}
use Rattle.kdf_engine.proofs.wide.to_the_left.Goals as goal

pub overflow_add-result : goal.overflow_add-result
overflow_add-result c = omega (arith, left_fits c.args.low c.args.high c.args.places (omega arith) (omega arith))

pub returns-then-places-lt64 : goal.returns-then-places-lt64
returns-then-places-lt64 c = left_below c.args.low c.args.high c.args.places (omega arith) (omega arith)

pub returns-else-places-lt64 : goal.returns-else-places-lt64
returns-else-places-lt64 c = left_beyond c.args.low c.args.high c.args.places (omega arith)
