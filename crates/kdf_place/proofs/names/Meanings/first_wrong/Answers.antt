use Rattle.std.proofs.Common.{◌∙◌, arith}
use Rattle.kdf_place.specs.Tables.{meaning}
use Rattle.kdf_place.proofs.Piecewise.{wrong-step}
use Rattle.kdf_place.proofs.names.Meanings.first_wrong.Goals as goal

pub loop-statement-preserved : goal.loop-statement-preserved
loop-statement-preserved c = record {
  near = omega (arith, c.loop-statement.invariant.near, c.after-here.ensures.near);
  all =
      wrong-step (meaning c.args.self.now) c.loop-statement.best c.with_statement-best.result c.loop-statement.here c.after-here.result
      c.loop-statement.statement-index c.args.statements.now c.statement-item.result c.loop-statement-test.true c.statement-item.is
      c.after-here.ensures.value c.with_statement-best.ensures
      ∙ c.loop-statement.invariant.all;
}
