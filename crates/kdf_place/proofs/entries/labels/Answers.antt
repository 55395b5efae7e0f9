use Rattle.std.proofs.Common.{arith, ◌∙◌}
use Rattle.kdf_place.proofs.Settled.{labels-end, labels-step, within-more}
use Rattle.kdf_place.proofs.entries.labels.Goals as goal

pub loop-statement-preserved : goal.loop-statement-preserved
loop-statement-preserved c =
    let before = c.settle_before-known in
    record {
      near = omega (arith, c.loop-statement.invariant.near, c.after-here.ensures.near);
      known = within-more before.result before.new.labels.items _ c.push_label.new.labels.items before.ensures.within c.in_ok-push_label.ensures;
      all =
          labels-step c.loop-statement.labels.items before.new.labels.items c.push_label.new.labels.items c.loop-statement.known before.result
          c.loop-statement.here c.after-here.result c.loop-statement.statement-index c.args.statements.now c.statement-item.result _
          c.loop-statement-test.true c.statement-item.is c.after-here.ensures.value before.ensures.within before.ensures.settled
          c.in_ok-push_label.ensures c.loop-statement.invariant.all;
    }

pub returns : goal.returns
returns c =
    c.settle_from.ensures
    ∙ labels-end c.loop-statement.labels.items c.loop-statement.known c.loop-statement.here c.loop-statement.statement-index c.args.statements.now _
    c.loop-statement-test.false c.loop-statement.invariant.all
