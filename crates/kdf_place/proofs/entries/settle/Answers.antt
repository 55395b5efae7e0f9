use Rattle.kdf_place.proofs.Settled.{settle-step}
use Rattle.kdf_place.proofs.entries.settle.Goals as goal

pub loop-label-preserved : goal.loop-label-preserved
loop-label-preserved c =
    settle-step c.args.labels.now c.loop-label.labels c.loop-label.label-index c.args.at _ c.loop-label.invariant c.loop-label-test.true
