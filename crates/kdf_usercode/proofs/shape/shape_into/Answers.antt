use Rattle.kdf_usercode.proofs.Shapes.{shape-step}
use Rattle.kdf_usercode.proofs.shape.shape_into.Goals as goal

pub loop-i-preserved : goal.loop-i-preserved
loop-i-preserved c =
    shape-step c.args.text.now c.loop-i.room.items c.push_shape.new.room.items _ c.loop-i.i c.loop-i-test.true c.in_ok-push_shape.ensures c.loop-i.invariant
