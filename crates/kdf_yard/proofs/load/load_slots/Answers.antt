use Rattle.std.proofs.Common.{arith}
use Rattle.kdf_yard.proofs.Loading.OneMoreLoaded.{loads_more}
use Rattle.kdf_yard.proofs.load.load_slots.Goals as goal

pub loop-i-preserved : goal.loop-i-preserved
loop-i-preserved c =
    loads_more c.args.slots.now c.args.images.now c.loop-i.i c.index-slots-i.result c.index-images-i.result c.loop-i.loaded.items c.push.new.self.items
    c.in_ok-load_slot.field-0 _
    c.loop-i-test.true (omega (arith, c.loop-i-test.true, c.requires)) c.index-slots-i.is c.index-images-i.is c.in_ok-push.ensures.items
    c.in_ok-load_slot.ensures c.loop-i.invariant
