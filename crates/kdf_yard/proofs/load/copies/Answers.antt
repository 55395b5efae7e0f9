use Rattle.kdf_job.specs.Shows.{shown_device}
use Rattle.kdf_yard.proofs.Loading.OneMoreLoaded.{take_more}
use Rattle.kdf_yard.proofs.load.copies.Goals as goal

pub loop-device-preserved : goal.loop-device-preserved
loop-device-preserved c =
    take_more shown_device shown_device c.loop-device.copies.items c.push.new.self.items c.in_ok-copy.field-0 c.args.devices.now c.loop-device.device-index
    c.device-item.result
    c.loop-device-test.true c.device-item.is c.in_ok-push.ensures.items c.in_ok-copy.ensures c.loop-device.invariant
