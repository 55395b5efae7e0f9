use Rattle.std.proofs.Common.{◌≡◌, map, take}
use Rattle.kdf_job.specs.Shows.{shown_device}
use Rattle.kdf_yard.proofs.load.copies.Given as goal

abbrev pub invariant-loop-device : goal.invariant-loop-device
invariant-loop-device l =
    map shown_device l.copies.items ≡ map shown_device (take l.device-index l.devices)
