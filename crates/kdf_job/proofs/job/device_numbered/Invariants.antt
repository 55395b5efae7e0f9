use Rattle.std.proofs.Common.{◌≡◌, map, drop}
use Rattle.kdf_job.specs.Shows.{shown_device}
use Rattle.kdf_job.specs.Slots.{numbered}
use Rattle.kdf_job.proofs.job.device_numbered.Given as goal

abbrev pub invariant-loop-device : goal.invariant-loop-device
invariant-loop-device l =
    numbered (map shown_device l.devices) l.d ≡ numbered (map shown_device (drop l.device-index l.devices)) l.d
