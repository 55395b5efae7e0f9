use Rattle.std.proofs.Common.{◌∙◌}
use Rattle.kdf_yard.proofs.Physical.DeviceNumbers.{any_number}
use Rattle.kdf_yard.proofs.devices.owns.Goals as goal

pub returns : goal.returns
returns c = c.have.ensures ∙ any_number c.args.devices.now c.args.d
