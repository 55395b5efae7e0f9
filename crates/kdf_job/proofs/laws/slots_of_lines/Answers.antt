use Rattle.kdf_job.proofs.SlotReadings.{slots_told_alike}
use Rattle.kdf_job.proofs.laws.slots_of_lines.Goals as goal

pub returns : goal.returns
returns c = slots_told_alike
