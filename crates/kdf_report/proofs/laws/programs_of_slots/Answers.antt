use Rattle.kdf_report.proofs.SeenPrograms.{has_programs}
use Rattle.kdf_report.proofs.laws.programs_of_slots.Goals as goal

pub returns : goal.returns
returns c = has_programs
