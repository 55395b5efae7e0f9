use Rattle.kdf_report.proofs.Loaded.{program_of}
use Rattle.kdf_report.proofs.laws.program_of_slot.Goals as goal

pub returns : goal.returns
returns c = program_of
