use Rattle.kdf_report.proofs.TwoWorlds.{section_there}
use Rattle.kdf_report.proofs.laws.section_in_report.Goals as goal

pub returns : goal.returns
returns c = section_there
