use Rattle.kdf_report.proofs.TwoWorlds.{same_lines, same_slots}
use Rattle.kdf_report.proofs.laws.two_worlds.Goals as goal

pub returns-clause-lines : goal.returns-clause-lines
returns-clause-lines c = same_lines

pub returns-clause-slots : goal.returns-clause-slots
returns-clause-slots c = same_slots
