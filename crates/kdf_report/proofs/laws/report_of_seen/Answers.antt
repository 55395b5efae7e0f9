use Rattle.kdf_report.proofs.SeenPrograms.{report_seen}
use Rattle.kdf_report.proofs.laws.report_of_seen.Goals as goal

pub returns : goal.returns
returns c = report_seen
