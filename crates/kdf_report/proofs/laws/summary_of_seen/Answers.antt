use Rattle.kdf_report.proofs.SummaryTexts.{summary_seen}
use Rattle.kdf_report.proofs.laws.summary_of_seen.Goals as goal

pub returns : goal.returns
returns c = summary_seen
