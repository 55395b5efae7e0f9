use Rattle.std.proofs.Common.{refl}
use Rattle.std.specs.Fmt.{digits}
use Rattle.kdf_text.specs.Text.{octal}
use Rattle.kdf_report.proofs.examples.summaries.Goals as goal

pub returns-clause-front : goal.returns-clause-front
unfolding digits
returns-clause-front c = refl

pub returns-clause-ended : goal.returns-clause-ended
unfolding digits octal
returns-clause-ended c = refl

pub returns-clause-failed : goal.returns-clause-failed
unfolding digits octal
returns-clause-failed c = refl
