use Rattle.std.proofs.Common.{refl}
use Rattle.std.specs.Fmt.{digits}
use Rattle.kdf_text.specs.Text.{octal}
use Rattle.kdf_report.proofs.examples.registers.Goals as goal

pub returns-clause-new : goal.returns-clause-new
unfolding digits octal
returns-clause-new c = refl

pub returns-clause-failed : goal.returns-clause-failed
unfolding digits octal
returns-clause-failed c = refl
