use Rattle.std.proofs.Common.{refl}
use Rattle.std.specs.Fmt.{digits}
use Rattle.kdf_code.specs.Code.{host_of}
use Rattle.kdf_report.proofs.examples.stints.Goals as goal

pub returns-clause-held : goal.returns-clause-held
unfolding digits host_of
returns-clause-held c = refl

pub returns-clause-back : goal.returns-clause-back
unfolding digits host_of
returns-clause-back c = refl

pub returns-clause-none : goal.returns-clause-none
unfolding digits host_of
returns-clause-none c = refl
