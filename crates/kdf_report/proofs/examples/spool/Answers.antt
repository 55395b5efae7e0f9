use Rattle.std.proofs.Common.{refl}
use Rattle.std.specs.Fmt.{digits}
use Rattle.kdf_code.specs.Code.{host_of}
use Rattle.kdf_report.proofs.examples.spool.Goals as goal

pub returns-clause-text : goal.returns-clause-text
unfolding digits host_of
returns-clause-text c = refl

pub returns-clause-empty : goal.returns-clause-empty
unfolding digits host_of
returns-clause-empty c = refl
