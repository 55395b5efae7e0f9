use Rattle.kdf_check.proofs.Judging.{one_verdict_lem}
use Rattle.kdf_check.proofs.laws.one_verdict.Goals as goal

pub returns : goal.returns
returns g c rule slots events lines v w a b = one_verdict_lem _ slots events lines v w a b
