use Rattle.kdf_theory.specs.Served.{unasked}
use Rattle.kdf_theory.proofs.Results.{if_ok}
use Rattle.kdf_check.proofs.Unserved.{check-same}
use Rattle.kdf_check.proofs.checker.check.Goals as goal

pub returns : goal.returns
returns c = if_ok c.check_with.result _ _ (λ v is. check-same _ unasked _ c.requires.unserved _ _ v is) c.check_with.ensures
