use Rattle.std.proofs.Common.{arith}
use Rattle.std.proofs.lemmas.Grind.{common_steps}
use Rattle.kdf_snapshot.proofs.differs.is_same.Goals as goal

pub returns-clause-same : goal.returns-clause-same
returns-clause-same c = grind (arith, common_steps)

pub returns-clause-apart : goal.returns-clause-apart
returns-clause-apart c = grind (arith, common_steps)
