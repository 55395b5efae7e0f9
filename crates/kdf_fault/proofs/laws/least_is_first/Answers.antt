use Rattle.kdf_fault.proofs.Least.{least-first}
use Rattle.kdf_fault.proofs.laws.least_is_first.Goals as goal

pub returns : goal.returns
returns g c = least-first g.F.Numbered.number
