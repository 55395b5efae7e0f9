use Rattle.kdf_engine.proofs.Limbs.{upper_half}
use Rattle.kdf_engine.proofs.wide.upper_half.Goals as goal

pub returns : goal.returns
returns c = upper_half c.args.a c.args.b
