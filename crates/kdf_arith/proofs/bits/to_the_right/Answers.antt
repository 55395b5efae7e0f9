use Rattle.kdf_arith.proofs.Capped.{capped_right}
use Rattle.kdf_arith.proofs.bits.to_the_right.Goals as goal

pub returns : goal.returns
returns c = rw c.min.ensures (capped_right 96 c.args.bits c.args.places c.requires)
