use Rattle.kdf_arith.proofs.Capped.{capped_left}
use Rattle.kdf_arith.proofs.bits.to_the_left.Goals as goal

pub returns : goal.returns
returns c = rw c.min.ensures (capped_left c.args.bits c.args.places)
