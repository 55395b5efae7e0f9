use Rattle.std.proofs.Common.{arith}
use Rattle.std.proofs.lemmas.Nat.{xor_lt}
use Rattle.kdf_arith.proofs.words.nev.Goals as goal

pub new-requires : goal.new-requires
new-requires c = xor_lt 48 c.bits.result c.bits-2.result (omega arith) (omega arith)
