use Rattle.std.proofs.Common.{arith}
use Rattle.kdf_word.proofs.Packing.{length-words_of}
use Rattle.kdf_transfer.proofs.flight.count_within.Goals as goal

pub returns-clause-value : goal.returns-clause-value
returns-clause-value c = omega (arith, length-words_of c.args.codes.now, c.min.ensures, c.div_ceil.ensures, c.from.ensures)
