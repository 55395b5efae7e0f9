use Rattle.std.proofs.Common.{arith}
use Rattle.std.proofs.lemmas.Grind.{common_steps}
use Rattle.kdf_tape.proofs.Codes.{block_word}
use Rattle.kdf_tape.proofs.tape_block.word_of_eight.Goals as goal

pub returns : goal.returns
returns c = grind (arith, common_steps, block_word c.args.codes.now c.args.i c.requires.inside)
