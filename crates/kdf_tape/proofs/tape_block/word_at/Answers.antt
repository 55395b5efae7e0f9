use Rattle.kdf_tape.proofs.Codes.{block_inside}
use Rattle.kdf_tape.proofs.tape_block.word_at.Goals as goal

pub word_of_eight-requires-clause-inside : goal.word_of_eight-requires-clause-inside
word_of_eight-requires-clause-inside c = block_inside c.args.codes.now c.args.i c.requires.whole c.requires.inside
