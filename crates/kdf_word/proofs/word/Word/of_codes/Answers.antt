use Rattle.std.proofs.Common.{slice_index, arith}
use Rattle.kdf_word.proofs.Lanes.{small_eight}
use Rattle.kdf_word.proofs.word.Word.of_codes.Goals as goal

pub word_of_eight-requires : goal.word_of_eight-requires
word_of_eight-requires c =
    let cs = c.args.codes.now in
    small_eight (slice_index cs 0) (slice_index cs 1) (slice_index cs 2) (slice_index cs 3) (slice_index cs 4) (slice_index cs 5) (slice_index cs 6)
    (slice_index cs 7)
    (c.requires 0 0 (omega arith)) (c.requires 1 0 (omega arith)) (c.requires 2 0 (omega arith)) (c.requires 3 0 (omega arith))
    (c.requires 4 0 (omega arith)) (c.requires 5 0 (omega arith)) (c.requires 6 0 (omega arith)) (c.requires 7 0 (omega arith))
