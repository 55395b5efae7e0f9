use Rattle.std.proofs.Common.{◌+◌, ◌*◌, ◌<◌, length, arith}
use Rattle.std.proofs.lemmas.Grind.{common_steps}
use Rattle.kdf_media.proofs.CardWords.{word_there}
use Rattle.kdf_media.proofs.reader.word_from.Goals as goal

pub returns-then-at-codes : goal.returns-then-at-codes
returns-then-at-codes c =
    let inside : c.args.from + 8 * c.args.i < length c.args.codes.now = omega arith in
    grind (arith, common_steps, word_there c.args.codes.now c.args.from c.args.i inside)
