use Rattle.std.proofs.Common.{◌*◌, ◌<◌, ◌≤◌, length, arith, ap, sym, ◌∙◌, Some}
use Rattle.std.proofs.lemmas.Grind.{common_steps}
use Rattle.kdf_media.proofs.CardWords.{card_within, card_behind}
use Rattle.kdf_media.proofs.cards.word_of_card.Goals as goal

pub returns-then-at-codes : goal.returns-then-at-codes
returns-then-at-codes c =
    let inside : 8 * c.args.i < length c.args.codes.now = omega arith in
    grind (arith, common_steps, card_within c.args.codes.now c.args.i c.requires.short inside)

pub returns-then-i-lt-CARD_WORDS : goal.returns-then-i-lt-CARD_WORDS
returns-then-i-lt-CARD_WORDS c =
    let behind : length c.args.codes.now ≤ 8 * c.args.i = omega arith in
    let within : c.args.i < 10 = omega arith in
    ap Some c.default.ensures ∙ sym (card_behind c.args.codes.now c.args.i c.requires.short behind within)
