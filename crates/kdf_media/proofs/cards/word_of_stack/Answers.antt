use Rattle.std.proofs.Common.{sym}
use Rattle.kdf_media.proofs.CardWords.{card_absent}
use Rattle.kdf_media.proofs.cards.word_of_stack.Goals as goal

pub returns-in-None : goal.returns-in-None
returns-in-None c = sym (card_absent c.args.stack.now c.args.place c.args.i (sym c.in-None.ensures.card))
