use Rattle.kdf_place.proofs.Thinned.{assembled-read, assembled-unread}
use Rattle.kdf_place.proofs.assembler.assemble_text.Goals as goal

pub returns-in-Ok-clause-answer : goal.returns-in-Ok-clause-answer
returns-in-Ok-clause-answer c =
    let deck = c.in-Ok.deck in
    let given = c.in-Ok.ensures.answer in
    rw (← assembled-read c.args.size deck.length c.args.text.now deck.statements.items given.0 given.1) c.assemble.ensures.answer

pub returns-in-Err-clause-answer : goal.returns-in-Err-clause-answer
returns-in-Err-clause-answer c = assembled-unread c.args.size c.args.text.now c.in-Err.error c.in-Err.ensures.answer
