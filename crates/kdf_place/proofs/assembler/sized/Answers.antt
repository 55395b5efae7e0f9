use Rattle.std.proofs.Common.{arith}
use Rattle.kdf_place.proofs.Assembled.{too-large, with-room}
use Rattle.kdf_place.proofs.assembler.sized.Goals as goal

pub returns-then-meanings-y_words-clause-answer : goal.returns-then-meanings-y_words-clause-answer
returns-then-meanings-y_words-clause-answer c =
    too-large c.args.known.meanings c.args.deck.now.statements.items c.y_words.result c.args.deck.now.length c.args.size c.requires.names
    c.y_words.ensures.value
    (omega (arith, c.from.ensures, c.if-meanings-y_words.true))

pub returns-clause-answer : goal.returns-clause-answer
returns-clause-answer c =
    (with-room c.args.known.meanings c.args.deck.now.statements.items c.deref.result.now c.args.known.labels.items c.in_ok-picture.field-0 c.y_words.result
    c.args.deck.now.length c.args.size
    c.deref.ensures.value c.requires.names c.requires.labels c.in_ok-picture.ensures.words c.in_ok-picture.ensures.start c.in_ok-picture.ensures.labels
    c.y_words.ensures.value (omega (arith, c.from.ensures, c.if-meanings-y_words.false))).0

pub returns-clause-fits : goal.returns-clause-fits
returns-clause-fits c =
    (with-room c.args.known.meanings c.args.deck.now.statements.items c.deref.result.now c.args.known.labels.items c.in_ok-picture.field-0 c.y_words.result
    c.args.deck.now.length c.args.size
    c.deref.ensures.value c.requires.names c.requires.labels c.in_ok-picture.ensures.words c.in_ok-picture.ensures.start c.in_ok-picture.ensures.labels
    c.y_words.ensures.value (omega (arith, c.from.ensures, c.if-meanings-y_words.false))).1
