use Rattle.std.proofs.Common.{◌∙◌, sym, ap}
use Rattle.kdf_place.specs.Names.{names}
use Rattle.kdf_place.specs.Tables.{meaning}
use Rattle.kdf_place.proofs.Assembled.{few, first-late, placed-fault, placed-sized}
use Rattle.kdf_place.proofs.assembler.assemble.Goals as goal

pub read_names-requires : goal.read_names-requires
read_names-requires c = rw c.deref.ensures.value (few c.args.deck.now.statements.items c.args.deck.now.length c.requires.deck)

pub first_wrong-requires : goal.first_wrong-requires
first_wrong-requires c = rw c.deref-2.ensures.value (few c.args.deck.now.statements.items c.args.deck.now.length c.requires.deck)

pub sized-requires-clause-few : goal.sized-requires-clause-few
sized-requires-clause-few c = few c.args.deck.now.statements.items c.args.deck.now.length c.requires.deck

pub returns-in-Some-clause-answer : goal.returns-in-Some-clause-answer
returns-in-Some-clause-answer c =
    let ss = c.args.deck.now.statements.items in
    let known = c.in_ok-known.known in
    let late = first-late ss c.deref-2.result.now (meaning known.meanings) known.twice c.first_wrong.result c.deref-2.ensures.value
    (c.in_ok-known.ensures.names ∙ ap names c.deref.ensures.value) (rw (← c.deref.ensures.value) c.in_ok-known.ensures.twice) c.first_wrong.ensures in
    placed-fault ss c.args.deck.now.length c.args.size c.in-Some.found (sym late ∙ c.in-Some.is)

pub returns-in-None-clause-answer : goal.returns-in-None-clause-answer
returns-in-None-clause-answer c =
    let ss = c.args.deck.now.statements.items in
    let known = c.in_ok-known.known in
    let late = first-late ss c.deref-2.result.now (meaning known.meanings) known.twice c.first_wrong.result c.deref-2.ensures.value
    (c.in_ok-known.ensures.names ∙ ap names c.deref.ensures.value) (rw (← c.deref.ensures.value) c.in_ok-known.ensures.twice) c.first_wrong.ensures in
    rw (placed-sized ss c.args.deck.now.length c.args.size (sym late ∙ c.in-None.is)) c.sized.ensures.answer
