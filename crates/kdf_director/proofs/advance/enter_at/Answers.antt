use Rattle.kdf_director.proofs.Linking.YardEntered.{entered_in}
use Rattle.kdf_yard.proofs.Turns.YardTurns.{many_entered, rest_entered, runs_entered, yard_then}
use Rattle.kdf_director.proofs.advance.enter_at.Goals as goal

pub invariant_of-yard : goal.invariant_of-yard
invariant_of-yard c =
    let m = c.yard.inside in
    yard_then m c.yard.invariant m.store _ m.places.items
    (many_entered m c.yard.invariant c.args.yard.now c.yard.view_is c.args.i c.requires.there c.index_mut.result.now c.index_mut.ensures.value
    c.enter_tried.new.program c.enter_tried.ensures.seat)
    c.yard.invariant.dry
    (runs_entered m c.yard.invariant c.args.yard.now c.yard.view_is c.args.i c.requires.there c.index_mut.result.now c.index_mut.ensures.value
    c.enter_tried.new.program c.enter_tried.ensures.seat)

pub returns-clause-entered : goal.returns-clause-entered
returns-clause-entered c =
    entered_in c.yard.inside c.yard.invariant c.args.yard.now c.yard.view_is c.args.i c.requires.there c.index_mut.result.now c.index_mut.ensures.value
    c.enter_tried.new.program c.enter_tried.ensures.seat
    c.args.journal.now.entries c.enter_tried.new.journal.entries c.args.quiet c.args.tried c.enter_tried.result c.enter_tried.ensures.entered

pub returns-clause-rest : goal.returns-clause-rest
returns-clause-rest c =
    rest_entered c.yard.inside c.yard.invariant c.args.yard.now c.yard.view_is c.args.i c.requires.there c.index_mut.result.now c.index_mut.ensures.value
    c.enter_tried.new.program c.enter_tried.ensures.seat
