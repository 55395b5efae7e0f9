use Rattle.std.proofs.Common.{ap, sym, ◌∙◌, subst}
use Rattle.kdf_places.specs.Spots.{AreDry}
use Rattle.kdf_yard.proofs.Turns.YardTurns.{asks, asks_none, can_turn, many, unheard, yard_then, Runs}
use Rattle.kdf_yard.proofs.yard.Yard.heard.Goals as goal

pub answer_if_asked-requires-clause-can : goal.answer_if_asked-requires-clause-can
answer_if_asked-requires-clause-can g c =
    can_turn c.self.inside c.self.invariant c.args.self.now c.self.view_is c.args.i c.requires.there c.index-slot.result.now c.index-slot.ensures
    c.index_mut.result.now c.index_mut.ensures.value c.requires.live

pub invariant_of-self : goal.invariant_of-self
invariant_of-self g c =
    let m = c.self.inside in
    yard_then m c.self.invariant c.answer_if_asked.new.store _ c.answer_if_asked.new.places.items
    (many m c.self.invariant c.args.self.now c.self.view_is c.args.i c.requires.there c.index-slot.result.now c.index-slot.ensures c.index_mut.result.now
    c.index_mut.ensures.value c.answer_if_asked.new.program)
    (subst (λ v. AreDry v.items) (sym c.answer_if_asked.ensures.places) c.self.invariant.dry)
    (subst Runs
    (sym (unheard m c.self.invariant c.args.self.now c.self.view_is c.args.i c.requires.there c.index-slot.result.now c.index-slot.ensures
    c.index_mut.result.now c.index_mut.ensures.value c.answer_if_asked.new.program c.answer_if_asked.ensures.seat
    c.answer_if_asked.ensures.hold c.answer_if_asked.new.store c.answer_if_asked.ensures.store
    c.answer_if_asked.new.places.items (ap (λ v. v.items) c.answer_if_asked.ensures.places)))
    c.self.invariant.running)

pub returns-then-slot-clause-asked : goal.returns-then-slot-clause-asked
returns-then-slot-clause-asked g c =
    asks c.self.inside c.self.invariant c.args.self.now c.self.view_is c.args.i c.requires.there c.index-slot.result.now c.index-slot.ensures
    c.index_mut.result.now c.index_mut.ensures.value
    (λ n a. goal.F-post g c.args.service.now n a) c.answer_if_asked.result c.answer_if_asked.ensures.asked

pub returns-then-slot-clause-same : goal.returns-then-slot-clause-same
returns-then-slot-clause-same g c =
    unheard c.self.inside c.self.invariant c.args.self.now c.self.view_is c.args.i c.requires.there c.index-slot.result.now c.index-slot.ensures
    c.index_mut.result.now c.index_mut.ensures.value c.answer_if_asked.new.program c.answer_if_asked.ensures.seat
    c.answer_if_asked.ensures.hold c.answer_if_asked.new.store c.answer_if_asked.ensures.store
    c.answer_if_asked.new.places.items (ap (λ v. v.items) c.answer_if_asked.ensures.places)
    ∙ c.self.view_is

pub returns-else-slot-clause-asked : goal.returns-else-slot-clause-asked
returns-else-slot-clause-asked g c =
    asks_none c.self.inside c.self.invariant c.args.self.now c.self.view_is c.args.i c.requires.there c.index-slot.result.now c.index-slot.ensures
    (λ n a. goal.F-post g c.args.service.now n a) c.if-slot.false
