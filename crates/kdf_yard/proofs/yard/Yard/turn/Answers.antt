use Rattle.kdf_yard.specs.Fields.Shared.{moment}
use Rattle.kdf_theory.proofs.Results.{if_ok, on_err, on_either}
use Rattle.kdf_yard.proofs.Turns.YardTurns.{can_turn, many, runs_still, runs_then, same_yard, still_in, turned_in, yard_then}
use Rattle.kdf_yard.proofs.yard.Yard.turn.Goals as goal

pub run-requires-clause-can : goal.run-requires-clause-can
run-requires-clause-can c =
    can_turn c.self.inside c.self.invariant c.args.self.now c.self.view_is c.args.batch.i c.requires.there c.index.result.now c.index.ensures
    c.index_mut.result.now c.index_mut.ensures.value c.requires.live

pub invariant_of-self : goal.invariant_of-self
invariant_of-self c =
    let m = c.self.inside in
    yard_then m c.self.invariant c.run.new.store _ c.run.new.places.items
    (many m c.self.invariant c.args.self.now c.self.view_is c.args.batch.i c.requires.there c.index.result.now c.index.ensures c.index_mut.result.now
    c.index_mut.ensures.value c.run.new.program)
    c.run.ensures.dry
    (on_either c.run.result.1 _ _ _ c.run.ensures.ran c.run.ensures.err
    (λ x h. runs_then m c.self.invariant c.args.self.now c.self.view_is c.args.batch.i c.requires.there c.index.result.now c.index.ensures
    c.index_mut.result.now c.index_mut.ensures.value c.run.new.program
    c.requires.live c.args.batch.journal.now.entries c.requires.lent (moment c.args.batch.time c.args.heard) c.run.result.0 c.args.batch.place c.run.new.store
    c.run.new.places.items x.0 x.1 h)
    (λ h. runs_still m c.self.invariant c.args.self.now c.self.view_is c.args.batch.i c.requires.there c.index.result.now c.index.ensures
    c.index_mut.result.now c.index_mut.ensures.value c.run.new.program
    c.requires.live c.args.batch.journal.now.entries c.requires.lent (moment c.args.batch.time c.args.heard) c.run.result.0 c.args.batch.place c.run.new.store
    c.run.new.places.items h))

pub returns-clause-turned : goal.returns-clause-turned
returns-clause-turned c =
    if_ok c.run.result.1 _ _
    (λ x h. turned_in c.self.inside c.self.invariant c.args.self.now c.self.view_is c.args.batch.i c.requires.there c.index.result.now c.index.ensures
    c.index_mut.result.now c.index_mut.ensures.value c.run.new.program
    c.requires.live c.args.batch.journal.now.entries c.requires.lent (moment c.args.batch.time c.args.heard) c.run.result.0 c.args.batch.place c.run.new.store
    c.run.new.places.items x.0 x.1 h)
    c.run.ensures.ran

pub returns-clause-err : goal.returns-clause-err
returns-clause-err c =
    on_err c.run.result.1 _ _
    (still_in c.self.inside c.self.invariant c.args.self.now c.self.view_is c.args.batch.i c.requires.there c.index.result.now c.index.ensures
    c.index_mut.result.now c.index_mut.ensures.value c.run.new.program
    c.requires.live c.args.batch.journal.now.entries c.requires.lent (moment c.args.batch.time c.args.heard) c.run.result.0 c.args.batch.place c.run.new.store
    c.run.new.places.items)
    c.run.ensures.err

pub returns-clause-same : goal.returns-clause-same
returns-clause-same c =
    same_yard c.self.inside c.self.invariant c.args.self.now c.self.view_is c.args.batch.i c.requires.there c.index.result.now c.index.ensures
    c.index_mut.result.now c.index_mut.ensures.value c.run.new.program
    c.requires.live c.args.batch.journal.now.entries c.requires.lent (moment c.args.batch.time c.args.heard) c.run.result.0 c.args.batch.place c.run.new.store
    c.run.new.places.items c.run.ensures.hold
