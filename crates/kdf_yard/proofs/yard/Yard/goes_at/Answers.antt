use Rattle.std.proofs.Common.{List, ap, ◌∙◌}
use Rattle.kdf_theory.specs.Holders.{is_held}
use Rattle.kdf_yard.specs.Fields.Going.{goes}
use Rattle.kdf_yard.specs.Fields.Parts.{reach_of, seat_of}
use Rattle.kdf_places.specs.Shared.{shared_in}
use Rattle.kdf_places.specs.declared.place.Place.{Place}
use Rattle.kdf_yard.proofs.Turns.YardTurns.{at_group, goes_there, in_store, near}
use Rattle.kdf_yard.proofs.yard.Yard.goes_at.Goals as goal

pub goes-requires-clause-near : goal.goes-requires-clause-near
goes-requires-clause-near c =
    near c.self.inside c.self.invariant c.args.self.now c.self.view_is c.args.i c.requires.there c.index.result.now c.index.ensures c.index-2.result.now
    c.index-2.ensures c.requires.near

pub goes-requires-clause-at_group : goal.goes-requires-clause-at_group
goes-requires-clause-at_group c =
    at_group c.self.inside c.self.invariant c.args.self.now c.self.view_is c.args.i c.requires.there c.index.result.now c.index.ensures c.index-2.result.now
    c.index-2.ensures

pub goes-requires-clause-in_store : goal.goes-requires-clause-in_store
goes-requires-clause-in_store c =
    in_store c.self.inside c.self.invariant c.args.self.now c.self.view_is c.args.i c.requires.there c.index.result.now c.index.ensures c.index-2.result.now
    c.index-2.ensures

pub returns : goal.returns
returns c =
    c.goes.ensures
    ∙ ap (λ (xs : List Place). goes (seat_of c.index-2.result.now) (reach_of c.self.inside.windows c.index.result.now) (is_held c.args.journal.now.entries)
    (shared_in c.self.inside.store xs) c.index-2.result.now.hold) c.deref.ensures.value
    ∙ goes_there c.self.inside c.self.invariant c.args.self.now c.self.view_is c.args.i c.requires.there c.index.result.now c.index.ensures
    c.index-2.result.now c.index-2.ensures c.args.journal.now.entries c.requires.lent
