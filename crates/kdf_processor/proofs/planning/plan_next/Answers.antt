use Rattle.std.proofs.Common.{subst, None, [], ◌∷◌, ◌∙◌}
use Rattle.kdf_decode.specs.Decoding.{first_decoded}
use Rattle.kdf_processor.specs.Fetch.{IsFetchedAt}
use Rattle.kdf_processor.proofs.FetchLemmas.{outcome_there, outcome_held}
use Rattle.kdf_processor.proofs.planning.plan_next.Goals as goal

pub returns-in-Held-clause-outcome : goal.returns-in-Held-clause-outcome
returns-in-Held-clause-outcome g c =
    let v = g.P.Port.shows c.args.port.now in
    let r = c.args.registers.now in
    let is = subst (IsFetchedAt v r.at) c.in-Held.is c.fetch_order.ensures in
    outcome_held v r c.in-Held.group is.held

pub returns-in-Bad-clause-outcome : goal.returns-in-Bad-clause-outcome
returns-in-Bad-clause-outcome g c =
    let v = g.P.Port.shows c.args.port.now in
    let r = c.args.registers.now in
    let is = subst (IsFetchedAt v r.at) c.in-Bad.is c.fetch_order.ensures in
    outcome_there v r None is.held is.order ∙ c.plan_settled.ensures.outcome

pub returns-in-Spelt-clause-outcome : goal.returns-in-Spelt-clause-outcome
returns-in-Spelt-clause-outcome g c =
    let v = g.P.Port.shows c.args.port.now in
    let r = c.args.registers.now in
    let is = subst (IsFetchedAt v r.at) c.in-Spelt.is c.fetch_order.ensures in
    outcome_there v r (first_decoded (c.in-Spelt.first ∷ c.in-Spelt.second ∷ c.in-Spelt.third ∷ [])) is.held is.order ∙ c.plan_spelt.ensures.outcome
