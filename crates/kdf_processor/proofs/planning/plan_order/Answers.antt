use Rattle.std.proofs.Common.{ap, ◌∙◌}
use Rattle.kdf_processor.specs.Outcome.{try_effect}
use Rattle.kdf_processor.proofs.planning.plan_order.Goals as goal

pub returns-in-Some-clause-outcome : goal.returns-in-Some-clause-outcome
returns-in-Some-clause-outcome g c =
    ap (try_effect (g.P.Port.shows c.args.port.now) c.args.registers.now) c.in-Some.ensures.plan.effect ∙ c.plan_act.ensures.outcome

pub returns-in-None-clause-outcome : goal.returns-in-None-clause-outcome
returns-in-None-clause-outcome g c = ap (try_effect (g.P.Port.shows c.args.port.now) c.args.registers.now) c.in-None.ensures.change
