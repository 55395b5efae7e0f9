use Rattle.std.proofs.Common.{ap, subst, sym, ◌∙◌}
use Rattle.kdf_processor.specs.Outcome.{Outcome}
use Rattle.kdf_processor.proofs.obeying.obey.Goals as goal

pub obey_planned-requires-clause-room : goal.obey_planned-requires-clause-room
obey_planned-requires-clause-room g c = subst (λ (o : Outcome). g.P.Port.room c.args.port.now o.act) c.plan_next-planned.ensures.outcome c.requires.room

pub returns-clause-step : goal.returns-clause-step
returns-clause-step g c = c.obey_planned.ensures.step ∙ ap (λ (o : Outcome). o.step) (sym c.plan_next-planned.ensures.outcome)

pub returns-clause-registers : goal.returns-clause-registers
returns-clause-registers g c = c.obey_planned.ensures.registers ∙ ap (λ (o : Outcome). o.registers) (sym c.plan_next-planned.ensures.outcome)

pub returns-clause-acted : goal.returns-clause-acted
returns-clause-acted g c =
    subst (λ (o : Outcome). g.P.Port.acts c.args.port.now o.act c.obey_planned.new.port) (sym c.plan_next-planned.ensures.outcome) c.obey_planned.ensures.acted

pub returns-clause-unchanged : goal.returns-clause-unchanged
returns-clause-unchanged g c nothing =
    c.obey_planned.ensures.unchanged (ap (λ (o : Outcome). o.act) (sym c.plan_next-planned.ensures.outcome) ∙ nothing)
