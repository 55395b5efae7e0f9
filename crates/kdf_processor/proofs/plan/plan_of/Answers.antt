use Rattle.std.proofs.Common.{subst, sym, ap, ◌∙◌}
use Rattle.kdf_syllable.specs.declared.order.Order.{Order}
use Rattle.kdf_syllable.specs.declared.order.Order.TheVariants.{Plain}
use Rattle.kdf_processor.specs.Plan.{IsPlanOf}
use Rattle.kdf_processor.specs.Table.{effect}
use Rattle.kdf_processor.proofs.plan.plan_of.Goals as goal

pub returns-in-Indirect-clause-plan : goal.returns-in-Indirect-clause-plan
returns-in-Indirect-clause-plan g c =
    let claims = (g.P.Port.shows c.args.port.now).claims in
    let r = c.args.registers.now in
    subst (λ (o : Order). IsPlanOf claims r (effect claims r o) c.plan_indirect.result) (sym c.in-Indirect.is) c.plan_indirect.ensures

pub returns-in-Direct-clause-plan : goal.returns-in-Direct-clause-plan
returns-in-Direct-clause-plan g c =
    let claims = (g.P.Port.shows c.args.port.now).claims in
    let r = c.args.registers.now in
    subst (λ (o : Order). IsPlanOf claims r (effect claims r o) c.plan_direct.result) (sym c.in-Direct.is) c.plan_direct.ensures

pub returns-in-Device-clause-plan : goal.returns-in-Device-clause-plan
returns-in-Device-clause-plan g c =
    let claims = (g.P.Port.shows c.args.port.now).claims in
    let r = c.args.registers.now in
    subst (λ (o : Order). IsPlanOf claims r (effect claims r o) c.plan_transfer.result) (sym c.in-Device.is) c.plan_transfer.ensures

pub returns-in-Query-clause-plan : goal.returns-in-Query-clause-plan
returns-in-Query-clause-plan g c =
    let claims = (g.P.Port.shows c.args.port.now).claims in
    let r = c.args.registers.now in
    subst (λ (o : Order). IsPlanOf claims r (effect claims r o) c.plan_query.result) (sym c.in-Query.is) c.plan_query.ensures

pub returns-in-Plain-eq33-clause-plan : goal.returns-in-Plain-eq33-clause-plan
returns-in-Plain-eq33-clause-plan g c =
    let claims = (g.P.Port.shows c.args.port.now).claims in
    let r = c.args.registers.now in
    let out = c.in-Plain-eq33.is ∙ ap Plain (sym c.in-Plain-eq33.code-is ∙ c.in-Plain-eq33.code-test) in
    subst (λ (o : Order). IsPlanOf claims r (effect claims r o) c.plan_out.result) (sym out) c.plan_out.ensures
