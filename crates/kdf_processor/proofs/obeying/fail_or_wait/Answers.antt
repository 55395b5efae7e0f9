use Rattle.std.proofs.Common.{subst, sym, refl, ◌∙◌}
use Rattle.kdf_processor.specs.declared.plan.Plan.TheVariants.{Fail}
use Rattle.kdf_processor.specs.declared.step.Step.TheVariants.{Held}
use Rattle.kdf_processor.specs.Outcome.{CameTo, held_or}
use Rattle.kdf_processor.specs.Plan.{done_plan}
use Rattle.kdf_processor.proofs.obeying.fail_or_wait.Goals as goal

pub returns-in-None : goal.returns-in-None
returns-in-None g c =
    let port = c.args.port.now in
    let v = g.P.Port.shows port in
    let r = c.args.registers.now in
    subst
    (λ n. CameTo g.P.Port.acts (held_or r n (done_plan v r (Fail c.args.kind))) port port c.fail.new.registers c.fail.result)
    (sym c.in-None.is ∙ c.first_need.ensures r)
    (record { step = c.fail.ensures.step; registers = c.fail.ensures.registers; acted = g.met.P.Port.stays port; unchanged = λ _. refl })

pub returns-in-Some : goal.returns-in-Some
returns-in-Some g c =
    let port = c.args.port.now in
    let v = g.P.Port.shows port in
    let r = c.args.registers.now in
    subst
    (λ n. CameTo g.P.Port.acts (held_or r n (done_plan v r (Fail c.args.kind))) port port r (Held c.in-Some.need))
    (sym c.in-Some.is ∙ c.first_need.ensures r)
    (record { step = refl; registers = refl; acted = g.met.P.Port.stays port; unchanged = λ _. refl })
