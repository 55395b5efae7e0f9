use Rattle.std.proofs.Common.{ap, subst, sym, ◌∙◌}
use Rattle.kdf_processor.specs.Outcome.{Outcome, CameTo}
use Rattle.kdf_processor.specs.Plan.{CanObey, planned_outcome}
use Rattle.kdf_processor.proofs.room.obey_any.Goals as goal

pub obey_planned-step-requires-clause-can : goal.obey_planned-step-requires-clause-can
obey_planned-step-requires-clause-can g c =
    subst (λ v. CanObey v c.args.registers.now c.plan_next-planned.result) (sym c.in_ok-reserve_for.ensures.shows) c.plan_next-planned.ensures.can

pub obey_planned-step-requires-clause-room : goal.obey_planned-step-requires-clause-room
obey_planned-step-requires-clause-room g c =
    let r = c.args.registers.now in
    let planned = c.plan_next-planned.result in
    let kept = c.in_ok-reserve_for.ensures in
    kept.room (g.P.Port.shows c.reserve_for.new.port) r (subst (λ v. CanObey v r planned) (sym kept.shows) c.plan_next-planned.ensures.can)

pub returns-clause-obeyed : goal.returns-clause-obeyed
returns-clause-obeyed g c =
    let r = c.args.registers.now in
    let kept = c.in_ok-reserve_for.ensures in
    let done = c.obey_planned-step in
    record {
      kept = c.reserve_for.new.port;
      stays = kept.keeps;
      obeyed =
          subst
          (λ (o : Outcome). CameTo g.P.Port.acts o c.reserve_for.new.port done.new.port done.new.registers done.result)
          (ap (λ v. planned_outcome v r c.plan_next-planned.result) kept.shows ∙ sym c.plan_next-planned.ensures.outcome)
          done.ensures;
    }
