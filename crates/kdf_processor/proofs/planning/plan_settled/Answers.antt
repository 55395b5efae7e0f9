use Rattle.std.proofs.Common.{ap, sym, ◌∙◌}
use Rattle.kdf_processor.specs.Outcome.{held_or}
use Rattle.kdf_processor.specs.Plan.{done_plan}
use Rattle.kdf_processor.proofs.planning.plan_settled.Goals as goal

pub returns-in-Some-clause-outcome : goal.returns-in-Some-clause-outcome
returns-in-Some-clause-outcome g c =
    let r = c.args.registers.now in
    ap (λ n. held_or r n (done_plan (g.P.Port.shows c.args.port.now) r c.args.plan)) (sym (c.first_need.ensures r) ∙ c.in-Some.is)

pub returns-in-None-clause-outcome : goal.returns-in-None-clause-outcome
returns-in-None-clause-outcome g c =
    let r = c.args.registers.now in
    ap (λ n. held_or r n (done_plan (g.P.Port.shows c.args.port.now) r c.args.plan)) (sym (c.first_need.ensures r) ∙ c.in-None.is)

pub returns-in-None-clause-can : goal.returns-in-None-clause-can
returns-in-None-clause-can g c =
    let asked = c.requires in
    record {
      sound = asked.sound;
      settled = asked.settled;
      operands = asked.operands;
      free = sym (c.first_need.ensures c.args.registers.now) ∙ c.in-None.is;
    }
