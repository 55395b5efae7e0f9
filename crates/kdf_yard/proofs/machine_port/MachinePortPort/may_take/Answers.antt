use Rattle.std.proofs.Common.{is_some, rules, ap, ◌∙◌}
use Rattle.kdf_processor.specs.Claims.{can_take, least_pooled}
use Rattle.kdf_yard.specs.Fields.Parts.{own_claims}
use Rattle.kdf_yard.specs.Fields.MachinePort.{part_of, shared}
use Rattle.kdf_yard.proofs.machine_port.MachinePortPort.may_take.Goals as goal

pub returns : goal.returns
unfolding least_pooled
returns c =
    let t = c.args.self.now in
    c.is_some.ensures
    ∙ ap is_some (c.least.ensures.least (can_take (own_claims (part_of t) (shared t)) c.args.kind) (λ d is lt post. search rules))
