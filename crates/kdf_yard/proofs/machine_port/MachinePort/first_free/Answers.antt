use Rattle.std.proofs.Common.{rules}
use Rattle.kdf_processor.specs.Claims.{free_for, is_free}
use Rattle.kdf_yard.specs.Fields.Parts.{own_claims}
use Rattle.kdf_yard.specs.Fields.MachinePort.{part_of, shared}
use Rattle.kdf_yard.proofs.machine_port.MachinePort.first_free.Goals as goal

pub returns-clause-least : goal.returns-clause-least
unfolding free_for
returns-clause-least c =
    let t = c.args.self.now in
    c.least.ensures.least (is_free c.args.wanted.now (own_claims (part_of t) (shared t))) (λ d is lt post. search rules)
