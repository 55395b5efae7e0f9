use Rattle.std.proofs.Common.{rules}
use Rattle.kdf_processor.specs.Claims.{can_take, least_pooled}
use Rattle.kdf_alone.specs.LonePort.{claims_of}
use Rattle.kdf_alone.proofs.lone_port.LonePort.least_pooled.Goals as goal

pub returns-clause-least : goal.returns-clause-least
unfolding least_pooled
returns-clause-least c =
    c.least.ensures.least (can_take (claims_of c.args.self.now) c.args.kind) (λ d is lt post. search rules)
