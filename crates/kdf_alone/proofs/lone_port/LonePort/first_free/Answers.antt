use Rattle.std.proofs.Common.{rules}
use Rattle.kdf_processor.specs.Claims.{free_for, is_free}
use Rattle.kdf_alone.specs.LonePort.{claims_of}
use Rattle.kdf_alone.proofs.lone_port.LonePort.first_free.Goals as goal

pub returns-clause-least : goal.returns-clause-least
unfolding free_for
returns-clause-least c =
    c.least.ensures.least (is_free c.args.wanted.now (claims_of c.args.self.now)) (λ d is lt post. search rules)
