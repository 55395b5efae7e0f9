use Rattle.std.proofs.Common.{rules}
use Rattle.kdf_alone.specs.LonePort.{claims_of}
use Rattle.kdf_check.specs.Around.{free_in, holders_by, is_free_in}
use Rattle.kdf_check.proofs.pool.first_free.Goals as goal

pub returns-clause-least : goal.returns-clause-least
unfolding free_in
returns-clause-least c =
    c.least.ensures.least (is_free_in (holders_by c.args.journal.now.entries) (claims_of c.args.bench.now) c.args.kind) (λ d is lt post. search rules)
