use Rattle.std.proofs.Common.{rules, ◌∙◌}
use Rattle.kdf_job.specs.Slots.{lent_kind}
use Rattle.kdf_transfer.specs.ByNumber.{by_number}
use Rattle.kdf_theory.specs.Holders.{held_by}
use Rattle.kdf_yard.specs.Fields.Shared.{is_free_in, is_taken_by}
use Rattle.kdf_yard.proofs.Physical.FreeDevices.{least_free}
use Rattle.kdf_yard.proofs.devices.first_free.Goals as goal

pub returns-clause-least : goal.returns-clause-least
returns-clause-least c =
    let pool = by_number (lent_kind c.args.pool.now) in
    let taken = is_taken_by c.args.claimed.now (held_by c.args.journal.now.entries) in
    c.least.ensures.least (is_free_in pool taken c.args.kind) (λ d is lt post. search rules)
    ∙ least_free pool taken c.args.kind
