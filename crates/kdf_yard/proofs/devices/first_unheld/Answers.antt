use Rattle.std.proofs.Common.{rules, ◌∙◌}
use Rattle.kdf_job.specs.Slots.{lent_kind}
use Rattle.kdf_transfer.specs.ByNumber.{by_number}
use Rattle.kdf_theory.specs.Holders.{is_held}
use Rattle.kdf_yard.specs.Fields.Shared.{is_free_in}
use Rattle.kdf_yard.proofs.Physical.FreeDevices.{least_free}
use Rattle.kdf_yard.proofs.devices.first_unheld.Goals as goal

pub returns : goal.returns
returns c =
    let pool = by_number (lent_kind c.args.pool.now) in
    c.least.ensures.least (is_free_in pool (is_held c.args.journal.now.entries) c.args.kind) (λ d is lt post. search rules)
    ∙ least_free pool (is_held c.args.journal.now.entries) c.args.kind
