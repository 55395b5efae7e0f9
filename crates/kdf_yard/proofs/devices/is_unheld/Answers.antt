use Rattle.std.specs.Prelude.{◌&&◌, not}
use Rattle.std.proofs.Common.{is_some, ap, ◌∙◌, sym}
use Rattle.kdf_journal.specs.Counts.{holder}
use Rattle.kdf_theory.specs.Holders.{is_held}
use Rattle.kdf_yard.proofs.Physical.FreeDevices.{free_by, none_is}
use Rattle.kdf_yard.proofs.devices.is_unheld.Goals as goal

pub returns-then-is_lent_kind : goal.returns-then-is_lent_kind
returns-then-is_lent_kind c =
    let J = c.args.journal.now.entries in
    none_is c.is_none.result c.holder.result (holder c.args.d J) c.is_none.ensures c.holder.ensures
    ∙ ap (λ b. b && not (is_some (holder c.args.d J))) (sym (sym c.is_lent_kind.ensures ∙ c.if-is_lent_kind.true))
    ∙ free_by c.args.pool.now (is_held J) c.args.kind c.args.d c.requires

pub returns-else-is_lent_kind : goal.returns-else-is_lent_kind
returns-else-is_lent_kind c =
    let J = c.args.journal.now.entries in
    c.if-is_lent_kind.false
    ∙ ap (λ b. b && not (is_some (holder c.args.d J))) (sym (sym c.is_lent_kind.ensures ∙ c.if-is_lent_kind.false))
    ∙ free_by c.args.pool.now (is_held J) c.args.kind c.args.d c.requires
