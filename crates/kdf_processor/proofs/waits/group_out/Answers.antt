use Rattle.std.proofs.Common.{ap, sym, ◌∙◌}
use Rattle.std.specs.Option.{option_map}
use Rattle.kdf_journal.specs.declared.need.Need.TheVariants.{Group}
use Rattle.kdf_processor.specs.View.{groups_of}
use Rattle.kdf_processor.proofs.Pending.{mapped, pending_groups}
use Rattle.kdf_processor.proofs.waits.group_out.Goals as goal

pub returns : goal.returns
returns g c =
    mapped c.first_out.result c.map.result c.map.ensures.cases
    ∙ (ap (option_map Group) c.first_out.ensures
    ∙ sym (pending_groups (g.P.Port.shows c.args.port.now) (groups_of c.args.first c.args.last)))
