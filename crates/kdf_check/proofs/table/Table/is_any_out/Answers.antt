use Rattle.std.proofs.Common.{is_some, ap, ◌∙◌}
use Rattle.kdf_processor.specs.View.{groups_of}
use Rattle.kdf_check.specs.Around.{is_out_in}
use Rattle.kdf_check.proofs.CheckPorts.{some-find}
use Rattle.kdf_check.proofs.table.Table.is_any_out.Goals as goal

pub returns : goal.returns
returns c =
    c.is_some.ensures ∙ ap is_some c.first_out.ensures ∙ some-find (is_out_in c.args.p c.args.self.now.places) (groups_of c.args.first c.args.last)
