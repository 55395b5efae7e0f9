use Rattle.std.proofs.Common.{sym, ◌∙◌}
use Rattle.kdf_check.proofs.CheckPorts.{none_out}
use Rattle.kdf_check.proofs.table.Table.is_out.Goals as goal

pub returns-else-self : goal.returns-else-self
returns-else-self c =
    c.if-self.false ∙ sym (none_out c.args.p c.args.group c.args.self.now.places c.args.self.now.busy c.args.self.now.all c.if-self.false)
