use Rattle.std.proofs.Common.{◌∙◌, map, string_bytes}
use Rattle.kdf_command.proofs.Values.{no_value}
use Rattle.kdf_command.proofs.command.values.Values.none.Goals as goal

pub returns : goal.returns
returns c =
    c.is_some.ensures ∙ no_value _ c.args.self.name.now (map string_bytes c.args.self.words.now) c.in_ok-parsed.field-0 c.bare.ensures c.args.self.plain
    c.in_ok-parsed.ensures
