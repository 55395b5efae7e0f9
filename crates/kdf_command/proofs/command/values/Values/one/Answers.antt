use Rattle.std.proofs.Common.{◌∙◌, map, string_bytes, sym}
use Rattle.clap.specs.Words.{app_of}
use Rattle.kdf_command.proofs.Values.{one_value}
use Rattle.kdf_command.proofs.command.values.Values.one.Goals as goal

pub returns-in-Some : goal.returns-in-Some
returns-in-Some c =
    let found = one_value (app_of c.in_ok-with_one.field-0) c.args.self.name.now _ (map string_bytes c.args.self.words.now) c.in_ok-matches.field-0
    c.in_ok-with_one.ensures c.args.self.plain c.in_ok-matches.ensures in
    c.get_str.ensures ∙ (rw c.in-Some.is at found)

pub returns-in-None : goal.returns-in-None
returns-in-None c =
    let found = one_value (app_of c.in_ok-with_one.field-0) c.args.self.name.now _ (map string_bytes c.args.self.words.now) c.in_ok-matches.field-0
    c.in_ok-with_one.ensures c.args.self.plain c.in_ok-matches.ensures in
    sym (rw c.in-None.is at found)
