use Rattle.std.proofs.Common.{◌∙◌, map, refl, string_bytes, sym}
use Rattle.clap.specs.Words.{app_of}
use Rattle.kdf_command.proofs.TwoValues.{two_values, zipped}
use Rattle.kdf_command.proofs.command.values.Values.two.Goals as goal

pub returns-in-Some : goal.returns-in-Some
returns-in-Some c =
    let found = two_values c.args.self.name.now _ _ refl (app_of c.in_ok-with_two.field-0) (map string_bytes c.args.self.words.now) c.in_ok-matches.field-0
    c.in_ok-with_two.ensures c.args.self.plain c.in_ok-matches.ensures in
    zipped _ _ _ _ _ c.zip.ensures c.get_str.ensures c.get_str-in-Some.ensures ∙ (rw c.in-Some.is at found)

pub returns-in-None : goal.returns-in-None
returns-in-None c =
    let found = two_values c.args.self.name.now _ _ refl (app_of c.in_ok-with_two.field-0) (map string_bytes c.args.self.words.now) c.in_ok-matches.field-0
    c.in_ok-with_two.ensures c.args.self.plain c.in_ok-matches.ensures in
    sym (rw c.in-None.is at found)
