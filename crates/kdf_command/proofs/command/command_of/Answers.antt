use Rattle.std.proofs.Common.{map, string_bytes, sym, ◌∙◌}
use Rattle.kdf_command.proofs.Hyphens.{no_command}
use Rattle.kdf_command.proofs.command.command_of.Goals as goal

pub returns-then-any_hyphen-clause-value : goal.returns-then-any_hyphen-clause-value
returns-then-any_hyphen-clause-value c = sym (no_command (map string_bytes c.args.words.now) (sym c.any_hyphen.ensures ∙ c.if-any_hyphen.true))
