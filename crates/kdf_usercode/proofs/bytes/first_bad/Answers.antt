use Rattle.std.proofs.Common.{sym, ◌∙◌}
use Rattle.kdf_usercode.proofs.BadBytes.{none-bad}
use Rattle.kdf_usercode.proofs.bytes.first_bad.Goals as goal

pub returns-then-are_deck_bytes : goal.returns-then-are_deck_bytes
returns-then-are_deck_bytes c = sym (none-bad c.args.text.now (sym c.are_deck_bytes.ensures ∙ c.if-are_deck_bytes.true))
