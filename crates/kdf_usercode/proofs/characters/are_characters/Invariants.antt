use Rattle.std.proofs.Common.{◌≡◌, drop}
use Rattle.std.specs.List.{list_all}
use Rattle.kdf_usercode.specs.Characters.{is_character}
use Rattle.kdf_usercode.proofs.characters.are_characters.Given as goal

abbrev pub invariant-loop-byte : goal.invariant-loop-byte
invariant-loop-byte l = list_all is_character (drop l.byte-index l.text) ≡ list_all is_character l.text
