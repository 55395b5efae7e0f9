use Rattle.std.proofs.Common.{◌≡◌, ◌&&◌, drop}
use Rattle.std.specs.List.{list_all}
use Rattle.kdf_usercode.specs.Grammar.{is_deck_byte}
use Rattle.kdf_usercode.proofs.bytes.are_deck_bytes.Given as goal

abbrev pub invariant-loop-byte : goal.invariant-loop-byte
invariant-loop-byte l =
    (l.are_good && list_all is_deck_byte (drop l.byte-index l.text)) ≡ list_all is_deck_byte l.text
