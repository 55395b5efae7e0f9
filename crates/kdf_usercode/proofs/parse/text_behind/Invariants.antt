use Rattle.std.proofs.Common.{◌≡◌, drop}
use Rattle.kdf_usercode.specs.Parse.{text_behind}
use Rattle.kdf_usercode.proofs.parse.text_behind.Given as goal

abbrev pub invariant-loop-i : goal.invariant-loop-i
invariant-loop-i l = text_behind l.byte (drop l.i l.text) ≡ text_behind l.byte l.text
