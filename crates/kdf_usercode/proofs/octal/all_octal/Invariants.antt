use Rattle.std.proofs.Common.{◌≡◌, drop}
use Rattle.kdf_usercode.specs.Octal.{all_octal}
use Rattle.kdf_usercode.proofs.octal.all_octal.Given as goal

abbrev pub invariant-loop-b : goal.invariant-loop-b
invariant-loop-b l = all_octal (drop l.b-index l.text) ≡ all_octal l.text
