use Rattle.std.proofs.Common.{◌≡◌, ◌≤◌, ◌^◌, drop}
use Rattle.kdf_usercode.specs.Capped.{capped}
use Rattle.kdf_usercode.specs.Octal.{octal_from, octal}
use Rattle.kdf_usercode.proofs.octal.octal.Given as goal

abbrev pub invariant-loop-b : goal.invariant-loop-b
invariant-loop-b l = record {
  small : l.value ≤ 2 ^ 48;
  all : capped (octal_from l.value (drop l.b-index l.text)) ≡ capped (octal l.text);
}
