use Rattle.std.proofs.Common.{◌≡◌, ◌≤◌, ◌^◌, ◌++◌, drop, map}
use Rattle.kdf_usercode.specs.Capped.{capped}
use Rattle.kdf_usercode.specs.Shape.{values_from, numbers}
use Rattle.kdf_usercode.proofs.shape.numbers_into.Given as goal

abbrev pub invariant-loop-i : goal.invariant-loop-i
invariant-loop-i l = record {
  small : l.value ≤ 2 ^ 48;
  numbers : l.room.items ++ map capped (values_from l.value (drop l.i l.text)) ≡ map capped (numbers l.text);
}
