use Rattle.std.proofs.Common.{◌≡◌, ◌<◌, ◌^◌}
use Rattle.kdf_arith.specs.Digits.{to_binary}
use Rattle.kdf_arith.proofs.digits.to_binary.Given as goal

abbrev pub invariant-loop-i : goal.invariant-loop-i
invariant-loop-i l = (l.number ≡ to_binary l.i l.radices l.word) × (l.number < 64 ^ l.i)
