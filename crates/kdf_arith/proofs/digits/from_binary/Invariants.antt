use Rattle.std.proofs.Common.{◌≡◌}
use Rattle.kdf_arith.specs.Digits.{from_binary}
use Rattle.kdf_arith.proofs.digits.from_binary.Given as goal

abbrev pub invariant-loop-k : goal.invariant-loop-k
invariant-loop-k l =
    (l.word ≡ (from_binary l.k l.radices l.fn.number).word) × (l.rest ≡ (from_binary l.k l.radices l.fn.number).rest)
