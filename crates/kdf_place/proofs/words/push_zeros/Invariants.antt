use Rattle.std.proofs.Common.{◌≡◌, ◌++◌, replicate}
use Rattle.kdf_place.proofs.words.push_zeros.Given as goal

abbrev pub invariant-loop-zero : goal.invariant-loop-zero
invariant-loop-zero l = l.words.items ≡ l.fn.words.items ++ replicate l._zero 0
