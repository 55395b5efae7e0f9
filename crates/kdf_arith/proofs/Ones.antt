-- BITS of large words: their ones are counted by parts.
use Rattle.std.proofs.Common.{◌≡◌, ℕ, ◌+◌, ◌*◌, ◌^◌, [], ◌∷◌, ap, ◌∙◌, arith}
use Rattle.std.specs.Prelude.{count_ones}
use Rattle.std.specs.Int.Count.{ones-ones}
use Rattle.std.proofs.lemmas.Nat.{ones_cat, pow_pos}
use Rattle.kdf_arith.specs.Arith.{arith_result}
use Rattle.kdf_arith.specs.Rows.{arith_row}
use Rattle.kdf_arith.specs.Examples.{obeyed, leaves}

pub bits_of : (w k : ℕ) → count_ones w ≡ k → obeyed 0x0E (w ∷ []) ≡ leaves (k ∷ [])
unfolding arith_result arith_row
bits_of w k e = ap (λ n. leaves (n ∷ [])) e

-- a one with k noughts after it
pub ones_of_power : (k : ℕ) → count_ones (1 * 2 ^ k + 0) ≡ 1
ones_of_power k = ones_cat k 1 0 (pow_pos k) ∙ ap (λ n. n + count_ones 0) (ones-ones 1) ∙ ap (λ n. 1 + n) (ones-ones 0)

-- 101
pub ones_of_five : count_ones 5 ≡ 2
ones_of_five = ones_cat 2 1 1 (omega arith) ∙ ap (λ n. n + count_ones 1) (ones-ones 1) ∙ ap (λ n. 1 + n) (ones-ones 1)
