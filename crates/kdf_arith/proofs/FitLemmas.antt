-- Whether a value times a power of two is a double value.
use Rattle.std.proofs.Common.{◌≡◌, ℕ, suc, ◌-◌, ◌*◌, ◌/◌, ◌^◌, ◌<◌, ◌≤◌, ℤ, pos, negsuc, ◌*ℤ◌, sym, ap, ◌∙◌, inl, inr, arith}
use Rattle.std.proofs.lemmas.Int.{ints}
use Rattle.std.proofs.lemmas.Nat.{pow_pos, le-div}
use Rattle.std.proofs.lemmas.Bool.{cases_lt, lt-ltb, le-ltb}
use Rattle.std.proofs.Math.Nat.{mul-le-mul_right, mul-pos, div-eq_of_lt}
use Rattle.kdf_word.specs.Doubles.{floor_div, double_fits}
use Rattle.kdf_word.proofs.Fields.{powers}
use Rattle.kdf_arith.specs.Signs.{is_sign, is_zero}
use Rattle.kdf_arith.proofs.Capped.{power_grows}

negative_times : (a p : ℕ) → 0 < p → negsuc a *ℤ pos p ≡ negsuc (suc a * p - 1)
negative_times a p h =
    let first : 0 < suc a = omega arith in
    let some : 0 < suc a * p = mul-pos first h in
    omega (arith, ints)

-- by what it leaves over the power that makes 2^94 with the other
pub fits_scaled : (v : ℤ) (n : ℕ) → n ≤ 94 → double_fits (v *ℤ pos (2 ^ n)) ≡ is_sign (floor_div v (2 ^ (94 - n)))
fits_scaled (pos a) n h =
    let p : 2 ^ n * 2 ^ (94 - n) ≡ 2 ^ 94 = powers n 94 h in
    let some = pow_pos n in
    let least = pow_pos (94 - n) in
    elim (cases_lt a (2 ^ (94 - n))) [
      | inl l ↦ let below : suc a ≤ 2 ^ (94 - n) = omega arith in
          let times : suc a * 2 ^ n ≤ 2 ^ (94 - n) * 2 ^ n = mul-le-mul_right (2 ^ n) below in
          let fits : a * 2 ^ n / 2 ^ 47 < 2 ^ 47 = omega arith in
          let none : a / 2 ^ (94 - n) ≡ 0 = div-eq_of_lt l in
          let left : a / 2 ^ (94 - n) < 1 = omega arith in
          lt-ltb _ _ fits ∙ sym (lt-ltb _ _ left)
      | inr g ↦ let times : 2 ^ (94 - n) * 2 ^ n ≤ a * 2 ^ n = mul-le-mul_right (2 ^ n) g in
          let beyond : 2 ^ 47 ≤ a * 2 ^ n / 2 ^ 47 = omega arith in
          let left : 1 ≤ a / 2 ^ (94 - n) = le-div 1 a (2 ^ (94 - n)) least (omega arith) in
          le-ltb _ _ beyond ∙ sym (le-ltb _ _ left)
    ]
fits_scaled (negsuc a) n h =
    let p : 2 ^ n * 2 ^ (94 - n) ≡ 2 ^ 94 = powers n 94 h in
    let some = pow_pos n in
    let least = pow_pos (94 - n) in
    ap double_fits (negative_times a (2 ^ n) some)
    ∙ elim (cases_lt a (2 ^ (94 - n))) as (λ _. double_fits (negsuc (suc a * 2 ^ n - 1)) ≡ is_sign (floor_div (negsuc a) (2 ^ (94 - n)))) [
      | inl l ↦ let below : suc a ≤ 2 ^ (94 - n) = omega arith in
          let times : suc a * 2 ^ n ≤ 2 ^ (94 - n) * 2 ^ n = mul-le-mul_right (2 ^ n) below in
          let fits : (suc a * 2 ^ n - 1) / 2 ^ 47 < 2 ^ 47 = omega arith in
          let none : a / 2 ^ (94 - n) ≡ 0 = div-eq_of_lt l in
          let left : a / 2 ^ (94 - n) < 1 = omega arith in
          lt-ltb _ _ fits ∙ sym (lt-ltb _ _ left)
      | inr g ↦ let times : 2 ^ (94 - n) * 2 ^ n ≤ a * 2 ^ n = mul-le-mul_right (2 ^ n) g in
          let beyond : 2 ^ 47 ≤ (suc a * 2 ^ n - 1) / 2 ^ 47 = omega arith in
          let left : 1 ≤ a / 2 ^ (94 - n) = le-div 1 a (2 ^ (94 - n)) least (omega arith) in
          le-ltb _ _ beyond ∙ sym (le-ltb _ _ left)
    ]

-- beyond 94 places zero alone does
pub fits_beyond : (v : ℤ) (n : ℕ) → 94 < n → double_fits (v *ℤ pos (2 ^ n)) ≡ is_zero v
fits_beyond (pos a) n h =
    let wide = power_grows 95 n (omega arith) in
    elim (cases_lt a 1) [
      | inl l ↦ let none : a ≡ 0 = omega arith in
          let times : a * 2 ^ n ≡ 0 * 2 ^ n = ap (λ x. x * 2 ^ n) none in
          let fits : a * 2 ^ n / 2 ^ 47 < 2 ^ 47 = omega arith in
          lt-ltb _ _ fits ∙ sym (lt-ltb _ _ l)
      | inr g ↦ let times : 1 * 2 ^ n ≤ a * 2 ^ n = mul-le-mul_right (2 ^ n) g in
          let beyond : 2 ^ 47 ≤ a * 2 ^ n / 2 ^ 47 = omega arith in
          le-ltb _ _ beyond ∙ sym (le-ltb _ _ g)
    ]
fits_beyond (negsuc a) n h =
    let wide = power_grows 95 n (omega arith) in
    let first : 1 ≤ suc a = omega arith in
    let times : 1 * 2 ^ n ≤ suc a * 2 ^ n = mul-le-mul_right (2 ^ n) first in
    let beyond : 2 ^ 47 ≤ (suc a * 2 ^ n - 1) / 2 ^ 47 = omega arith in
    ap double_fits (negative_times a (2 ^ n) (pow_pos n)) ∙ le-ltb _ _ beyond
