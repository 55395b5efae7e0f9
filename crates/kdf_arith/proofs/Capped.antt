-- Shifts by more places than a number has bits are shifts by as many places as it has.
use Rattle.std.proofs.Common.{◌≡◌, ℕ, ◌+◌, ◌-◌, ◌*◌, ◌/◌, ◌%◌, ◌^◌, ◌<◌, ◌≤◌, min, arith, sym, ap, ◌∙◌, inl, inr}
use Rattle.std.proofs.lemmas.Nat.{pow-add}
use Rattle.std.proofs.lemmas.Bool.{cases_lt}
use Rattle.std.proofs.Math.Nat.{div-eq_of_lt, pow-le-pow_right}

-- 2^n holds 2^k
pub power_split : (k n : ℕ) → k ≤ n → 2 ^ n ≡ 2 ^ (n - k) * 2 ^ k
power_split k n h =
    let e : n ≡ n - k + k = omega arith in
    ap (λ i. 2 ^ i) e ∙ pow-add 2 (n - k) k

-- beyond 96 places to the left nothing of 96 bits is left
pub capped_left : (w n : ℕ) → w * 2 ^ min n 96 % 2 ^ 128 % 2 ^ 96 ≡ w * 2 ^ n % 2 ^ 96
capped_left w n =
    elim (cases_lt n 96) [
      | inl h ↦ let e : min n 96 ≡ n = omega arith in rw e (omega arith)
      | inr h ↦ let e : min n 96 ≡ 96 = omega arith in rw (e, power_split 96 n h) (omega arith)
    ]

-- a larger power is no less
pub power_grows : (k n : ℕ) → k ≤ n → 2 ^ k ≤ 2 ^ n
power_grows k n h = pow-le-pow_right {n = 2} (omega arith) {i = k} {j = n} h

-- beyond k places to the right nothing of k bits is left
pub capped_right : (k w n : ℕ) → w < 2 ^ k → w / 2 ^ min n k ≡ w / 2 ^ n
capped_right k w n h =
    elim (cases_lt n k) [
      | inl l ↦ let e : min n k ≡ n = omega arith in ap (λ i. w / 2 ^ i) e
      | inr g ↦ let e : min n k ≡ k = omega arith in
          let wide = power_grows k n g in
          let small : w < 2 ^ n = omega arith in
          rw e (div-eq_of_lt h ∙ sym (div-eq_of_lt small))
    ]
