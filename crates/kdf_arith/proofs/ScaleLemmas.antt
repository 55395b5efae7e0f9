-- Values times and over powers of two.
use Rattle.std.proofs.Common.{◌≡◌, ℕ, suc, ◌+◌, ◌-◌, ◌*◌, ◌/◌, ◌^◌, ◌<◌, ◌≤◌, min, true, ℤ, pos, negsuc, ◌+ℤ◌, FitsSigned, to_z, of_z, refl, sym, ap, ◌∙◌, inl}
use Rattle.std.proofs.Common.{inr, arith, pow-suc}
use Rattle.std.specs.Int.{w128}
use Rattle.std.specs.Int.Signed.{mag, mag_shr, shr_z}
use Rattle.std.proofs.lemmas.Int.{ints, to_z-of_z}
use Rattle.std.proofs.lemmas.Nat.{pow_pos}
use Rattle.std.proofs.lemmas.Bool.{ltb-true, lt-ltb, cases_lt}
use Rattle.std.proofs.Math.Nat.{div-le_self, add-div_right, div-div-eq-div-mul, div-eq_of_lt}
use Rattle.kdf_word.specs.Doubles.{floor_div, double_fits}
use Rattle.kdf_arith.proofs.Capped.{capped_right}

-- a double value is small
pub small_double : (z : ℤ) → double_fits z ≡ true → mag z < 2 ^ 94
small_double (pos n) h = let q : n / 2 ^ 47 < 2 ^ 47 = ltb-true _ _ h in omega arith
small_double (negsuc n) h = let q : n / 2 ^ 47 < 2 ^ 47 = ltb-true _ _ h in omega arith

shr_floor : (z : ℤ) (m : ℕ) → shr_z z m ≡ floor_div z m
shr_floor (pos n) m = refl
shr_floor (negsuc n) m = refl

-- a wide number shifted to the right, as the machine does it
pub shifted_right : (z : ℤ) (m : ℕ) → FitsSigned w128 z → to_z w128 (of_z w128 (shr_z (to_z w128 (of_z w128 z)) m)) ≡ floor_div z m
shifted_right z m f =
    let g : FitsSigned w128 (shr_z z m) = record { sfits = omega (arith, mag_shr z m, f.sfits) } in
    ap (λ x. to_z w128 (of_z w128 (shr_z x m))) (to_z-of_z w128 z f) ∙ to_z-of_z w128 (shr_z z m) g ∙ shr_floor z m

-- beyond 95 places to the right only the sign is left
pub capped_floor : (z : ℤ) (n : ℕ) → double_fits z ≡ true → floor_div z (2 ^ min n 95) ≡ floor_div z (2 ^ n)
capped_floor (pos a) n h = let s : a < 2 ^ 94 = small_double (pos a) h in ap pos (capped_right 95 a n (omega arith))
capped_floor (negsuc a) n h = let s : a < 2 ^ 94 = small_double (negsuc a) h in ap negsuc (capped_right 95 a n (omega arith))

pub floor_fits : (z : ℤ) (m : ℕ) → double_fits z ≡ true → double_fits (floor_div z m) ≡ true
floor_fits (pos a) m h =
    let s : a < 2 ^ 94 = small_double (pos a) h in
    let l : a / m ≤ a = div-le_self a m in
    lt-ltb _ _ (omega arith)
floor_fits (negsuc a) m h =
    let s : a < 2 ^ 94 = small_double (negsuc a) h in
    let l : a / m ≤ a = div-le_self a m in
    lt-ltb _ _ (omega arith)

-- half of what is lost is added before, or 1 to twice what is left
pub rounded_half : (v : ℤ) (k : ℕ) → floor_div (floor_div v (2 ^ k) +ℤ pos 1) 2 ≡ floor_div (v +ℤ pos (2 ^ k)) (2 ^ suc k)
rounded_half (pos a) k =
    let least = pow_pos k in
    ap (λ x. pos (x / 2)) (sym (add-div_right a least)) ∙ ap pos (div-div-eq-div-mul (a + 2 ^ k) (2 ^ k) 2)
    ∙ ap (λ x. pos ((a + 2 ^ k) / x)) (sym (pow-suc 2 k))
rounded_half (negsuc a) k =
    let least = pow_pos k in
    elim (cases_lt a (2 ^ k)) [
      | inl l ↦ let none : a / 2 ^ k ≡ 0 = div-eq_of_lt l in
          let left : negsuc (a / 2 ^ k) +ℤ pos 1 ≡ pos 0 = omega (arith, ints) in
          let right : negsuc a +ℤ pos (2 ^ k) ≡ pos (2 ^ k - suc a) = omega (arith, ints) in
          let double : 2 ^ suc k ≡ 2 ^ k * 2 = pow-suc 2 k in
          let small : 2 ^ k - suc a < 2 ^ suc k = omega arith in
          ap (λ x. floor_div x 2) left ∙ ap pos (sym (div-eq_of_lt small)) ∙ sym (ap (λ x. floor_div x (2 ^ suc k)) right)
      | inr g ↦ let e : a - 2 ^ k + 2 ^ k ≡ a = omega arith in
          let one_less : (a - 2 ^ k + 2 ^ k) / 2 ^ k ≡ (a - 2 ^ k) / 2 ^ k + 1 = add-div_right (a - 2 ^ k) least in
          let quotient : a / 2 ^ k ≡ (a - 2 ^ k) / 2 ^ k + 1 = rw e at one_less in
          let left : negsuc (a / 2 ^ k) +ℤ pos 1 ≡ negsuc ((a - 2 ^ k) / 2 ^ k) = omega (arith, ints) in
          let right : negsuc a +ℤ pos (2 ^ k) ≡ negsuc (a - 2 ^ k) = omega (arith, ints) in
          ap (λ x. floor_div x 2) left ∙ ap negsuc (div-div-eq-div-mul (a - 2 ^ k) (2 ^ k) 2 ∙ ap (λ x. (a - 2 ^ k) / x) (sym (pow-suc 2 k)))
          ∙ sym (ap (λ x. floor_div x (2 ^ suc k)) right)
    ]

pub one_more_fits : (z : ℤ) → double_fits z ≡ true → FitsSigned w128 (z +ℤ pos 1)
one_more_fits (pos n) h = let s : n < 2 ^ 94 = small_double (pos n) h in omega (arith, ints)
one_more_fits (negsuc n) h = let s : n < 2 ^ 94 = small_double (negsuc n) h in omega (arith, ints)
