-- The remainder by a negative divisor.
use Rattle.std.proofs.Common.{◌≡◌, ℕ, zero, suc, ◌^◌, ◌<◌, ◌≤◌, ℤ, pos, negsuc, neg_ℤ, ◌+ℤ◌, ◌-ℤ◌, ◌*ℤ◌, ◌<ℤ◌, FitsSigned, w64, to_z, of_z, ap, ◌∙◌, arith}
use Rattle.std.specs.Prelude.{unsigned_abs}
use Rattle.std.specs.Int.{int_div_euclid, int_rem_euclid, IsNonNegative}
use Rattle.std.proofs.lemmas.Int.{ints, to_z-of_z}
use Rattle.std.proofs.lemmas.Nat.{mod_below, div-add-mod'}
use Rattle.kdf_word.specs.Doubles.{floor_div, modulo}
use Rattle.kdf_word.proofs.Wide.{euclid_quotient, euclid_remainder}
use Rattle.kdf_arith.specs.Rows.{quotient}

-- what a quotient leaves
parts : (v : ℤ) (k : ℕ) → v ≡ pos (modulo v (suc k)) +ℤ floor_div v (suc k) *ℤ pos (suc k)
parts (pos n) k = ap pos (omega (arith, div-add-mod' n (suc k)))
parts (negsuc n) k =
    let some : 0 < suc k = omega arith in
    let whole = div-add-mod' n (suc k) in
    let below = mod_below n (suc k) some in
    omega (arith, ints, whole, below)

remainder_down : (v : ℤ) (k : ℕ) →
    neg_ℤ (pos (modulo (neg_ℤ v) (suc k)))
    ≡ v -ℤ floor_div (neg_ℤ v) (suc k) *ℤ negsuc k
remainder_down v k = let e = parts (neg_ℤ v) k in omega (arith, ints, e)

pub negative_fits : (z : ℤ) → unsigned_abs z ≤ 2 ^ 47 → FitsSigned w64 (pos 0 -ℤ z)
negative_fits (pos n) h = omega (arith, ints)
negative_fits (negsuc n) h = omega (arith, ints)

pub negative_remainder_fits : (z : ℤ) → IsNonNegative z → FitsSigned w64 z → FitsSigned w64 (pos 0 -ℤ z)
negative_remainder_fits (pos n) h f = let s : n < 2 ^ 63 = f.sfits in omega (arith, ints)
negative_remainder_fits (negsuc n) h f = absurd h

-- a value with its sign changed, as the machine does it
abbrev pub machine_neg : ℤ → ℤ
machine_neg z = to_z w64 (of_z w64 (pos 0 -ℤ to_z w64 (of_z w64 z)))

negated : (z : ℤ) → FitsSigned w64 z → FitsSigned w64 (pos 0 -ℤ z) → machine_neg z ≡ neg_ℤ z
negated z f g =
    let e : pos 0 -ℤ z ≡ neg_ℤ z = omega (arith, ints) in
    ap (λ (x : ℤ). to_z w64 (of_z w64 (pos 0 -ℤ x))) (to_z-of_z w64 z f)
    ∙ to_z-of_z w64 (pos 0 -ℤ z) g
    ∙ e

pub remainder_by_negative : (v d r : ℤ) → d <ℤ pos 0 →
    FitsSigned w64 v → FitsSigned w64 d → FitsSigned w64 r →
    FitsSigned w64 (pos 0 -ℤ v) → FitsSigned w64 (pos 0 -ℤ d) → FitsSigned w64 (pos 0 -ℤ r) →
    r ≡ int_rem_euclid (machine_neg v) (machine_neg d) →
    machine_neg r ≡ v -ℤ quotient v d *ℤ d
remainder_by_negative v (pos n) r h fv fd fr gv gd gr e = absurd (omega (arith, ints))
remainder_by_negative v (negsuc k) r h fv fd fr gv gd gr e =
    let d : ℤ = negsuc k in
    let first : int_rem_euclid (machine_neg v) (machine_neg d) ≡ int_rem_euclid (neg_ℤ v) (machine_neg d) =
    ap (λ (x : ℤ). int_rem_euclid x (machine_neg d)) (negated v fv gv) in
    let second : int_rem_euclid (neg_ℤ v) (machine_neg d) ≡ int_rem_euclid (neg_ℤ v) (pos (suc k)) =
    ap (λ (x : ℤ). int_rem_euclid (neg_ℤ v) x) (negated d fd gd) in
    let value : r ≡ pos (modulo (neg_ℤ v) (suc k)) =
    e ∙ first ∙ second ∙ euclid_remainder (neg_ℤ v) (suc k) in
    negated r fr gr ∙ ap neg_ℤ value ∙ remainder_down v k

-- a call gets numbers as they are cast
as_passed : (f : ℤ → ℤ → ℤ) (v d r : ℤ) → FitsSigned w64 v → FitsSigned w64 d → r ≡ f (to_z w64 (of_z w64 v)) (to_z w64 (of_z w64 d)) → r ≡ f v d
as_passed f v d r fv fd e = e ∙ ap (λ (x : ℤ). f x (to_z w64 (of_z w64 d))) (to_z-of_z w64 v fv) ∙ ap (f v) (to_z-of_z w64 d fd)

-- by a positive divisor the machine rounds down
quotient_down : (v d : ℤ) → pos 0 <ℤ d → int_div_euclid v d ≡ quotient v d
quotient_down v (pos n) h = euclid_quotient v n
quotient_down v (negsuc k) h = absurd (omega (arith, ints))

remainder_left : (v d : ℤ) → pos 0 <ℤ d → int_rem_euclid v d ≡ v -ℤ quotient v d *ℤ d
remainder_left v (pos zero) h = absurd (omega (arith, ints))
remainder_left v (pos (suc k)) h =
    let whole = parts v k in
    euclid_remainder v (suc k) ∙ omega (arith, ints, whole)
remainder_left v (negsuc k) h = absurd (omega (arith, ints))

pub quotient_by_positive : (v d q : ℤ) → pos 0 <ℤ d → FitsSigned w64 v → FitsSigned w64 d →
    q ≡ int_div_euclid (to_z w64 (of_z w64 v)) (to_z w64 (of_z w64 d)) → q ≡ quotient v d
quotient_by_positive v d q h fv fd e = as_passed int_div_euclid v d q fv fd e ∙ quotient_down v d h

pub remainder_by_positive : (v d r : ℤ) → pos 0 <ℤ d → FitsSigned w64 v → FitsSigned w64 d →
    r ≡ int_rem_euclid (to_z w64 (of_z w64 v)) (to_z w64 (of_z w64 d)) → r ≡ v -ℤ quotient v d *ℤ d
remainder_by_positive v d r h fv fd e = as_passed int_rem_euclid v d r fv fd e ∙ remainder_left v d h
