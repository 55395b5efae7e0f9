-- The sum and the difference of two words as they come out where each stands in the first 48 of 64 bits.
use Rattle.std.proofs.Common.{◌≡◌, ℕ, ℤ, ◌+◌, ◌-◌, ◌*◌, ◌/◌, ◌%◌, ◌^◌, ◌<◌, ◌+ℤ◌, ◌-ℤ◌, ◌*ℤ◌, pos, negsuc, Bool, true, false, not, arith, refl, ap, ap₂, sym}
use Rattle.std.proofs.Common.{◌∙◌}
use Rattle.std.specs.Bool.{FalseIff}
use Rattle.std.specs.Int.RustNames.{FitsSigned}
use Rattle.std.proofs.lemmas.Bool.Decides.{nat_tests}
use Rattle.std.specs.Int.{cast_signed, cast_unsigned, int_wrapping_add, int_wrapping_sub, w64}
use Rattle.std.proofs.lemmas.Int.{ints, of_z-to_z}
use Rattle.std.proofs.lemmas.Grind.{common_steps}
use Rattle.kdf_word.specs.Words.{fits, signed, word_of}

word_sum : (a b : ℕ) → a < 2 ^ 48 → b < 2 ^ 48 → word_of (signed a +ℤ signed b) ≡ (a + b) % 2 ^ 48
word_sum a b small less = grind (arith, ints, common_steps)

word_difference : (a b : ℕ) → a < 2 ^ 48 → b < 2 ^ 48 → word_of (signed a -ℤ signed b) ≡ (a + (2 ^ 48 - b)) % 2 ^ 48
word_difference a b small less = grind (arith, ints, common_steps)

-- the bits of a word in the first places
bits : (a : ℕ) (x : ℤ) → a < 2 ^ 48 → x ≡ cast_signed w64 (a * 65536 % 2 ^ 64) → cast_unsigned w64 x ≡ a * 65536
bits a x small e =
    let same : a * 65536 % 2 ^ 64 ≡ a * 65536 = omega arith in
    ap (cast_unsigned w64) e ∙ of_z-to_z w64 (a * 65536 % 2 ^ 64) (omega arith) ∙ same

-- and those of a number that was cast twice
again : (p : ℕ) (x : ℤ) → p < 2 ^ 64 → cast_unsigned w64 x ≡ p → cast_unsigned w64 (cast_signed w64 (cast_unsigned w64 x)) ≡ p
again p x small e = of_z-to_z w64 (cast_unsigned w64 x) (omega (arith, e)) ∙ e

pub sum_of_words : (a b : ℕ) (x y s : ℤ) (n : ℕ) → a < 2 ^ 48 → b < 2 ^ 48 →
    x ≡ cast_signed w64 (a * 65536 % 2 ^ 64) → y ≡ cast_signed w64 (b * 65536 % 2 ^ 64) →
    s ≡ int_wrapping_add w64 (cast_signed w64 (cast_unsigned w64 x)) (cast_signed w64 (cast_unsigned w64 y)) →
    n ≡ cast_unsigned w64 (cast_signed w64 (cast_unsigned w64 s)) →
    n / 65536 ≡ word_of (signed a +ℤ signed b)
sum_of_words a b x y s n small less ex ey es en =
    let m : ℕ = (a * 65536 + b * 65536) % 2 ^ 64 in
    let parts = ap₂ (λ u v. (u + v) % 2 ^ 64) (again (a * 65536) x (omega arith) (bits a x small ex)) (again (b * 65536) y (omega arith) (bits b y less ey)) in
    let whole : cast_unsigned w64 s ≡ m = ap (cast_unsigned w64) es ∙ of_z-to_z w64 _ (omega arith) ∙ parts in
    let all : n ≡ m = en ∙ again m s (omega arith) whole in
    let first : n / 65536 ≡ (a + b) % 2 ^ 48 = omega (arith, all) in
    first ∙ sym (word_sum a b small less)

pub difference_of_words : (a b : ℕ) (x y s : ℤ) (n : ℕ) → a < 2 ^ 48 → b < 2 ^ 48 →
    x ≡ cast_signed w64 (a * 65536 % 2 ^ 64) → y ≡ cast_signed w64 (b * 65536 % 2 ^ 64) →
    s ≡ int_wrapping_sub w64 (cast_signed w64 (cast_unsigned w64 x)) (cast_signed w64 (cast_unsigned w64 y)) →
    n ≡ cast_unsigned w64 (cast_signed w64 (cast_unsigned w64 s)) →
    n / 65536 ≡ word_of (signed a -ℤ signed b)
difference_of_words a b x y s n small less ex ey es en =
    let m : ℕ = (a * 65536 + (2 ^ 64 - b * 65536)) % 2 ^ 64 in
    let parts = ap₂ (λ u v. (u + (2 ^ 64 - v)) % 2 ^ 64) (again (a * 65536) x (omega arith) (bits a x small ex))
    (again (b * 65536) y (omega arith) (bits b y less ey)) in
    let whole : cast_unsigned w64 s ≡ m = ap (cast_unsigned w64) es ∙ of_z-to_z w64 _ (omega arith) ∙ parts in
    let all : n ≡ m = en ∙ again m s (omega arith) whole in
    let first : n / 65536 ≡ (a + (2 ^ 48 - b)) % 2 ^ 48 = omega (arith, all) in
    first ∙ sym (word_difference a b small less)

-- the value of a word in the first places, and cast twice
in_first : (a : ℕ) → a < 2 ^ 48 → cast_signed w64 (a * 65536) ≡ signed a *ℤ pos 65536
in_first a small = grind (arith, ints)

first_places : (a : ℕ) (x : ℤ) → a < 2 ^ 48 → x ≡ cast_signed w64 (a * 65536 % 2 ^ 64) → cast_signed w64 (cast_unsigned w64 x) ≡ signed a *ℤ pos 65536
first_places a x small e = ap (cast_signed w64) (bits a x small e) ∙ in_first a small

-- a number in the first places fits 64 bits just where it fits a word
fits_word : (v d : ℤ) → d ≡ v *ℤ pos 65536 → FitsSigned w64 d → fits v ≡ true
fits_word (pos n) d e h = grind (arith, ints, nat_tests)
fits_word (negsuc n) d e h = grind (arith, ints, nat_tests)

fits_first : (v d : ℤ) → d ≡ v *ℤ pos 65536 → fits v ≡ true → FitsSigned w64 d
fits_first (pos n) d e h = grind (arith, ints, nat_tests)
fits_first (negsuc n) d e h = grind (arith, ints, nat_tests)

tells : (r f : Bool) (P : Type 0) → (P → f ≡ true) → (f ≡ true → P) → FalseIff r P → r ≡ not f
tells true true P to from h = absurd (h (from refl))
tells true false P to from h = refl
tells false true P to from h = refl
tells false false P to from h = to h

sum_in_first : (p q x y : ℤ) → x ≡ p *ℤ pos 65536 → y ≡ q *ℤ pos 65536 → x +ℤ y ≡ (p +ℤ q) *ℤ pos 65536
sum_in_first p q x y ex ey = omega (arith, ints)

pub sum_overflows : (a b : ℕ) (x y : ℤ) (r : Bool) → a < 2 ^ 48 → b < 2 ^ 48 →
    x ≡ cast_signed w64 (a * 65536 % 2 ^ 64) → y ≡ cast_signed w64 (b * 65536 % 2 ^ 64) →
    FalseIff r (FitsSigned w64 (cast_signed w64 (cast_unsigned w64 x) +ℤ cast_signed w64 (cast_unsigned w64 y))) →
    r ≡ not (fits (signed a +ℤ signed b))
sum_overflows a b x y r small less ex ey h =
    let d : ℤ = cast_signed w64 (cast_unsigned w64 x) +ℤ cast_signed w64 (cast_unsigned w64 y) in
    let e : d ≡ (signed a +ℤ signed b) *ℤ pos 65536 = sum_in_first (signed a) (signed b) _ _ (first_places a x small ex) (first_places b y less ey) in
    tells r (fits (signed a +ℤ signed b)) (FitsSigned w64 d) (fits_word (signed a +ℤ signed b) d e) (fits_first (signed a +ℤ signed b) d e) h

difference_in_first : (p q x y : ℤ) → x ≡ p *ℤ pos 65536 → y ≡ q *ℤ pos 65536 → x -ℤ y ≡ (p -ℤ q) *ℤ pos 65536
difference_in_first p q x y ex ey = omega (arith, ints)

pub difference_overflows : (a b : ℕ) (x y : ℤ) (r : Bool) → a < 2 ^ 48 → b < 2 ^ 48 →
    x ≡ cast_signed w64 (a * 65536 % 2 ^ 64) → y ≡ cast_signed w64 (b * 65536 % 2 ^ 64) →
    FalseIff r (FitsSigned w64 (cast_signed w64 (cast_unsigned w64 x) -ℤ cast_signed w64 (cast_unsigned w64 y))) →
    r ≡ not (fits (signed a -ℤ signed b))
difference_overflows a b x y r small less ex ey h =
    let d : ℤ = cast_signed w64 (cast_unsigned w64 x) -ℤ cast_signed w64 (cast_unsigned w64 y) in
    let e : d ≡ (signed a -ℤ signed b) *ℤ pos 65536 = difference_in_first (signed a) (signed b) _ _ (first_places a x small ex) (first_places b y less ey) in
    tells r (fits (signed a -ℤ signed b)) (FitsSigned w64 d) (fits_word (signed a -ℤ signed b) d e) (fits_first (signed a -ℤ signed b) d e) h
