-- What is put of a number: what is left of it but for multiples of 2^95.
use Rattle.std.proofs.Common.{◌≡◌, ℕ, suc, ◌+◌, ◌-◌, ◌*◌, ◌/◌, ◌%◌, ◌^◌, ℤ, pos, negsuc, ◌+ℤ◌, ◌-ℤ◌, ◌*ℤ◌, sym, ap, ◌∙◌, arith, rules}
use Rattle.std.proofs.lemmas.Int.{ints}
use Rattle.std.proofs.lemmas.Grind.{common_steps}
use Rattle.kdf_word.specs.Doubles.{modulo, put, upper_of, lower_of}

pub upper_put : (v : ℤ) → upper_of (put v) ≡ upper_of v
upper_put v = first_of (search rules, grind (arith, common_steps))

pub lower_put : (v : ℤ) → lower_of (put v) ≡ lower_of v
lower_put v = first_of (search rules, grind (arith, common_steps))

pub put_again : (v k : ℤ) → put (v +ℤ k *ℤ pos (2 ^ 95)) ≡ put v
put_again v k = first_of (search rules, grind (arith, common_steps))

-- a number as it is put, by as much of it as 2^95 tells apart, times any other
pub put_times : (v : ℤ) (p : ℕ) → put (pos (modulo v (2 ^ 95) * p % 2 ^ 96 % 2 ^ 95)) ≡ put (v *ℤ pos p)
put_times (pos a) p =
    let whole : a ≡ a / 2 ^ 95 * 2 ^ 95 + a % 2 ^ 95 = omega arith in
    let parts : a * p ≡ (a / 2 ^ 95 * 2 ^ 95 + a % 2 ^ 95) * p = ap (λ x. x * p) whole in
    let k : ℕ = a / 2 ^ 95 * p + a % 2 ^ 95 * p / 2 ^ 95 in
    let left : ℕ = a % 2 ^ 95 * p % 2 ^ 96 % 2 ^ 95 in
    let e : a * p ≡ left + k * 2 ^ 95 = omega arith in
    sym (put_again (pos left) (pos k)) ∙ sym (ap (λ x. put (pos x)) e)
put_times (negsuc a) p =
    let m : ℕ = 2 ^ 95 - 1 - a % 2 ^ 95 in
    let whole : suc a + m ≡ (a / 2 ^ 95 + 1) * 2 ^ 95 = omega arith in
    let parts : (suc a + m) * p ≡ (a / 2 ^ 95 + 1) * 2 ^ 95 * p = ap (λ x. x * p) whole in
    let left : ℕ = m * p % 2 ^ 96 % 2 ^ 95 in
    let k : ℤ = pos (m * p / 2 ^ 95) -ℤ pos ((a / 2 ^ 95 + 1) * p) in
    let e : negsuc a *ℤ pos p ≡ pos left +ℤ k *ℤ pos (2 ^ 95) = omega (arith, ints) in
    sym (put_again (pos left) k) ∙ sym (ap put e)
