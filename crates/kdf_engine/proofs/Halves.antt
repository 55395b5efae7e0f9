-- Shifts of a number by its halves. Where p is the power of two that it is shifted by, s is that which makes 2^64 with it.
use Rattle.std.proofs.Common.{◌≡◌, ℕ, ◌+◌, ◌-◌, ◌*◌, ◌/◌, ◌%◌, ◌^◌, ◌<◌, ◌≤◌, sym, ap, ◌∙◌, arith}
use Rattle.std.proofs.lemmas.Nat.{pow_pos, pow-add, mod_below, mul-add-lt, div_below, div-add-mod', mul-mod_first}
use Rattle.std.proofs.Math.Nat.{div-div-eq-div-mul, add-mul-div_right}
use Rattle.kdf_engine.specs.Wide.{number}

-- the power by which the other half is shifted, first by 1 and then by what is left
other : (n : ℕ) → n < 64 → 2 ^ n * (2 * 2 ^ (63 - n)) ≡ 2 ^ 64
other n h =
    let e : n + (63 - n) ≡ 63 = omega arith in
    let p : 2 ^ n * 2 ^ (63 - n) ≡ 2 ^ 63 = sym (pow-add 2 n (63 - n)) ∙ ap (λ i. 2 ^ i) e in
    omega (arith, p)

-- what leaves a half to the left, and what stays in it
parted : (n p s : ℕ) → p * s ≡ 2 ^ 64 → n * p ≡ n / s * 2 ^ 64 + n % s * p
parted n p s e =
    let whole : n * p ≡ (n / s * s + n % s) * p = ap (λ x. x * p) (sym (div-add-mod' n s)) in
    let gone : n / s * (p * s) ≡ n / s * 2 ^ 64 = ap (λ x. n / s * x) e in
    omega (arith, whole, gone)

stays : (n p s : ℕ) → 0 < p → 0 < s → p * s ≡ 2 ^ 64 → n % s * p < 2 ^ 64
stays n p s some least e = omega (arith, mul-add-lt (n % s) p 0 s (mod_below n s least) some, e)

-- both parts of the half that gets some
got_fits : (n m p s : ℕ) → 0 < p → 0 < s → p * s ≡ 2 ^ 64 → m < 2 ^ 64 → n * p % 2 ^ 64 + m / s < 2 ^ 64
got_fits n m p s some least e h =
    let new : m / s < p = div_below m s p least (omega (arith, e)) in
    let old : n * p % 2 ^ 64 ≡ n % s * p = omega (arith, parted n p s e, stays n p s some least e) in
    omega (arith, old, mul-add-lt (n % s) p (m / s) s (mod_below n s least) new, e)

left : (l h p s : ℕ) → 0 < p → 0 < s → p * s ≡ 2 ^ 64 → l < 2 ^ 64 →
    number (l * p % 2 ^ 64) (h * p % 2 ^ 64 + l / s) ≡ number l h * p % 2 ^ 128
left l h p s some least e small =
    let fits = got_fits h l p s some least e small in
    omega (arith, fits, parted l p s e, stays l p s some least e)

-- what leaves the upper half to the right is the upper part of what the lower one gets
right_whole : (l h p s : ℕ) → p * s ≡ 2 ^ 64 → number l h ≡ l + (h / p * 2 ^ 64 + h % p * s) * p
right_whole l h p s e =
    let whole : h * 2 ^ 64 ≡ (h / p * p + h % p) * 2 ^ 64 = ap (λ x. x * 2 ^ 64) (sym (div-add-mod' h p)) in
    let gone : h % p * (p * s) ≡ h % p * 2 ^ 64 = ap (λ x. h % p * x) e in
    omega (arith, whole, gone)

upper_left : (h p s : ℕ) → 0 < p → 0 < s → p * s ≡ 2 ^ 64 → h * s % 2 ^ 64 ≡ h % p * s
upper_left h p s some least e =
    let f : s * p ≡ 2 ^ 64 = omega (arith, e) in
    omega (arith, parted h s p f, stays h s p least some f)

right : (l h p s : ℕ) → 0 < p → 0 < s → p * s ≡ 2 ^ 64 →
    number (l / p + h * s % 2 ^ 64) (h / p) ≡ number l h / p
right l h p s some least e =
    let all : number l h / p ≡ l / p + (h / p * 2 ^ 64 + h % p * s) =
    ap (λ x. x / p) (right_whole l h p s e) ∙ add-mul-div_right l (h / p * 2 ^ 64 + h % p * s) some in
    omega (arith, all, upper_left h p s some least e)

-- the shifts as they are made
shifted_again : (l n : ℕ) → l / 2 / 2 ^ (63 - n) ≡ l / (2 * 2 ^ (63 - n))
shifted_again l n = div-div-eq-div-mul l 2 (2 ^ (63 - n))

pub left_fits : (l h n : ℕ) → n < 64 → l < 2 ^ 64 → h * 2 ^ n % 2 ^ 64 + l / 2 / 2 ^ (63 - n) < 2 ^ 64
left_fits l h n below small =
    rw (shifted_again l n) (got_fits h l (2 ^ n) (2 * 2 ^ (63 - n)) (pow_pos n) (omega (arith, pow_pos (63 - n))) (other n below) small)

pub left_below : (l h n : ℕ) → n < 64 → l < 2 ^ 64 →
    number (l * 2 ^ n % 2 ^ 64) (h * 2 ^ n % 2 ^ 64 + l / 2 / 2 ^ (63 - n)) ≡ number l h * 2 ^ n % 2 ^ 128
left_below l h n below small =
    rw (shifted_again l n) (left l h (2 ^ n) (2 * 2 ^ (63 - n)) (pow_pos n) (omega (arith, pow_pos (63 - n))) (other n below) small)

doubled : (h r : ℕ) → h * 2 % 2 ^ 64 * r % 2 ^ 64 ≡ h * (2 * r) % 2 ^ 64
doubled h r =
    let e : h * 2 * r ≡ h * (2 * r) = omega arith in
    mul-mod_first (h * 2) r (2 ^ 64) ∙ ap (λ x. x % 2 ^ 64) e

pub right_fits : (l h n : ℕ) → n < 64 → l < 2 ^ 64 → l / 2 ^ n + h * 2 % 2 ^ 64 * 2 ^ (63 - n) % 2 ^ 64 < 2 ^ 64
right_fits l h n below small =
    let some = pow_pos n in
    let least : 0 < 2 * 2 ^ (63 - n) = omega (arith, pow_pos (63 - n)) in
    let e : 2 * 2 ^ (63 - n) * 2 ^ n ≡ 2 ^ 64 = omega (arith, other n below) in
    let fits = got_fits h l (2 * 2 ^ (63 - n)) (2 ^ n) least some e small in
    omega (arith, fits, doubled h (2 ^ (63 - n)))

pub right_below : (l h n : ℕ) → n < 64 →
    number (l / 2 ^ n + h * 2 % 2 ^ 64 * 2 ^ (63 - n) % 2 ^ 64) (h / 2 ^ n) ≡ number l h / 2 ^ n
right_below l h n below =
    rw (doubled h (2 ^ (63 - n))) (right l h (2 ^ n) (2 * 2 ^ (63 - n)) (pow_pos n) (omega (arith, pow_pos (63 - n))) (other n below))

-- 2^n from 2^64 on
beyond : (n : ℕ) → 64 ≤ n → 2 ^ n ≡ 2 ^ 64 * 2 ^ (n - 64)
beyond n h =
    let e : n ≡ 64 + (n - 64) = omega arith in
    ap (λ i. 2 ^ i) e ∙ pow-add 2 64 (n - 64)

pub left_beyond : (l h n : ℕ) → 64 ≤ n → number 0 (l * 2 ^ (n - 64) % 2 ^ 64) ≡ number l h * 2 ^ n % 2 ^ 128
left_beyond l h n from =
    let e : number l h * 2 ^ n ≡ number l h * (2 ^ 64 * 2 ^ (n - 64)) = ap (λ x. number l h * x) (beyond n from) in
    omega (arith, e)

pub right_beyond : (l h n : ℕ) → 64 ≤ n → l < 2 ^ 64 → number (h / 2 ^ (n - 64)) 0 ≡ number l h / 2 ^ n
right_beyond l h n from small =
    let upper : number l h / 2 ^ 64 ≡ h = omega arith in
    let e : number l h / 2 ^ 64 / 2 ^ (n - 64) ≡ number l h / (2 ^ 64 * 2 ^ (n - 64)) = div-div-eq-div-mul (number l h) (2 ^ 64) (2 ^ (n - 64)) in
    let f : h / 2 ^ (n - 64) ≡ number l h / 2 ^ n = sym (ap (λ x. x / 2 ^ (n - 64)) upper) ∙ e ∙ sym (ap (λ x. number l h / x) (beyond n from)) in
    omega (arith, f)
