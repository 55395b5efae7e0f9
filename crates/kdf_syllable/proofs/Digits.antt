-- Digits to base 256, the highest first.
use Rattle.std.proofs.Common.{◌≡◌, ℕ, zero, suc, ◌+◌, ◌-◌, ◌*◌, ◌/◌, ◌%◌, ◌^◌, ◌<◌, List, [], ◌∷◌, length, get_or, fold, refl, arith}
use Rattle.std.proofs.Math.Nat.{pow-suc}
use Rattle.std.proofs.lemmas.Nat.{mul-add-lt, div-mul-add, pow-add}
use Rattle.kdf_syllable.specs.Packing.{packed, syllable}

-- the number after which these digits are written
behind : ℕ → List ℕ → ℕ
behind number [] = number
behind number (byte ∷ bytes) = behind (256 * number + byte) bytes

joined : (n b p r x y : ℕ) → x ≡ (256 * n + b) * p + r → y ≡ (256 * 0 + b) * p + r → x ≡ n * (p * 256) + y
joined n b p r x y = omega arith

behind-split : (bytes : List ℕ) (number : ℕ) → behind number bytes ≡ number * 256 ^ length bytes + behind 0 bytes
unfolding behind
behind-split [] number = omega arith
behind-split (byte ∷ bytes) number =
    rw (pow-suc 256 (length bytes))
    (joined number byte (256 ^ length bytes) (behind 0 bytes) _ _ (behind-split bytes (256 * number + byte)) (behind-split bytes (256 * 0 + byte)))

behind-below : (bytes : List ℕ) → ((k : ℕ) → get_or bytes k 0 < 256) → behind 0 bytes < 256 ^ length bytes
unfolding behind
behind-below [] digits = omega arith
behind-below (byte ∷ bytes) digits =
    let rest = behind-below bytes (λ k. digits (suc k)) in
    rw (pow-suc 256 (length bytes), behind-split bytes (256 * 0 + byte))
    (mul-add-lt (256 * 0 + byte) (256 ^ length bytes) (behind 0 bytes) 256 (omega (arith, digits 0)) rest)

behind-digit : (bytes : List ℕ) (number i : ℕ) → ((k : ℕ) → get_or bytes k 0 < 256) → i < length bytes
    → behind number bytes / 256 ^ (length bytes - 1 - i) % 256 ≡ get_or bytes i 0
unfolding behind
behind-digit [] number i digits h = absurd (omega arith)
behind-digit (byte ∷ bytes) number zero digits h =
    let rest = behind-below bytes (λ k. digits (suc k)) in
    let same : suc (length bytes) - 1 - 0 ≡ length bytes = omega arith in
    rw (same, behind-split bytes (256 * number + byte), div-mul-add (256 * number + byte) (256 ^ length bytes) (behind 0 bytes) rest) (omega (arith, digits 0))
behind-digit (byte ∷ bytes) number (suc i) digits h =
    let same : suc (length bytes) - 1 - suc i ≡ length bytes - 1 - i = omega arith in
    rw same (behind-digit bytes (256 * number + byte) i (λ k. digits (suc k)) (omega arith))

packed-behind : (bytes : List ℕ) (number : ℕ) → fold (λ n byte. 256 * n + byte) number bytes ≡ behind number bytes
unfolding behind
packed-behind [] number = refl
packed-behind (byte ∷ bytes) number = packed-behind bytes (256 * number + byte)

-- six bytes make a number of 48 bits
pub packed-below : (bytes : List ℕ) → length bytes ≡ 6 → ((k : ℕ) → get_or bytes k 0 < 256) → packed bytes < 2 ^ 48
packed-below bytes six digits =
    let below = behind-below bytes digits in
    let all : behind 0 bytes < 256 ^ 6 = rw six at below in
    rw (packed-behind bytes 0) all

-- the digits of six bytes are the bytes
pub syllable-packed : (bytes : List ℕ) → length bytes ≡ 6 → ((k : ℕ) → get_or bytes k 0 < 256) → (i : ℕ) → i < 6 → syllable (packed bytes) i ≡ get_or bytes i 0
syllable-packed bytes six digits i h =
    let digit = behind-digit bytes 0 i digits (omega arith) in
    let place : 5 - i ≡ length bytes - 1 - i = omega arith in
    rw (packed-behind bytes 0, place) digit

-- a shift by whole bytes
pub pow_bytes : (n : ℕ) → 2 ^ (8 * n) ≡ 256 ^ n
pow_bytes zero = refl
pow_bytes (suc n) =
    let next : 8 * suc n ≡ 8 * n + 8 = omega arith in
    rw (next, pow-add 2 (8 * n) 8, pow_bytes n, pow-suc 256 n)
