-- The upper half of a product, by the limbs of its factors.
use Rattle.std.proofs.Common.{◌≡◌, ℕ, ◌+◌, ◌*◌, ◌/◌, ◌%◌, ◌^◌, ap₂, ◌∙◌, arith}

-- what the upper limbs h and k and the lower ones l and m make of it: a limb has 32 bits
limbs : (h l k m : ℕ) →
    h * k + (h * m + l * m / 2 ^ 32) / 2 ^ 32 + (l * k + (h * m + l * m / 2 ^ 32) % 2 ^ 32) / 2 ^ 32
    ≡ (h * 2 ^ 32 + l) * (k * 2 ^ 32 + m) / 2 ^ 64
limbs h l k m = omega arith

whole : (n : ℕ) → n / 2 ^ 32 * 2 ^ 32 + n % 2 ^ 32 ≡ n
whole n = omega arith

pub upper_half : (a b : ℕ) →
    a / 2 ^ 32 * (b / 2 ^ 32) + (a / 2 ^ 32 * (b % 2 ^ 32) + a % 2 ^ 32 * (b % 2 ^ 32) / 2 ^ 32) / 2 ^ 32
    + (a % 2 ^ 32 * (b / 2 ^ 32) + (a / 2 ^ 32 * (b % 2 ^ 32) + a % 2 ^ 32 * (b % 2 ^ 32) / 2 ^ 32) % 2 ^ 32) / 2 ^ 32
    ≡ a * b / 2 ^ 64
upper_half a b = limbs (a / 2 ^ 32) (a % 2 ^ 32) (b / 2 ^ 32) (b % 2 ^ 32) ∙ ap₂ (λ x y. x * y / 2 ^ 64) (whole a) (whole b)
