-- One character more of a number.
use Rattle.std.proofs.Common.{◌≡◌, ℕ, ◌+◌, ◌-◌, ◌*◌, ◌^◌, ◌<◌, ◌≤◌, refl, sym, arith, add-one, pow-suc}
use Rattle.std.proofs.lemmas.Nat.{mul-le}
use Rattle.std.proofs.Math.Nat.{pow-le-pow_right}
use Rattle.kdf_word.specs.Characters.{character_of}
use Rattle.kdf_arith.specs.Digits.{to_binary, from_binary, spelled}

pub to_binary_none : (radices w : ℕ) → to_binary 0 radices w ≡ 0
unfolding to_binary
to_binary_none radices w = refl

pub to_binary_more : (i radices w : ℕ) →
    to_binary (i + 1) radices w ≡ to_binary i radices w * character_of i radices + character_of i w
unfolding to_binary
to_binary_more i radices w = rw add-one refl

-- the number of i characters is below 64^i
pub number_below : (i n radix code : ℕ) →
    n < 64 ^ i → radix < 64 → code < 64 → n * radix + code < 64 ^ (i + 1)
number_below i n radix code below r c =
    let most : n * radix ≤ n * 63 = mul-le n radix n 63 (omega arith) (omega arith) in
    rw (add-one, pow-suc) (omega (arith, most))

pub from_binary_none : (radices n : ℕ) → from_binary 0 radices n ≡ record { word = 0; rest = n }
unfolding from_binary
from_binary_none radices n = refl

pub from_binary_more : (k radices n : ℕ) →
    from_binary (k + 1) radices n
    ≡ spelled (7 - k) (character_of (7 - k) radices) (from_binary k radices n)
unfolding from_binary
from_binary_more k radices n = rw add-one refl

-- and below 2^48 for up to eight characters
pub number_fits : (i n radix code : ℕ) →
    i < 8 → n < 64 ^ i → radix < 64 → code < 64 → n * radix + code < 2 ^ 48
number_fits i n radix code h below r c =
    let most : 64 ^ (i + 1) ≤ 64 ^ 8 = pow-le-pow_right {n = 64} (omega arith) {i = i + 1} {j = 8} (omega arith) in
    omega (arith, number_below i n radix code below r c, most)

pub from_binary_step : (k radices n word rest : ℕ) →
    word ≡ (from_binary k radices n).word → rest ≡ (from_binary k radices n).rest →
    spelled (7 - k) (character_of (7 - k) radices) (record { word = word; rest = rest })
    ≡ from_binary (k + 1) radices n
from_binary_step k radices n word rest w r = rw (w, r) (sym (from_binary_more k radices n))
