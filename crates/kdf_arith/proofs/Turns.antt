-- A word turned by some places.
use Rattle.std.proofs.Common.{◌≡◌, ℕ, ◌+◌, ◌-◌, ◌*◌, ◌/◌, ◌%◌, ◌^◌, ◌<◌, arith}
use Rattle.std.proofs.lemmas.Nat.{pow_pos, div_below, mul-add-lt, mod_below, one_shl}
use Rattle.kdf_word.proofs.Fields.{powers}
use Rattle.kdf_arith.specs.Shifts.{turned}

-- it is a word again
pub turned_below : (n w : ℕ) → n < 48 → w < 2 ^ 48 → turned n w < 2 ^ 48
turned_below n w h below =
    let p : 2 ^ n * 2 ^ (48 - n) ≡ 2 ^ 48 = powers n 48 (omega arith) in
    let least = pow_pos (48 - n) in
    let first : w / 2 ^ (48 - n) < 2 ^ n = div_below w (2 ^ (48 - n)) (2 ^ n) least (omega arith) in
    let last : w % 2 ^ (48 - n) < 2 ^ (48 - n) = mod_below w (2 ^ (48 - n)) least in
    omega (arith, mul-add-lt (w % 2 ^ (48 - n)) (2 ^ n) (w / 2 ^ (48 - n)) (2 ^ (48 - n)) last first)

-- as machine words are shifted
pub turned_shifted : (n w : ℕ) → n < 48 → w < 2 ^ 48 → w % (1 * 2 ^ (48 - n) % 2 ^ 64) * 2 ^ n % 2 ^ 64 + w / 2 ^ (48 - n) ≡ turned n w
turned_shifted n w h below =
    let fits = turned_below n w h below in
    let wide : 48 - n < 64 = omega arith in
    rw (one_shl (48 - n) 64 wide) (omega (arith, fits))
