-- Remainders as the code takes them.
use Rattle.std.proofs.Common.{◌≡◌, ℕ, ℤ, pos, negsuc, refl}
use Rattle.std.specs.Prelude.{unsigned_abs}
use Rattle.std.specs.Int.{int_rem_euclid}
use Rattle.kdf_word.specs.Doubles.{modulo}

-- the remainder of the code is that of the definitions
pub last_of : (v : ℤ) (d : ℕ) → unsigned_abs (int_rem_euclid v (pos d)) ≡ modulo v d
last_of (pos n) d = refl
last_of (negsuc n) d = refl
