-- The syllables of a word without its last ones.
use Rattle.std.proofs.Common.{◌≡◌, ℕ, ◌+◌, ◌-◌, ◌/◌, ◌%◌, ◌^◌, ◌<◌, refl, sym, arith}
use Rattle.std.proofs.Math.Nat.{div-div-eq-div-mul}
use Rattle.std.proofs.lemmas.Nat.{pow-add}
use Rattle.kdf_syllable.specs.Packing.{syllable}

each : (w i m k : ℕ) → (3 - i) + m ≡ 5 - k → w / 256 ^ (3 - i) / 256 ^ m % 256 ≡ syllable w k
each w i m k e =
    rw (div-div-eq-div-mul w (256 ^ (3 - i)) (256 ^ m), sym (pow-add 256 (3 - i) m), e) refl

-- the last three are those that stood from syllable i on
pub first : (w i : ℕ) → i < 4 → syllable (w / 256 ^ (3 - i)) 3 ≡ syllable w i
first w i h = each w i 2 i (omega arith)

pub second : (w i : ℕ) → i < 4 → syllable (w / 256 ^ (3 - i)) 4 ≡ syllable w (i + 1)
second w i h = each w i 1 (i + 1) (omega arith)

pub third : (w i : ℕ) → i < 4 → syllable (w / 256 ^ (3 - i)) 5 ≡ syllable w (i + 2)
third w i h = each w i 0 (i + 2) (omega arith)
