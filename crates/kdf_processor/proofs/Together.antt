-- The syllables of 24 bits are those of which these were made.
use Rattle.std.proofs.Common.{◌≡◌, ℕ, ◌+◌, ◌-◌, ◌*◌, ◌/◌, ◌%◌, ◌^◌, ◌<◌, refl, ◌∙◌, arith}
use Rattle.kdf_syllable.specs.Packing.{syllable}
use Rattle.kdf_processor.specs.declared.fetch.Fetched.TheVariants.{Spelt}
use Rattle.kdf_processor.specs.Fetch.{spelt_of}
use Rattle.kdf_processor.proofs.Shifted.{first, second, third}

highest : (a b d : ℕ) → a < 256 → b < 256 → d < 256 → (a * 65536 + b * 256 + d) / 65536 % 256 ≡ a
highest a b d ha hb hd = omega arith

middle : (a b d : ℕ) → a < 256 → b < 256 → d < 256 → (a * 65536 + b * 256 + d) / 256 % 256 ≡ b
middle a b d ha hb hd = omega arith

lowest : (a b d : ℕ) → a < 256 → b < 256 → d < 256 → (a * 65536 + b * 256 + d) % 256 ≡ d
lowest a b d ha hb hd = omega arith

pub apart : (a b d : ℕ) → a < 256 → b < 256 → d < 256 → Spelt a b d ≡ spelt_of (a * 65536 + b * 256 + d)
apart a b d ha hb hd = rw (highest a b d ha hb hd, middle a b d ha hb hd, lowest a b d ha hb hd) refl

-- the last 24 bits of a number are its last three syllables
part : (x : ℕ) → x % 16777216 / 65536 % 256 ≡ x / 65536 % 256
part x = omega arith

part_2 : (x : ℕ) → x % 16777216 / 256 % 256 ≡ x / 256 % 256
part_2 x = omega arith

part_3 : (x : ℕ) → x % 16777216 % 256 ≡ x / 1 % 256
part_3 x = omega arith

pub spelt_within : (w i : ℕ) → i < 4 → spelt_of (w / 256 ^ (3 - i) % 2 ^ 24) ≡ Spelt (syllable w i) (syllable w (i + 1)) (syllable w (i + 2))
spelt_within w i h =
    let x = w / 256 ^ (3 - i) in
    rw (part x ∙ first w i h, part_2 x ∙ second w i h, part_3 x ∙ third w i h) refl
