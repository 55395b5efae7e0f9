-- Codes that lie a byte each in one number, and the word that they make.
use Rattle.std.proofs.Common.{◌≡◌, ℕ, ◌+◌, ◌*◌, ◌/◌, ◌%◌, ◌^◌, ◌<◌, ◌≤◌, [], ◌∷◌, bit_and, get_or, arith, refl, sym, ap, ap₂, ◌∙◌, ⊎_elim}
use Rattle.std.specs.Int.{w64, to_be_bytes}
use Rattle.std.specs.List.{All}
use Rattle.std.proofs.lemmas.Bool.{cases_lt}
use Rattle.std.proofs.lemmas.List.{get_or_past}
use Rattle.std.proofs.lemmas.List.Elements.{All-cons, All-nil}
use Rattle.std.proofs.lemmas.Nat.{and_block, and_mask, be_bytes_8}
use Rattle.kdf_word.specs.Characters.{character_of, codes_of, first_word}
use Rattle.kdf_word.proofs.Packing.{first_word-codes_of}

-- one mask over four parts of 16 bits, and over two of 32
over_four : (w x y z m : ℕ) → x < 2 ^ 16 → y < 2 ^ 16 → z < 2 ^ 16 → m < 2 ^ 16
    → bit_and (((w * 2 ^ 16 + x) * 2 ^ 16 + y) * 2 ^ 16 + z) (((m * 2 ^ 16 + m) * 2 ^ 16 + m) * 2 ^ 16 + m)
    ≡ ((bit_and w m * 2 ^ 16 + bit_and x m) * 2 ^ 16 + bit_and y m) * 2 ^ 16 + bit_and z m
over_four w x y z m x' y' z' m' =
    and_block 16 ((w * 2 ^ 16 + x) * 2 ^ 16 + y) ((m * 2 ^ 16 + m) * 2 ^ 16 + m) z m z' m'
    ∙ ap (λ q. q * 2 ^ 16 + bit_and z m)
    (and_block 16 (w * 2 ^ 16 + x) (m * 2 ^ 16 + m) y m y' m' ∙ ap (λ q. q * 2 ^ 16 + bit_and y m) (and_block 16 w m x m x' m'))

-- the last six or eight bits of each of four parts of 16
pub sixes : (w x y z w6 x6 y6 z6 n : ℕ) → x < 2 ^ 16 → y < 2 ^ 16 → z < 2 ^ 16 → w % 64 ≡ w6 → x % 64 ≡ x6 → y % 64 ≡ y6 → z % 64 ≡ z6
    → n ≡ ((w * 2 ^ 16 + x) * 2 ^ 16 + y) * 2 ^ 16 + z → bit_and n 0x003F003F003F003F ≡ ((w6 * 2 ^ 16 + x6) * 2 ^ 16 + y6) * 2 ^ 16 + z6
sixes w x y z w6 x6 y6 z6 n x' y' z' ew ex ey ez is =
    let all = over_four w x y z 63 x' y' z' (omega arith) in
    let mw : bit_and w 63 ≡ w6 = and_mask w 6 ∙ ew in
    let mx : bit_and x 63 ≡ x6 = and_mask x 6 ∙ ex in
    let my : bit_and y 63 ≡ y6 = and_mask y 6 ∙ ey in
    let mz : bit_and z 63 ≡ z6 = and_mask z 6 ∙ ez in
    ap (λ k. bit_and k 0x003F003F003F003F) is ∙ all ∙ omega (arith, mw, mx, my, mz)

pub eights : (w x y z w8 x8 y8 z8 n : ℕ) → x < 2 ^ 16 → y < 2 ^ 16 → z < 2 ^ 16 → w % 256 ≡ w8 → x % 256 ≡ x8 → y % 256 ≡ y8 → z % 256 ≡ z8
    → n ≡ ((w * 2 ^ 16 + x) * 2 ^ 16 + y) * 2 ^ 16 + z → bit_and n 0x00FF00FF00FF00FF ≡ ((w8 * 2 ^ 16 + x8) * 2 ^ 16 + y8) * 2 ^ 16 + z8
eights w x y z w8 x8 y8 z8 n x' y' z' ew ex ey ez is =
    let all = over_four w x y z 255 x' y' z' (omega arith) in
    let mw : bit_and w 255 ≡ w8 = and_mask w 8 ∙ ew in
    let mx : bit_and x 255 ≡ x8 = and_mask x 8 ∙ ex in
    let my : bit_and y 255 ≡ y8 = and_mask y 8 ∙ ey in
    let mz : bit_and z 255 ≡ z8 = and_mask z 8 ∙ ez in
    ap (λ k. bit_and k 0x00FF00FF00FF00FF) is ∙ all ∙ omega (arith, mw, mx, my, mz)

-- the last 12 or 16 bits of each of two parts of 32
pub twelves : (x y x12 y12 n : ℕ) → y < 2 ^ 32 → x % 4096 ≡ x12 → y % 4096 ≡ y12 → n ≡ x * 2 ^ 32 + y → bit_and n 0x00000FFF00000FFF ≡ x12 * 2 ^ 32 + y12
twelves x y x12 y12 n y' ex ey is =
    let both : bit_and (x * 2 ^ 32 + y) 0x00000FFF00000FFF ≡ bit_and x 4095 * 2 ^ 32 + bit_and y 4095 = and_block 32 x 4095 y 4095 y' (omega arith) in
    let mx : bit_and x 4095 ≡ x12 = and_mask x 12 ∙ ex in
    let my : bit_and y 4095 ≡ y12 = and_mask y 12 ∙ ey in
    ap (λ k. bit_and k 0x00000FFF00000FFF) is ∙ both ∙ ap₂ (λ p q. p * 2 ^ 32 + q) mx my

pub sixteens : (x y x16 y16 n : ℕ) → y < 2 ^ 32 → x % 65536 ≡ x16 → y % 65536 ≡ y16 → n ≡ x * 2 ^ 32 + y → bit_and n 0x0000FFFF0000FFFF ≡ x16 * 2 ^ 32 + y16
sixteens x y x16 y16 n y' ex ey is =
    let both : bit_and (x * 2 ^ 32 + y) 0x0000FFFF0000FFFF ≡ bit_and x 65535 * 2 ^ 32 + bit_and y 65535 = and_block 32 x 65535 y 65535 y' (omega arith) in
    let mx : bit_and x 65535 ≡ x16 = and_mask x 16 ∙ ex in
    let my : bit_and y 65535 ≡ y16 = and_mask y 16 ∙ ey in
    ap (λ k. bit_and k 0x0000FFFF0000FFFF) is ∙ both ∙ ap₂ (λ p q. p * 2 ^ 32 + q) mx my

-- eight codes, a byte each
abbrev pub in_bytes : ℕ → ℕ → ℕ → ℕ → ℕ → ℕ → ℕ → ℕ → ℕ
in_bytes a b c d e f g h = (((a * 256 + b) * 2 ^ 16 + (c * 256 + d)) * 2 ^ 16 + (e * 256 + f)) * 2 ^ 16 + (g * 256 + h)

abbrev pub in_twos : ℕ → ℕ → ℕ → ℕ → ℕ → ℕ → ℕ → ℕ → ℕ
in_twos a b c d e f g h = (((a * 64 + b) * 2 ^ 16 + (c * 64 + d)) * 2 ^ 16 + (e * 64 + f)) * 2 ^ 16 + (g * 64 + h)

abbrev pub in_fours : ℕ → ℕ → ℕ → ℕ → ℕ → ℕ → ℕ → ℕ → ℕ
in_fours a b c d e f g h = (((a * 64 + b) * 64 + c) * 64 + d) * 2 ^ 32 + (((e * 64 + f) * 64 + g) * 64 + h)

-- the steps that bring them together
abbrev pub to_twos : ℕ → ℕ
to_twos n = bit_and (n / 2 ^ 8) 0x00FF00FF00FF00FF * 2 ^ 6 % 2 ^ 64 + bit_and n 0x00FF00FF00FF00FF

abbrev pub to_fours : ℕ → ℕ
to_fours n = bit_and (n / 2 ^ 16) 0x0000FFFF0000FFFF * 2 ^ 12 % 2 ^ 64 + bit_and n 0x0000FFFF0000FFFF

abbrev pub to_eight : ℕ → ℕ
to_eight n = n / 2 ^ 32 * 2 ^ 24 % 2 ^ 64 + n % 2 ^ 32

-- and those that take a word apart
abbrev pub from_eight : ℕ → ℕ
from_eight w = w / 2 ^ 24 * 2 ^ 32 % 2 ^ 64 + w % 2 ^ 24

abbrev pub from_fours : ℕ → ℕ
from_fours n = n + bit_and (n / 2 ^ 12) 0x00000FFF00000FFF * 61440

abbrev pub from_twos : ℕ → ℕ
from_twos n = n + bit_and (n / 2 ^ 6) 0x003F003F003F003F * 192

module _ (a b c d e f g h : ℕ) (a' : a < 64) (b' : b < 64) (c' : c < 64) (d' : d < 64) (e' : e < 64) (f' : f < 64) (g' : g < 64) (h' : h < 64) where
  -- brought together
  twos_of : (n : ℕ) → n ≡ in_bytes a b c d e f g h → to_twos n ≡ in_twos a b c d e f g h
  twos_of n is =
      let even : n / 2 ^ 8 ≡ ((a * 2 ^ 16 + (b * 256 + c)) * 2 ^ 16 + (d * 256 + e)) * 2 ^ 16 + (f * 256 + g) = omega (arith, is) in
      let one = eights a (b * 256 + c) (d * 256 + e) (f * 256 + g) a c e g (n / 2 ^ 8) (omega arith) (omega arith) (omega arith) (omega arith) (omega arith)
      (omega arith) (omega arith) even in
      let two = eights (a * 256 + b) (c * 256 + d) (e * 256 + f) (g * 256 + h) b d f h n (omega arith) (omega arith) (omega arith) (omega arith) (omega arith)
      (omega arith) (omega arith) is in
      omega (arith, one, two)

  fours_of : (n : ℕ) → n ≡ in_twos a b c d e f g h → to_fours n ≡ in_fours a b c d e f g h
  fours_of n is =
      let even : n / 2 ^ 16 ≡ (a * 64 + b) * 2 ^ 32 + ((c * 64 + d) * 2 ^ 16 + (e * 64 + f)) = omega (arith, is) in
      let pairs : n ≡ ((a * 64 + b) * 2 ^ 16 + (c * 64 + d)) * 2 ^ 32 + ((e * 64 + f) * 2 ^ 16 + (g * 64 + h)) = omega (arith, is) in
      let one = sixteens (a * 64 + b) ((c * 64 + d) * 2 ^ 16 + (e * 64 + f)) (a * 64 + b) (e * 64 + f) (n / 2 ^ 16) (omega arith) (omega arith)
      (omega arith) even in
      let two = sixteens ((a * 64 + b) * 2 ^ 16 + (c * 64 + d)) ((e * 64 + f) * 2 ^ 16 + (g * 64 + h)) (c * 64 + d) (g * 64 + h) n (omega arith) (omega arith)
      (omega arith) pairs in
      omega (arith, one, two)

  pub packed : (n : ℕ) → n ≡ a * 256 ^ 7 + b * 256 ^ 6 + c * 256 ^ 5 + d * 256 ^ 4 + e * 256 ^ 3 + f * 256 ^ 2 + g * 256 + h
      → to_eight (to_fours (to_twos n)) ≡ a * 2 ^ 42 + b * 2 ^ 36 + c * 2 ^ 30 + d * 2 ^ 24 + e * 2 ^ 18 + f * 2 ^ 12 + g * 2 ^ 6 + h
  packed n is =
      let bytes : n ≡ in_bytes a b c d e f g h = omega (arith, is) in
      let fours = fours_of (to_twos n) (twos_of n bytes) in
      ap to_eight fours ∙ omega arith

  -- and taken apart
  twos_again : (n : ℕ) → n ≡ in_fours a b c d e f g h → from_fours n ≡ in_twos a b c d e f g h
  twos_again n is =
      let even : n / 2 ^ 12 ≡ (a * 64 + b) * 2 ^ 32 + ((c * 64 + d) * 2 ^ 20 + (e * 64 + f)) = omega (arith, is) in
      let one = twelves (a * 64 + b) ((c * 64 + d) * 2 ^ 20 + (e * 64 + f)) (a * 64 + b) (e * 64 + f) (n / 2 ^ 12) (omega arith) (omega arith)
      (omega arith) even in
      omega (arith, one, is)

  bytes_again : (n : ℕ) → n ≡ in_twos a b c d e f g h → from_twos n ≡ in_bytes a b c d e f g h
  bytes_again n is =
      let even : n / 2 ^ 6 ≡ ((a * 2 ^ 16 + (b * 2 ^ 10 + c)) * 2 ^ 16 + (d * 2 ^ 10 + e)) * 2 ^ 16 + (f * 2 ^ 10 + g) = omega (arith, is) in
      let one = sixes a (b * 2 ^ 10 + c) (d * 2 ^ 10 + e) (f * 2 ^ 10 + g) a c e g (n / 2 ^ 6) (omega arith) (omega arith) (omega arith) (omega arith)
      (omega arith) (omega arith) (omega arith) even in
      omega (arith, one, is)

  pub unpacked : (w : ℕ) → w ≡ a * 2 ^ 42 + b * 2 ^ 36 + c * 2 ^ 30 + d * 2 ^ 24 + e * 2 ^ 18 + f * 2 ^ 12 + g * 2 ^ 6 + h
      → from_twos (from_fours (from_eight w)) ≡ a * 256 ^ 7 + b * 256 ^ 6 + c * 256 ^ 5 + d * 256 ^ 4 + e * 256 ^ 3 + f * 256 ^ 2 + g * 256 + h
  unpacked w is =
      let fours : from_eight w ≡ in_fours a b c d e f g h = omega (arith, is) in
      bytes_again (from_fours (from_eight w)) (twos_again (from_eight w) fours) ∙ omega arith

  pub small_eight : All (λ k. k < 64) (a ∷ b ∷ c ∷ d ∷ e ∷ f ∷ g ∷ h ∷ [])
  small_eight =
      let from_h = All-cons (λ k. k < 64) h [] h' (All-nil (λ k. k < 64)) in
      let from_g = All-cons (λ k. k < 64) g (h ∷ []) g' from_h in
      let from_f = All-cons (λ k. k < 64) f (g ∷ h ∷ []) f' from_g in
      let from_e = All-cons (λ k. k < 64) e (f ∷ g ∷ h ∷ []) e' from_f in
      let from_d = All-cons (λ k. k < 64) d (e ∷ f ∷ g ∷ h ∷ []) d' from_e in
      let from_c = All-cons (λ k. k < 64) c (d ∷ e ∷ f ∷ g ∷ h ∷ []) c' from_d in
      let from_b = All-cons (λ k. k < 64) b (c ∷ d ∷ e ∷ f ∷ g ∷ h ∷ []) b' from_c in
      let from_a = All-cons (λ k. k < 64) a (b ∷ c ∷ d ∷ e ∷ f ∷ g ∷ h ∷ []) a' from_b in
      from_a

-- the characters of a word
below_64 : (n : ℕ) → n % 64 < 64
below_64 n = omega arith

pub codes_below : (w : ℕ) → All (λ k. k < 64) (codes_of w)
codes_below w =
    small_eight (character_of 0 w) (character_of 1 w) (character_of 2 w) (character_of 3 w) (character_of 4 w) (character_of 5 w) (character_of 6 w)
    (character_of 7 w)
    (below_64 (w / 2 ^ 42)) (below_64 (w / 2 ^ 36)) (below_64 (w / 2 ^ 30)) (below_64 (w / 2 ^ 24)) (below_64 (w / 2 ^ 18)) (below_64 (w / 2 ^ 12))
    (below_64 (w / 2 ^ 6)) (below_64 (w / 1))

bytes_below : (w i : ℕ) → get_or (codes_of w) i 0 < 256
bytes_below w i =
    ⊎_elim
    (λ (lt : i < 8). omega (arith, codes_below w i 0 lt))
    (λ (le : 8 ≤ i). omega (arith, get_or_past (codes_of w) i 0 le))
    (cases_lt i 8)

whole : (w : ℕ) → w < 2 ^ 48 → w ≡ character_of 0 w * 2 ^ 42 + character_of 1 w * 2 ^ 36 + character_of 2 w * 2 ^ 30 + character_of 3 w * 2 ^ 24 + character_of
    4 w * 2 ^ 18 + character_of 5 w * 2 ^ 12 + character_of 6 w * 2 ^ 6 + character_of 7 w
unfolding first_word
whole w below = sym (first_word-codes_of w [] below)

-- taken apart, they are its bytes
pub bytes_are : (w : ℕ) → w < 2 ^ 48 → to_be_bytes w64 (from_twos (from_fours (from_eight w))) ≡ codes_of w
bytes_are w below =
    be_bytes_8 (codes_of w) (from_twos (from_fours (from_eight w))) refl (bytes_below w)
    (unpacked (character_of 0 w) (character_of 1 w) (character_of 2 w) (character_of 3 w) (character_of 4 w) (character_of 5 w) (character_of 6 w)
    (character_of 7 w)
    (below_64 (w / 2 ^ 42)) (below_64 (w / 2 ^ 36)) (below_64 (w / 2 ^ 30)) (below_64 (w / 2 ^ 24)) (below_64 (w / 2 ^ 18)) (below_64 (w / 2 ^ 12))
    (below_64 (w / 2 ^ 6)) (below_64 (w / 1))
    w (whole w below))
