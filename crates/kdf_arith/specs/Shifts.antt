-- The five shifts as a table. An amount n is to the left, a negative one to the right by m = -n.
use Rattle.std.specs.Prelude.{ℕ, suc, ◌+◌, ◌-◌, ◌*◌, ◌/◌, ◌%◌, ◌^◌, List, [], ◌∷◌, Option, None, if◌then◌else◌, ◌==◌, ℤ, pos, negsuc, ◌+ℤ◌, ◌*ℤ◌}
use Rattle.kdf_word.specs.Words.{signed}
use Rattle.kdf_word.specs.Doubles.{floor_div, modulo, double_of}
use Rattle.kdf_arith.specs.Rows.{After, words, as_word, as_double, one, two}

-- a number times 2^n, or over 2^m rounded down. In the patterns m is suc k
abbrev pub scaled : ℤ → ℤ → ℤ
scaled v (pos n) = v *ℤ pos (2 ^ n)
scaled v (negsuc k) = floor_div v (2 ^ suc k)

-- the same, rounded to the nearest: 2^(m - 1) is added before
abbrev pub rounded : ℤ → ℤ → ℤ
rounded v (pos n) = v *ℤ pos (2 ^ n)
rounded v (negsuc k) = floor_div (v +ℤ pos (2 ^ k)) (2 ^ suc k)

-- bits as a number, moved to the left without bound, or to the right
abbrev pub moved : ℕ → ℤ → ℕ
moved w (pos n) = w * 2 ^ n
moved w (negsuc k) = w / 2 ^ suc k

-- a word turned to the left by n, which is below 48: its first n bits go after the others
abbrev pub turned : ℕ → ℕ → ℕ
turned n w = w % 2 ^ (48 - n) * 2 ^ n + w / 2 ^ (48 - n)

-- the 96 bits of N1 followed by N2
abbrev pub joined : ℕ → ℕ → ℕ
joined a b = a * 2 ^ 48 + b

-- the last 96 bits of a number as two words
abbrev pub parted : ℕ → List ℕ
parted w = w / 2 ^ 48 % 2 ^ 48 ∷ w % 2 ^ 48 ∷ []

-- the rows of the shifts
unfoldable pub shift_row : ℕ → ℤ → List ℕ → Option After
shift_row code n nest =
    if code == 0x6A then one nest (λ a. as_word (rounded (signed a) n))  -- SHA
    else (if code == 0x6B then one nest (λ a. words (moved a n % 2 ^ 48 ∷ []))  -- SHL
    else (if code == 0x6C then one nest (λ a. words (turned (modulo n 48) a ∷ []))  -- SHC
    else (if code == 0x6D then two nest (λ a b. as_double (scaled (double_of a b) n))  -- SHAD
    else (if code == 0x6E then two nest (λ a b. words (parted (moved (joined a b) n)))  -- SHLD
    else None))))
