-- The orders of arithmetic as a table: how each changes the nest, which is written top first.
use Rattle.std.specs.Prelude.{ℕ, suc, ◌-◌, ◌^◌, Bool, true, false, not, List, [], ◌∷◌, ◌++◌, Option, Some, None, if◌then◌else◌, ◌==◌, ℤ, pos, negsuc, neg_ℤ}
use Rattle.std.specs.Prelude.{◌+ℤ◌, ◌-ℤ◌, ◌*ℤ◌, bit_and, bit_or, bit_xor, count_ones, unsigned_abs}
use Rattle.kdf_word.specs.Words.{signed, word_of, fits}
use Rattle.kdf_word.specs.Doubles.{floor_div, double_of, double_fits, upper_of, lower_of}
use Rattle.kdf_arith.specs.Digits.{to_binary, from_binary}

-- the nest after an order, and whether the order sets V
pub record After : Type 0 where
  pub nest : List ℕ
  pub sets_v : Bool

-- words on those below. V stays as it is
abbrev pub words : List ℕ → List ℕ → After
words above below = record { nest = above ++ below; sets_v = false }

-- a value as a word on those below. V is set where it doesn't fit
abbrev pub as_word : ℤ → List ℕ → After
as_word v below = record { nest = word_of v ∷ below; sets_v = not (fits v) }

-- a value that is put as a double value on those below. V is set where it doesn't fit
abbrev pub as_double : ℤ → List ℕ → After
as_double v below = record { nest = upper_of v ∷ lower_of v ∷ below; sets_v = not (double_fits v) }

-- the operands a, b, c, d that an order needs, and the words below them; none where one is missing
abbrev pub one : List ℕ → (ℕ → List ℕ → After) → Option After
one (a ∷ below) f = Some (f a below)
one _ f = None

abbrev pub two : List ℕ → (ℕ → ℕ → List ℕ → After) → Option After
two (a ∷ b ∷ below) f = Some (f a b below)
two _ f = None

abbrev pub three : List ℕ → (ℕ → ℕ → ℕ → List ℕ → After) → Option After
three (a ∷ b ∷ c ∷ below) f = Some (f a b c below)
three _ f = None

abbrev pub four : List ℕ → (ℕ → ℕ → ℕ → ℕ → List ℕ → After) → Option After
four (a ∷ b ∷ c ∷ d ∷ below) f = Some (f a b c d below)
four _ f = None

-- the quotient of two values, rounded down. The divisor isn't 0
abbrev pub quotient : ℤ → ℤ → ℤ
quotient v (pos d) = floor_div v d
quotient v (negsuc d) = floor_div (neg_ℤ v) (suc d)

-- the remainder on top of the quotient. V is set where the quotient doesn't fit
abbrev pub divided : ℤ → ℤ → List ℕ → After
divided v d below =
    record {
      nest = word_of (v -ℤ quotient v d *ℤ d) ∷ word_of (quotient v d) ∷ below;
      sets_v = not (fits (quotient v d));
    }

-- b by a. By 0, both words stay and V is set
abbrev pub divi : ℕ → ℕ → List ℕ → After
divi a b below =
    if a == 0 then record { nest = a ∷ b ∷ below; sets_v = true }
    else divided (signed b) (signed a) below

-- b as characters by the radices of a. V is set where some of the number is left
abbrev pub frb : ℕ → ℕ → List ℕ → After
frb a b below =
    record { nest = (from_binary 8 a b).word ∷ below; sets_v = not ((from_binary 8 a b).rest == 0) }

-- the rows of plain orders
unfoldable pub arith_row : ℕ → List ℕ → Option After
arith_row code nest =
    if code == 0x02 then one nest (λ a. words [])  -- ERASE
    else (if code == 0x03 then one nest (λ a. words (a ∷ a ∷ []))  -- DUP
    else (if code == 0x04 then two nest (λ a b. words (a ∷ b ∷ a ∷ b ∷ []))  -- DUPD
    else (if code == 0x05 then two nest (λ a b. words (b ∷ a ∷ []))  -- REV
    else (if code == 0x06 then four nest (λ a b c d. words (c ∷ d ∷ a ∷ b ∷ []))  -- REVD
    else (if code == 0x07 then three nest (λ a b c. words (c ∷ a ∷ b ∷ []))  -- CAB
    else (if code == 0x08 then three nest (λ a b c. words (b ∷ c ∷ a ∷ []))  -- PERM
    else (if code == 0x09 then Some (words (0 ∷ []) nest)  -- ZERO
    else (if code == 0x0A then two nest (λ a b. words (bit_and b a ∷ []))  -- AND
    else (if code == 0x0B then two nest (λ a b. words (bit_or b a ∷ []))  -- OR
    else (if code == 0x0C then one nest (λ a. words ((2 ^ 48 - 1 - a) ∷ []))  -- NOT
    else (if code == 0x0D then two nest (λ a b. words (bit_xor b a ∷ []))  -- NEV
    else (if code == 0x0E then one nest (λ a. words (count_ones a ∷ []))  -- BITS
    else (if code == 0x0F then one nest (λ a. as_word (neg_ℤ (signed a)))  -- NEG
    else (if code == 0x10 then one nest (λ a. as_word (pos (unsigned_abs (signed a))))  -- ABS
    else (if code == 0x11 then two nest (λ a b. as_word (signed b +ℤ signed a))  -- +
    else (if code == 0x12 then two nest (λ a b. as_word (signed b -ℤ signed a))  -- -
    else (if code == 0x14 then two nest (λ a b. as_double (signed b *ℤ signed a))  -- XD
    else (if code == 0x15 then two nest (λ a b. as_word (double_of a b))  -- CONT
    else (if code == 0x16 then one nest (λ a. as_double (signed a))  -- STR
    else (if code == 0x17 then four nest (λ a b c d. as_double (double_of c d +ℤ double_of a b))  -- +D
    else (if code == 0x18 then four nest (λ a b c d. as_double (double_of c d -ℤ double_of a b))  -- -D
    else (if code == 0x19 then two nest (λ a b. as_double (neg_ℤ (double_of a b)))  -- NEGD
    else (if code == 0x1A then two nest divi  -- DIVI
    else (if code == 0x1B then two nest (λ a b. as_word (pos (to_binary 8 a b)))  -- TOB
    else (if code == 0x1C then two nest frb  -- FRB
    else None)))))))))))))))))))))))))
