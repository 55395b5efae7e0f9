-- The order that one to three syllables spell, in the order of the tables of orders.
use Rattle.std.specs.Prelude.{◌≡◌, ℕ, ◌+◌, ◌-◌, ◌*◌, ◌/◌, ◌%◌, ◌^◌, ℤ, pos, negsuc, Bool, not, ◌==◌, ◌&&◌, ◌||◌, nat_lt, nat_le, if◌then◌else◌, Option, Some}
use Rattle.std.specs.Prelude.{None, List, [], ◌∷◌, length, take}
use Rattle.std.specs.Int.{is_in_range}
use Rattle.kdf_syllable.specs.Spelling.{size_of_first}
use Rattle.kdf_syllable.specs.declared.order.Order.{Order}
use Rattle.kdf_syllable.specs.declared.order.Order.TheVariants.{Plain, Indirect, Single, Copies, Shift, Device, Query, Jump, Exit, Direct, Set}
use Rattle.kdf_syllable.specs.declared.amount.Amount.TheVariants.{Fixed, Count}

-- the order, where the test lets it through
abbrev pub only_if : Bool → Order → Option Order
only_if test order = if test then Some order else None

-- first bits 00: one syllable. None has the code 13
abbrev pub decoded_one : ℕ → Option Order
decoded_one a = only_if (is_in_range 0x01 0x21 a && not (a == 0x13)) (Plain a)

-- the number from -64 to 63 that seven bits are in two's complement
abbrev pub signed_7 : ℕ → ℤ
signed_7 n = if nat_lt n 64 then pos n else negsuc (127 - n)

-- a shift: an odd second syllable is a number of places and 1, an even one is a Q-store and 0
abbrev pub decoded_shift : ℕ → ℕ → Option Order
decoded_shift a b =
    if b % 2 == 1 then Some (Shift a (Fixed (signed_7 (b / 2))))
    else only_if (b % 16 == 0) (Shift a (Count (b / 16)))

-- first bits 01: two syllables
abbrev pub decoded_two : ℕ → ℕ → Option Order
decoded_two a b =
    if is_in_range 0x40 0x4f a then Some (Indirect a (b / 16) (b % 16))
    else (if is_in_range 0x50 0x62 a || a == 0x6f then only_if (b % 16 == 0) (Single a (b / 16))
    else (if is_in_range 0x63 0x69 a then Some (Copies a (b / 16) (b % 16))
    else (if is_in_range 0x6a 0x6e a then decoded_shift a b
    else (if is_in_range 0x70 0x7d a then only_if (b % 16 == 0) (Device a (b / 16))
    else only_if (a == 0x7e && nat_le (b % 16) 5) (Query (b % 16) (b / 16))))))

-- first bits 10: jumps to a syllable below 6, and EXIT
abbrev pub decoded_jump : ℕ → ℕ → ℕ → Option Order
decoded_jump a b d =
    if is_in_range 0x80 0xb1 a then only_if (nat_lt ((2 ^ 8 * b + d) / 8192) 6) (Jump (a - 0x80) (2 ^ 8 * b + d))
    else only_if (a == 0xb2 && b == 0) (Exit d)

-- the store order of 24 bits
abbrev pub direct : ℕ → Order
direct bits = Direct (bits / 2 ^ 20 % 2 == 1) (bits / 2 ^ 19 % 2 == 1) (bits / 2 ^ 15 % 2 ^ 4) (bits % 2 ^ 15)

-- first bits 11: store orders and SET
abbrev pub decoded_store : ℕ → ℕ → ℕ → Option Order
decoded_store a b d =
    if is_in_range 0xc0 0xdf a then Some (direct (2 ^ 16 * a + 2 ^ 8 * b + d))
    else only_if (a == 0xe0) (Set (2 ^ 8 * b + d))

-- the order that exactly these syllables spell
unfoldable pub decoded : List ℕ → Option Order
decoded (a ∷ []) = decoded_one a
decoded (a ∷ b ∷ []) = decoded_two a b
decoded (a ∷ b ∷ d ∷ []) = if nat_lt a 0xc0 then decoded_jump a b d else decoded_store a b d
decoded _ = None

-- the order that the syllables begin with, of which the first tells how many it has
abbrev pub first_decoded : List ℕ → Option Order
first_decoded [] = None
first_decoded (a ∷ rest) = decoded (take (size_of_first a) (a ∷ rest))

-- syllables begin with a spelling
abbrev pub BeginsWith : List ℕ → List ℕ → Type 0
BeginsWith syllables s = take (length s) syllables ≡ s
