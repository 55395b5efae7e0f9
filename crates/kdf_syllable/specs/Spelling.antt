-- The orders, and the one to three bytes that spell each.
use Rattle.std.specs.Prelude.{◌≡◌, ◌≢◌, ℕ, ◌+◌, ◌-◌, ◌*◌, ◌/◌, ◌%◌, ◌^◌, ◌<◌, ◌≤◌, ◌⊎◌, ℤ, pos, negsuc, ◌≤ℤ◌, nat_lt, if◌then◌else◌, List, [], ◌∷◌}
use Rattle.std.specs.Int.{IsInRange, from_bool}
use Rattle.kdf_syllable.specs.declared.order.Order.{Order}
use Rattle.kdf_syllable.specs.declared.order.Order.TheVariants.{Plain, Indirect, Single, Copies, Shift, Device, Query, Jump, Exit, Direct, Set}
use Rattle.kdf_syllable.specs.declared.amount.Amount.{Amount}
use Rattle.kdf_syllable.specs.declared.amount.Amount.TheVariants.{Fixed, Count}

-- the number is that of a Q-store
abbrev pub IsQ : ℕ → Type 0
IsQ q = q < 16

-- the amount of a shift is a number from -64 to 63, or in a Q-store
abbrev pub IsAmount : Amount → Type 0
IsAmount (Fixed n) = (negsuc 63 ≤ℤ n) × (n ≤ℤ pos 63)
IsAmount (Count q) = IsQ q

-- each field of the order is in its range; no order has the code 13
abbrev pub IsOrder : Order → Type 0
IsOrder (Plain code) = IsInRange 0x01 0x21 code × (code ≢ 0x13)
IsOrder (Indirect code k q) = IsInRange 0x40 0x4f code × IsQ k × IsQ q
IsOrder (Single code q) = (IsInRange 0x50 0x62 code ⊎ (code ≡ 0x6f)) × IsQ q
IsOrder (Copies code q k) = IsInRange 0x63 0x69 code × IsQ q × IsQ k
IsOrder (Shift code by) = IsInRange 0x6a 0x6e code × IsAmount by
IsOrder (Device code q) = IsInRange 0x70 0x7d code × IsQ q
IsOrder (Query b q) = (b ≤ 5) × IsQ q
IsOrder (Jump c target) = (c ≤ 0x31) × (target < 6 * 8192)
IsOrder (Exit n) = n < 256
IsOrder (Direct t u q a) = IsQ q × (a < 2 ^ 15)
IsOrder (Set constant) = constant < 2 ^ 16

-- a number from -64 to 63 in seven bits, in two's complement
abbrev pub seven_bits : ℤ → ℕ
seven_bits (pos n) = n
seven_bits (negsuc n) = 127 - n

-- the second syllable of a shift: odd for a number of places, even for a counter
abbrev pub amount : Amount → ℕ
amount (Fixed n) = 2 * seven_bits n + 1
amount (Count q) = 16 * q

-- the three bytes of 24 bits
abbrev pub three_bytes : ℕ → List ℕ
three_bytes n = (n / 2 ^ 16) ∷ (n / 2 ^ 8 % 2 ^ 8) ∷ (n % 2 ^ 8) ∷ []

-- the bytes that spell an order
unfoldable pub spelling : Order → List ℕ
spelling (Plain code) = code ∷ []
spelling (Indirect code k q) = code ∷ (16 * k + q) ∷ []
spelling (Single code q) = code ∷ (16 * q) ∷ []
spelling (Copies code q k) = code ∷ (16 * q + k) ∷ []
spelling (Shift code by) = code ∷ amount by ∷ []
spelling (Device code q) = code ∷ (16 * q) ∷ []
spelling (Query b q) = 0x7e ∷ (16 * q + b) ∷ []
spelling (Jump c target) = (0x80 + c) ∷ (target / 2 ^ 8) ∷ (target % 2 ^ 8) ∷ []
spelling (Exit n) = 0xb2 ∷ 0 ∷ n ∷ []
spelling (Direct t u q a) = three_bytes (0xc00000 + from_bool t * 2 ^ 20 + from_bool u * 2 ^ 19 + q * 2 ^ 15 + a)
spelling (Set constant) = three_bytes (0xe00000 + constant)

-- how many syllables an order has that begins with this byte, as its two highest bits say
abbrev pub size_of_first : ℕ → ℕ
size_of_first byte = if nat_lt byte 64 then 1 else (if nat_lt byte 128 then 2 else 3)
