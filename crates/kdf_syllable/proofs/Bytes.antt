-- A spelling is one to three bytes.
use Rattle.std.proofs.Common.{ℕ, zero, suc, ◌+◌, ◌*◌, ◌/◌, ◌%◌, ◌^◌, ◌<◌, List, [], ◌∷◌, length, get_or, lit<, lit≤, arith}
use Rattle.std.specs.Int.{IsInRange, from_bool}
use Rattle.kdf_syllable.specs.declared.order.Order.{Order}
use Rattle.kdf_syllable.specs.declared.order.Order.TheVariants.{Plain, Indirect, Single, Copies, Shift, Device, Query, Jump, Exit, Direct, Set}
use Rattle.kdf_syllable.specs.declared.amount.Amount.{Amount}
use Rattle.kdf_syllable.specs.declared.amount.Amount.TheVariants.{Fixed, Count}
use Rattle.kdf_syllable.specs.Spelling.{IsOrder, IsAmount, amount, spelling, three_bytes}
use Rattle.kdf_syllable.proofs.Reading.{seven_bits-below, from_bool-below}

pub length-spelling : (order : Order) → IsInRange 1 3 (length (spelling order))
unfolding spelling
length-spelling (Plain code) = (lit≤ tt, lit≤ tt)
length-spelling (Indirect code k q) = (lit≤ tt, lit≤ tt)
length-spelling (Single code q) = (lit≤ tt, lit≤ tt)
length-spelling (Copies code q k) = (lit≤ tt, lit≤ tt)
length-spelling (Shift code by) = (lit≤ tt, lit≤ tt)
length-spelling (Device code q) = (lit≤ tt, lit≤ tt)
length-spelling (Query b q) = (lit≤ tt, lit≤ tt)
length-spelling (Jump c target) = (lit≤ tt, lit≤ tt)
length-spelling (Exit n) = (lit≤ tt, lit≤ tt)
length-spelling (Direct t u q a) = (lit≤ tt, lit≤ tt)
length-spelling (Set constant) = (lit≤ tt, lit≤ tt)

-- each of the numbers is a byte
abbrev AreBytes : List ℕ → Type 0
AreBytes bytes = (k : ℕ) → get_or bytes k 0 < 256

one_byte : (a : ℕ) → a < 256 → AreBytes (a ∷ [])
one_byte a first zero = first
one_byte a first (suc k) = lit< tt

byte_before : (a : ℕ) (bytes : List ℕ) → a < 256 → AreBytes bytes → AreBytes (a ∷ bytes)
byte_before a bytes first rest zero = first
byte_before a bytes first rest (suc k) = rest k

two_are : (a b : ℕ) → a < 256 → b < 256 → AreBytes (a ∷ b ∷ [])
two_are a b first second = byte_before a (b ∷ []) first (one_byte b second)

three_are : (a b c : ℕ) → a < 256 → b < 256 → c < 256 → AreBytes (a ∷ b ∷ c ∷ [])
three_are a b c first second third = byte_before a (b ∷ c ∷ []) first (two_are b c second third)

three_bytes-are : (n : ℕ) → n < 2 ^ 24 → AreBytes (three_bytes n)
three_bytes-are n low = three_are (n / 2 ^ 16) (n / 2 ^ 8 % 2 ^ 8) (n % 2 ^ 8) (omega arith) (omega arith) (omega arith)

amount-below : (by : Amount) → IsAmount by → amount by < 256
amount-below (Fixed n) is = let low = seven_bits-below n is.0 is.1 in omega arith
amount-below (Count q) is = omega arith

-- each of the numbers in a spelling is a byte
pub spelling-below : (order : Order) → IsOrder order → (k : ℕ) → get_or (spelling order) k 0 < 256
unfolding spelling
spelling-below (Plain code) is = one_byte code (omega arith)
spelling-below (Indirect code k q) is = two_are code (16 * k + q) (omega arith) (omega arith)
spelling-below (Single code q) is = two_are code (16 * q) (grind arith) (omega arith)
spelling-below (Copies code q k) is = two_are code (16 * q + k) (omega arith) (omega arith)
spelling-below (Shift code by) is = two_are code (amount by) (omega arith) (amount-below by is.1)
spelling-below (Device code q) is = two_are code (16 * q) (omega arith) (omega arith)
spelling-below (Query b q) is = two_are 0x7e (16 * q + b) (lit< tt) (omega arith)
spelling-below (Jump c target) is = three_are (0x80 + c) (target / 2 ^ 8) (target % 2 ^ 8) (omega arith) (omega arith) (omega arith)
spelling-below (Exit n) is = three_are 0xb2 0 n (lit< tt) (lit< tt) is
spelling-below (Direct t u q a) is =
    let t_in = from_bool-below t in
    let u_in = from_bool-below u in
    three_bytes-are (0xc00000 + from_bool t * 2 ^ 20 + from_bool u * 2 ^ 19 + q * 2 ^ 15 + a) (omega arith)
spelling-below (Set constant) is = three_bytes-are (0xe00000 + constant) (omega arith)
