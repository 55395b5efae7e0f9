-- The order that bytes spell, read back from them: orders that are spelt alike are one order.
use Rattle.std.proofs.Common.{◌≡◌, ℕ, ◌+◌, ◌-◌, ◌*◌, ◌/◌, ◌%◌, ◌^◌, ◌<◌, ◌≤◌, ℤ, pos, negsuc, ◌≤ℤ◌, Bool, true, false, eqb, ltb, ◌||◌, List, [], ◌∷◌, lit<}
use Rattle.std.proofs.Common.{refl, sym, ap, ◌∙◌, arith}
use Rattle.std.specs.Int.{from_bool}
use Rattle.std.specs.Prelude.{if◌then◌else◌}
use Rattle.std.proofs.lemmas.Bool.Decides.{nat_tests}
use Rattle.std.proofs.lemmas.Int.{ints}
use Rattle.kdf_syllable.specs.declared.order.Order.{Order}
use Rattle.kdf_syllable.specs.declared.order.Order.TheVariants.{Plain, Indirect, Single, Copies, Shift, Device, Query, Jump, Exit, Direct, Set}
use Rattle.kdf_syllable.specs.declared.amount.Amount.{Amount}
use Rattle.kdf_syllable.specs.declared.amount.Amount.TheVariants.{Fixed, Count}
use Rattle.kdf_syllable.specs.Spelling.{IsAmount, IsOrder, amount, seven_bits, spelling}

-- the number from -64 to 63 that seven bits are in two's complement
abbrev signed_7 : ℕ → ℤ
signed_7 n = if ltb n 64 then pos n else negsuc (127 - n)

-- the amount of a shift, from its second syllable
abbrev amount_of : ℕ → Amount
amount_of b = if eqb (b % 2) 1 then Fixed (signed_7 (b / 2)) else Count (b / 16)

abbrev two : ℕ → ℕ → Order
two a b =
    if ltb a 0x50 then Indirect a (b / 16) (b % 16)
    else (if ltb a 0x63 || eqb a 0x6f then Single a (b / 16)
    else (if ltb a 0x6a then Copies a (b / 16) (b % 16)
    else (if ltb a 0x6f then Shift a (amount_of b)
    else (if ltb a 0x7e then Device a (b / 16) else Query (b % 16) (b / 16)))))

abbrev direct : ℕ → Order
direct n = Direct (eqb (n / 2 ^ 20 % 2) 1) (eqb (n / 2 ^ 19 % 2) 1) (n / 2 ^ 15 % 16) (n % 2 ^ 15)

abbrev three : ℕ → ℕ → ℕ → Order
three a b c =
    if ltb a 0xb2 then Jump (a - 0x80) (256 * b + c)
    else (if ltb a 0xc0 then Exit c
    else (if ltb a 0xe0 then direct (65536 * a + 256 * b + c) else Set (256 * b + c)))

-- the order that the bytes spell, if they spell one
pub read : List ℕ → Order
read (a ∷ []) = Plain a
read (a ∷ b ∷ []) = two a b
read (a ∷ b ∷ c ∷ []) = three a b c
read _ = Plain 0

signed_7-seven_bits : (n : ℤ) → negsuc 63 ≤ℤ n → n ≤ℤ pos 63 → signed_7 (seven_bits n) ≡ n
signed_7-seven_bits (pos n) low high =
    let small : n < 64 = omega (arith, ints) in
    let test : ltb n 64 ≡ true = grind (arith, nat_tests) in rw test
signed_7-seven_bits (negsuc n) low high =
    let small : n < 64 = omega (arith, ints) in
    let test : ltb (127 - n) 64 ≡ false = grind (arith, nat_tests) in
    let back : 127 - (127 - n) ≡ n = omega arith in rw (test, back)

pub seven_bits-below : (n : ℤ) → negsuc 63 ≤ℤ n → n ≤ℤ pos 63 → seven_bits n < 128
seven_bits-below (pos n) low high = let small : n < 64 = omega (arith, ints) in omega arith
seven_bits-below (negsuc n) low high = omega arith

amount_of-amount : (by : Amount) → IsAmount by → amount_of (amount by) ≡ by
amount_of-amount (Fixed n) is =
    let odd : (2 * seven_bits n + 1) % 2 ≡ 1 = omega arith in
    let half : (2 * seven_bits n + 1) / 2 ≡ seven_bits n = omega arith in
    rw (odd, half, signed_7-seven_bits n is.0 is.1)
amount_of-amount (Count q) is =
    let even : (16 * q) % 2 ≡ 0 = omega arith in
    let back : (16 * q) / 16 ≡ q = omega arith in
    rw (even, back)

pub from_bool-below : (b : Bool) → from_bool b < 2
from_bool-below true = lit< tt
from_bool-below false = lit< tt

eqb-from_bool : (b : Bool) → eqb (from_bool b) 1 ≡ b
eqb-from_bool true = refl
eqb-from_bool false = refl

bytes-whole : (n : ℕ) → 65536 * (n / 2 ^ 16) + 256 * (n / 2 ^ 8 % 2 ^ 8) + n % 2 ^ 8 ≡ n
bytes-whole n = omega arith

three-direct : (n : ℕ) → 0xc00000 ≤ n → n < 0xe00000 → three (n / 2 ^ 16) (n / 2 ^ 8 % 2 ^ 8) (n % 2 ^ 8) ≡ direct n
three-direct n low high =
    let test : ltb (n / 2 ^ 16) 0xb2 ≡ false = grind (arith, nat_tests) in
    let test_2 : ltb (n / 2 ^ 16) 0xc0 ≡ false = grind (arith, nat_tests) in
    let test_3 : ltb (n / 2 ^ 16) 0xe0 ≡ true = grind (arith, nat_tests) in
    rw (test, test_2, test_3, bytes-whole n)

direct-bits : (n t u q a : ℕ) → n ≡ 0xc00000 + t * 2 ^ 20 + u * 2 ^ 19 + q * 2 ^ 15 + a → t < 2 → u < 2 → q < 16 → a < 2 ^ 15
    → direct n ≡ Direct (eqb t 1) (eqb u 1) q a
direct-bits n t u q a is t_in u_in q_in a_in =
    let t_is : n / 2 ^ 20 % 2 ≡ t = omega arith in
    let u_is : n / 2 ^ 19 % 2 ≡ u = omega arith in
    let q_is : n / 2 ^ 15 % 16 ≡ q = omega arith in
    let a_is : n % 2 ^ 15 ≡ a = omega arith in
    rw (t_is, u_is, q_is, a_is)

three-set : (n constant : ℕ) → n ≡ 0xe00000 + constant → constant < 2 ^ 16 → three (n / 2 ^ 16) (n / 2 ^ 8 % 2 ^ 8) (n % 2 ^ 8) ≡ Set constant
three-set n constant is low =
    let test : ltb (n / 2 ^ 16) 0xb2 ≡ false = grind (arith, nat_tests) in
    let test_2 : ltb (n / 2 ^ 16) 0xc0 ≡ false = grind (arith, nat_tests) in
    let test_3 : ltb (n / 2 ^ 16) 0xe0 ≡ false = grind (arith, nat_tests) in
    let back : 256 * (n / 2 ^ 8 % 2 ^ 8) + n % 2 ^ 8 ≡ constant = omega arith in
    rw (test, test_2, test_3, back)

-- what is read back from the spelling of an order is the order
pub read-spelling : (order : Order) → IsOrder order → read (spelling order) ≡ order
unfolding read spelling
read-spelling (Plain code) is = refl
read-spelling (Indirect code k q) is =
    let test : ltb code 0x50 ≡ true = grind (arith, nat_tests) in
    let first : (16 * k + q) / 16 ≡ k = omega arith in
    let second : (16 * k + q) % 16 ≡ q = omega arith in
    rw (test, first, second)
read-spelling (Single code q) is =
    let test : ltb code 0x50 ≡ false = grind (arith, nat_tests) in
    let test_2 : ltb code 0x63 || eqb code 0x6f ≡ true = grind (arith, nat_tests) in
    let first : (16 * q) / 16 ≡ q = omega arith in
    rw (test, test_2, first)
read-spelling (Copies code q k) is =
    let test : ltb code 0x50 ≡ false = grind (arith, nat_tests) in
    let test_2 : ltb code 0x63 || eqb code 0x6f ≡ false = grind (arith, nat_tests) in
    let test_3 : ltb code 0x6a ≡ true = grind (arith, nat_tests) in
    let first : (16 * q + k) / 16 ≡ q = omega arith in
    let second : (16 * q + k) % 16 ≡ k = omega arith in
    rw (test, test_2, test_3, first, second)
read-spelling (Shift code by) is =
    let test : ltb code 0x50 ≡ false = grind (arith, nat_tests) in
    let test_2 : ltb code 0x63 || eqb code 0x6f ≡ false = grind (arith, nat_tests) in
    let test_3 : ltb code 0x6a ≡ false = grind (arith, nat_tests) in
    let test_4 : ltb code 0x6f ≡ true = grind (arith, nat_tests) in
    rw (test, test_2, test_3, test_4, amount_of-amount by is.1)
read-spelling (Device code q) is =
    let test : ltb code 0x50 ≡ false = grind (arith, nat_tests) in
    let test_2 : ltb code 0x63 || eqb code 0x6f ≡ false = grind (arith, nat_tests) in
    let test_3 : ltb code 0x6a ≡ false = grind (arith, nat_tests) in
    let test_4 : ltb code 0x6f ≡ false = grind (arith, nat_tests) in
    let test_5 : ltb code 0x7e ≡ true = grind (arith, nat_tests) in
    let first : (16 * q) / 16 ≡ q = omega arith in
    rw (test, test_2, test_3, test_4, test_5, first)
read-spelling (Query b q) is =
    let first : (16 * q + b) / 16 ≡ q = omega arith in
    let second : (16 * q + b) % 16 ≡ b = omega arith in
    rw (first, second)
read-spelling (Jump c target) is =
    let test : ltb (0x80 + c) 0xb2 ≡ true = grind (arith, nat_tests) in
    let condition : 0x80 + c - 0x80 ≡ c = omega arith in
    let whole : 256 * (target / 2 ^ 8) + target % 2 ^ 8 ≡ target = omega arith in
    rw (test, condition, whole)
read-spelling (Exit n) is = refl
read-spelling (Direct t u q a) is =
    let n : ℕ = 0xc00000 + from_bool t * 2 ^ 20 + from_bool u * 2 ^ 19 + q * 2 ^ 15 + a in
    let t_in = from_bool-below t in
    let u_in = from_bool-below u in
    three-direct n (omega arith) (omega arith)
    ∙ direct-bits n (from_bool t) (from_bool u) q a refl t_in u_in is.0 is.1
    ∙ rw (eqb-from_bool t, eqb-from_bool u)
read-spelling (Set constant) is = three-set (0xe00000 + constant) constant refl is

-- both are what is read back from the one spelling
pub same_from_spelling : (order other : Order) → IsOrder order → IsOrder other → spelling order ≡ spelling other → order ≡ other
same_from_spelling order other is other_is e =
    sym (read-spelling order is) ∙ ap read e ∙ read-spelling other other_is
