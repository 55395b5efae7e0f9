-- Each legal order is decoded from its spelling.
use Rattle.std.proofs.Common.{◌≡◌, ℕ, ◌+◌, ◌*◌, ◌/◌, ◌%◌, ◌^◌, ◌<◌, ◌≤◌, true, false, not, eqb, ltb, leb, ◌&&◌, ◌||◌, Option, Some, None, is_some, List, get_or}
use Rattle.std.proofs.Common.{refl, ap, ⊎_elim, arith}
use Rattle.std.specs.Int.{IsInRange, is_in_range, from_bool}
use Rattle.std.proofs.lemmas.Bool.{lt-ltb, le-leb, ne_eqb, and_from, not_from_false, cases_lt}
use Rattle.std.proofs.lemmas.Bool.Decides.{nat_tests}
use Rattle.std.proofs.lemmas.List.{get_or_default}
use Rattle.kdf_syllable.proofs.Bytes.{spelling-below}
use Rattle.kdf_syllable.proofs.Reading.{same_from_spelling, from_bool-below}
use Rattle.kdf_syllable.specs.Spelling.{IsOrder, IsAmount, amount, seven_bits, three_bytes, spelling}
use Rattle.kdf_syllable.specs.declared.order.Order.{Order}
use Rattle.kdf_syllable.specs.declared.order.Order.TheVariants.{Plain, Indirect, Single, Copies, Shift, Device, Query, Jump, Exit, Direct, Set}
use Rattle.kdf_syllable.specs.declared.amount.Amount.{Amount}
use Rattle.kdf_syllable.specs.declared.amount.Amount.TheVariants.{Fixed, Count}
use Rattle.kdf_decode.specs.Decoding.{only_if, decoded_shift, decoded_jump, decoded_store, decoded}
use Rattle.kdf_decode.proofs.Spelt.{Spells, AreBytes, decoded-spelt}

within : (first last code : ℕ) → IsInRange first last code → is_in_range first last code ≡ true
within first last code is = and_from (leb first code) (leb code last) (le-leb first code is.0) (le-leb code last is.1)

-- a shift by any amount is decoded
shift-some : (a : ℕ) (by : Amount) → IsAmount by → is_some (decoded_shift a (amount by)) ≡ true
shift-some a (Fixed n) is =
    let odd : (2 * seven_bits n + 1) % 2 ≡ 1 = omega arith in rw odd refl
shift-some a (Count q) is =
    let even : (16 * q) % 2 ≡ 0 = omega arith in
    let none : (16 * q) % 16 ≡ 0 = omega arith in rw (even, none) refl

jump-some : (a b d : ℕ) → is_in_range 0x80 0xb1 a ≡ true → (2 ^ 8 * b + d) / 8192 < 6 → is_some (decoded_jump a b d) ≡ true
jump-some a b d is near = rw (is, lt-ltb ((2 ^ 8 * b + d) / 8192) 6 near) refl

direct-some : (a b d : ℕ) → is_in_range 0xc0 0xdf a ≡ true → is_some (decoded_store a b d) ≡ true
direct-some a b d is = rw is refl

set-some : (a b d : ℕ) → a ≡ 0xe0 → is_some (decoded_store a b d) ≡ true
set-some a b d is = rw is refl

three-some : (n : ℕ) → 0xc00000 ≤ n → n < 0xe10000 → is_some (decoded (three_bytes n)) ≡ true
unfolding decoded
three-some n low high =
    let store : ltb (n / 2 ^ 16) 0xc0 ≡ false = grind (arith, nat_tests) in
    ⊎_elim
    (λ (below : n < 0xe00000).
    rw store (direct-some (n / 2 ^ 16) (n / 2 ^ 8 % 2 ^ 8) (n % 2 ^ 8) (within 0xc0 0xdf (n / 2 ^ 16) (omega arith, omega arith))))
    (λ (above : 0xe00000 ≤ n).
    rw store (set-some (n / 2 ^ 16) (n / 2 ^ 8 % 2 ^ 8) (n % 2 ^ 8) (omega arith)))
    (cases_lt n 0xe00000)

-- the spelling of each legal order is decoded
spelling-some : (o : Order) → IsOrder o → is_some (decoded (spelling o)) ≡ true
unfolding decoded spelling
spelling-some (Plain code) is =
    let test : (is_in_range 0x01 0x21 code && not (eqb code 0x13)) ≡ true =
    and_from (is_in_range 0x01 0x21 code) (not (eqb code 0x13)) (within 0x01 0x21 code is.0) (not_from_false (eqb code 0x13) (ne_eqb code 0x13 is.1)) in
    ap (λ test. is_some (only_if test (Plain code))) test
spelling-some (Indirect code k q) is = rw (within 0x40 0x4f code is.0) refl
spelling-some (Single code q) is =
    let test : is_in_range 0x40 0x4f code ≡ false = grind (arith, nat_tests) in
    let test_2 : (is_in_range 0x50 0x62 code || eqb code 0x6f) ≡ true = grind (arith, nat_tests) in
    let none : (16 * q) % 16 ≡ 0 = omega arith in
    rw (test, test_2, none) refl
spelling-some (Copies code q k) is =
    let test : is_in_range 0x40 0x4f code ≡ false = grind (arith, nat_tests) in
    let test_2 : (is_in_range 0x50 0x62 code || eqb code 0x6f) ≡ false = grind (arith, nat_tests) in
    rw (test, test_2, within 0x63 0x69 code is.0) refl
spelling-some (Shift code by) is =
    let test : is_in_range 0x40 0x4f code ≡ false = grind (arith, nat_tests) in
    let test_2 : (is_in_range 0x50 0x62 code || eqb code 0x6f) ≡ false = grind (arith, nat_tests) in
    let test_3 : is_in_range 0x63 0x69 code ≡ false = grind (arith, nat_tests) in
    rw (test, test_2, test_3, within 0x6a 0x6e code is.0) (shift-some code by is.1)
spelling-some (Device code q) is =
    let test : is_in_range 0x40 0x4f code ≡ false = grind (arith, nat_tests) in
    let test_2 : (is_in_range 0x50 0x62 code || eqb code 0x6f) ≡ false = grind (arith, nat_tests) in
    let test_3 : is_in_range 0x63 0x69 code ≡ false = grind (arith, nat_tests) in
    let test_4 : is_in_range 0x6a 0x6e code ≡ false = grind (arith, nat_tests) in
    let none : (16 * q) % 16 ≡ 0 = omega arith in
    rw (test, test_2, test_3, test_4, within 0x70 0x7d code is.0, none) refl
spelling-some (Query b q) is =
    let low : leb ((16 * q + b) % 16) 5 ≡ true = le-leb ((16 * q + b) % 16) 5 (omega arith) in
    rw low refl
spelling-some (Jump c target) is =
    let test : ltb (0x80 + c) 0xc0 ≡ true = lt-ltb (0x80 + c) 0xc0 (omega arith) in
    rw test (jump-some (0x80 + c) (target / 2 ^ 8) (target % 2 ^ 8) (within 0x80 0xb1 (0x80 + c) (omega arith, omega arith)) (omega arith))
spelling-some (Exit n) is = refl
spelling-some (Direct t u q a) is =
    let t_in = from_bool-below t in
    let u_in = from_bool-below u in
    three-some (0xc00000 + from_bool t * 2 ^ 20 + from_bool u * 2 ^ 19 + q * 2 ^ 15 + a) (omega arith) (omega arith)
spelling-some (Set constant) is = three-some (0xe00000 + constant) (omega arith) (omega arith)

-- bytes that are read with the default 0
pub are_bytes : (xs : List ℕ) → ((i : ℕ) → get_or xs i 0 < 2 ^ 8) → AreBytes xs
are_bytes xs h i d below = rw (get_or_default xs i d 0 below) (h i)

-- what is decoded from a spelling is the order that is spelt so
only : (o : Order) → IsOrder o → (x : Option Order) → ((p : Order) → x ≡ Some p → Spells (spelling o) p) → is_some x ≡ true → x ≡ Some o
only o is (Some p) spelt some = ap Some (same_from_spelling p o (spelt p refl).0 is (spelt p refl).1)
only o is None spelt some = cc

-- an order is decoded from its spelling
pub decoded-spelling : (o : Order) → IsOrder o → decoded (spelling o) ≡ Some o
decoded-spelling o is =
    only o is (decoded (spelling o)) (λ p. decoded-spelt (spelling o) p (are_bytes (spelling o) (spelling-below o is))) (spelling-some o is)
