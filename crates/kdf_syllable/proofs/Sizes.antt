-- How long a spelling is, as its first byte tells.
use Rattle.std.proofs.Common.{◌≡◌, ℕ, ◌+◌, ◌*◌, ◌/◌, ◌^◌, ◌<◌, ◌≤◌, true, false, ltb, List, [], ◌++◌, length, get_or, length-append, refl, sym, ap, ◌∙◌, arith}
use Rattle.std.specs.Int.{from_bool}
use Rattle.std.proofs.lemmas.Bool.Decides.{nat_tests}
use Rattle.std.proofs.lemmas.List.{get_or_append_left, nil_from_length}
use Rattle.kdf_syllable.specs.declared.order.Order.{Order}
use Rattle.kdf_syllable.specs.declared.order.Order.TheVariants.{Plain, Indirect, Single, Copies, Shift, Device, Query, Jump, Exit, Direct, Set}
use Rattle.kdf_syllable.specs.Spelling.{IsOrder, spelling, size_of_first}

size-two : (first : ℕ) → 64 ≤ first → first < 128 → size_of_first first ≡ 2
size-two first low high =
    let test : ltb first 64 ≡ false = grind (arith, nat_tests) in
    let test_2 : ltb first 128 ≡ true = grind (arith, nat_tests) in rw (test, test_2)

size-three : (first : ℕ) → 128 ≤ first → size_of_first first ≡ 3
size-three first low =
    let test : ltb first 64 ≡ false = grind (arith, nat_tests) in
    let test_2 : ltb first 128 ≡ false = grind (arith, nat_tests) in rw (test, test_2)

-- the first of three bytes whose two highest bits are 1
size-high : (n : ℕ) → 0xc00000 ≤ n → size_of_first (n / 2 ^ 16) ≡ 3
size-high n low = size-three (n / 2 ^ 16) (omega arith)

-- the first byte of a spelling tells its length
pub size_of_first-spelling : (order : Order) → IsOrder order → size_of_first (get_or (spelling order) 0 0) ≡ length (spelling order)
unfolding spelling
size_of_first-spelling (Plain code) is = let one : ltb code 64 ≡ true = grind (arith, nat_tests) in rw one
size_of_first-spelling (Indirect code k q) is = size-two code (omega arith) (omega arith)
size_of_first-spelling (Single code q) is = size-two code (grind arith) (grind arith)
size_of_first-spelling (Copies code q k) is = size-two code (omega arith) (omega arith)
size_of_first-spelling (Shift code by) is = size-two code (omega arith) (omega arith)
size_of_first-spelling (Device code q) is = size-two code (omega arith) (omega arith)
size_of_first-spelling (Query b q) is = refl
size_of_first-spelling (Jump c target) is = size-three (0x80 + c) (omega arith)
size_of_first-spelling (Exit n) is = refl
size_of_first-spelling (Direct t u q a) is = size-high (0xc00000 + from_bool t * 2 ^ 20 + from_bool u * 2 ^ 19 + q * 2 ^ 15 + a) (omega arith)
size_of_first-spelling (Set constant) is = size-high (0xe00000 + constant) (omega arith)

size_of_first-positive : (byte : ℕ) → 0 < size_of_first byte
size_of_first-positive byte = grind arith

-- no spelling begins another
pub spelling-apart : (order other : Order) (rest : List ℕ) → IsOrder order → IsOrder other → spelling other ≡ spelling order ++ rest → rest ≡ []
spelling-apart order other rest is other_is e =
    let size = size_of_first-spelling order is in
    let other_size = size_of_first-spelling other other_is in
    let some = size_of_first-positive (get_or (spelling order) 0 0) in
    let first : get_or (spelling other) 0 0 ≡ get_or (spelling order) 0 0 = rw e (get_or_append_left (spelling order) rest 0 0 (omega arith)) in
    let sizes : length (spelling other) ≡ length (spelling order) = sym other_size ∙ ap size_of_first first ∙ size in
    let lengths : length (spelling other) ≡ length (spelling order) + length rest = rw e (length-append (spelling order) rest) in
    nil_from_length rest (omega arith)
