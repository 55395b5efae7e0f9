-- An order that syllables spell is legal and has these syllables.
use Rattle.std.proofs.Common.{◌≡◌, ℕ, ◌+◌, ◌*◌, ◌-◌, ◌/◌, ◌%◌, ◌^◌, ◌<◌, ◌≤◌, ◌≢◌, Bool, true, false, cond, not, eqb, ltb, leb, ◌&&◌, ◌||◌, ◌⊎◌, Option, Some}
use Rattle.std.proofs.Common.{List, [], ◌∷◌, refl, ap, subst, ⊎_elim, arith}
use Rattle.std.specs.Int.{IsInRange, is_in_range, from_bool}
use Rattle.std.specs.List.{All}
use Rattle.std.proofs.lemmas.Bool.{ltb-true, ltb-false, leb-true, eqb-true, and_parts, cases_Bool}
use Rattle.std.proofs.lemmas.Bool.Decides.{nat_tests}
use Rattle.std.proofs.lemmas.Int.{ints}
use Rattle.kdf_syllable.specs.Spelling.{IsOrder, IsAmount, seven_bits, three_bytes, spelling}
use Rattle.kdf_syllable.specs.declared.order.Order.{Order}
use Rattle.kdf_syllable.specs.declared.order.Order.TheVariants.{Plain, Indirect, Single, Copies, Shift, Device, Query, Jump, Exit, Set}
use Rattle.kdf_syllable.specs.declared.amount.Amount.TheVariants.{Fixed, Count}
use Rattle.kdf_decode.specs.Decoding.{only_if, signed_7, direct, decoded_shift, decoded_two, decoded_jump, decoded_store, decoded}

-- the order is legal and has this spelling
abbrev pub Spells : List ℕ → Order → Type 0
Spells syllables o = IsOrder o × (spelling o ≡ syllables)

-- an order that a test lets through
passed : (test : Bool) (x o : Order) (P : Order → Type 0) → (test ≡ true → P x) → only_if test x ≡ Some o → P o
passed true x o P f e = let same : x ≡ o = cc in subst P same (f refl)
passed false x o P f e = cc

-- an order that is there always
given : (x o : Order) (P : Order → Type 0) → P x → Some x ≡ Some o → P o
given x o P h e = let same : x ≡ o = cc in subst P same h

-- an order from one of two rows
either : (test : Bool) (x y : Option Order) (o : Order) (P : Order → Type 0) → (test ≡ true → x ≡ Some o → P o) → (test ≡ false → y ≡ Some o → P o)
    → cond test x y ≡ Some o → P o
either true x y o P f g e = f refl e
either false x y o P f g e = g refl e

range : (first last code : ℕ) → is_in_range first last code ≡ true → IsInRange first last code
range first last code is =
    let parts = and_parts (leb first code) (leb code last) is in
    (leb-true first code parts.0, leb-true code last parts.1)

-- one syllable
plain-spelt : (a : ℕ) → (is_in_range 0x01 0x21 a && not (eqb a 0x13)) ≡ true → Spells (a ∷ []) (Plain a)
unfolding spelling
plain-spelt a is =
    let parts = and_parts (is_in_range 0x01 0x21 a) (not (eqb a 0x13)) is in
    let other : a ≢ 0x13 = λ e. let same : eqb a 0x13 ≡ true = grind (arith, nat_tests) in grind (arith, nat_tests) in
    ((range 0x01 0x21 a parts.0, other), refl)

-- the two halves of a second syllable
halves : (b : ℕ) → 16 * (b / 16) + b % 16 ≡ b
halves b = omega arith

high_half : (b : ℕ) → eqb (b % 16) 0 ≡ true → 16 * (b / 16) ≡ b
high_half b e = let none = eqb-true (b % 16) 0 e in omega arith

half-below : (b : ℕ) → b < 2 ^ 8 → b / 16 < 16
half-below b h = omega arith

-- two syllables
indirect-spelt : (a b : ℕ) → is_in_range 0x40 0x4f a ≡ true → b < 2 ^ 8 → Spells (a ∷ b ∷ []) (Indirect a (b / 16) (b % 16))
unfolding spelling
indirect-spelt a b is h = ((range 0x40 0x4f a is, half-below b h, omega arith), ap (λ n. a ∷ n ∷ []) (halves b))

single_code : (a : ℕ) → (is_in_range 0x50 0x62 a || eqb a 0x6f) ≡ true → IsInRange 0x50 0x62 a ⊎ (a ≡ 0x6f)
single_code a is = grind (arith, nat_tests)

single-spelt : (a b : ℕ) → (is_in_range 0x50 0x62 a || eqb a 0x6f) ≡ true → eqb (b % 16) 0 ≡ true → b < 2 ^ 8 → Spells (a ∷ b ∷ []) (Single a (b / 16))
unfolding spelling
single-spelt a b is even h = ((single_code a is, half-below b h), ap (λ n. a ∷ n ∷ []) (high_half b even))

copies-spelt : (a b : ℕ) → is_in_range 0x63 0x69 a ≡ true → b < 2 ^ 8 → Spells (a ∷ b ∷ []) (Copies a (b / 16) (b % 16))
unfolding spelling
copies-spelt a b is h = ((range 0x63 0x69 a is, half-below b h, omega arith), ap (λ n. a ∷ n ∷ []) (halves b))

seven_bits-signed : (n : ℕ) → n < 128 → seven_bits (signed_7 n) ≡ n
seven_bits-signed n h =
    ⊎_elim
    (λ (low : ltb n 64 ≡ true). rw low refl)
    (λ (high : ltb n 64 ≡ false). rw high (omega arith))
    (cases_Bool (ltb n 64))

signed-in : (n : ℕ) → n < 128 → IsAmount (Fixed (signed_7 n))
signed-in n h =
    ⊎_elim
    (λ (low : ltb n 64 ≡ true). let below = ltb-true n 64 low in rw low (omega (arith, ints), omega (arith, ints)))
    (λ (high : ltb n 64 ≡ false). let above = ltb-false n 64 high in rw high (omega (arith, ints), omega (arith, ints)))
    (cases_Bool (ltb n 64))

fixed-spelt : (a b : ℕ) → is_in_range 0x6a 0x6e a ≡ true → eqb (b % 2) 1 ≡ true → b < 2 ^ 8 → Spells (a ∷ b ∷ []) (Shift a (Fixed (signed_7 (b / 2))))
unfolding spelling
fixed-spelt a b is odd h =
    let one = eqb-true (b % 2) 1 odd in
    let low : b / 2 < 128 = omega arith in
    let same : 2 * seven_bits (signed_7 (b / 2)) + 1 ≡ b = omega (arith, seven_bits-signed (b / 2) low) in
    ((range 0x6a 0x6e a is, signed-in (b / 2) low), ap (λ n. a ∷ n ∷ []) same)

count-spelt : (a b : ℕ) → is_in_range 0x6a 0x6e a ≡ true → eqb (b % 16) 0 ≡ true → b < 2 ^ 8 → Spells (a ∷ b ∷ []) (Shift a (Count (b / 16)))
unfolding spelling
count-spelt a b is even h = ((range 0x6a 0x6e a is, half-below b h), ap (λ n. a ∷ n ∷ []) (high_half b even))

device-spelt : (a b : ℕ) → is_in_range 0x70 0x7d a ≡ true → eqb (b % 16) 0 ≡ true → b < 2 ^ 8 → Spells (a ∷ b ∷ []) (Device a (b / 16))
unfolding spelling
device-spelt a b is even h = ((range 0x70 0x7d a is, half-below b h), ap (λ n. a ∷ n ∷ []) (high_half b even))

query-spelt : (a b : ℕ) → (eqb a 0x7e && leb (b % 16) 5) ≡ true → b < 2 ^ 8 → Spells (a ∷ b ∷ []) (Query (b % 16) (b / 16))
unfolding spelling
query-spelt a b is h =
    let parts = and_parts (eqb a 0x7e) (leb (b % 16) 5) is in
    let code = eqb-true a 0x7e parts.0 in
    let second = halves b in
    ((leb-true (b % 16) 5 parts.1, half-below b h), cc)

-- three syllables
jump-spelt : (a b d : ℕ) → is_in_range 0x80 0xb1 a ≡ true → ltb ((2 ^ 8 * b + d) / 8192) 6 ≡ true → d < 2 ^ 8
    → Spells (a ∷ b ∷ d ∷ []) (Jump (a - 0x80) (2 ^ 8 * b + d))
unfolding spelling
jump-spelt a b d is near h =
    let code = range 0x80 0xb1 a is in
    let below = ltb-true ((2 ^ 8 * b + d) / 8192) 6 near in
    let first : 0x80 + (a - 0x80) ≡ a = omega arith in
    let second : (2 ^ 8 * b + d) / 2 ^ 8 ≡ b = omega arith in
    let third : (2 ^ 8 * b + d) % 2 ^ 8 ≡ d = omega arith in
    ((omega arith, omega arith), cc)

exit-spelt : (a b d : ℕ) → (eqb a 0xb2 && eqb b 0) ≡ true → d < 2 ^ 8 → Spells (a ∷ b ∷ d ∷ []) (Exit d)
unfolding spelling
exit-spelt a b d is h =
    let parts = and_parts (eqb a 0xb2) (eqb b 0) is in
    let first = eqb-true a 0xb2 parts.0 in
    let second = eqb-true b 0 parts.1 in
    (h, cc)

three : (n a b d : ℕ) → n ≡ 2 ^ 16 * a + 2 ^ 8 * b + d → b < 2 ^ 8 → d < 2 ^ 8 → three_bytes n ≡ a ∷ b ∷ d ∷ []
three n a b d e hb hd =
    let first : n / 2 ^ 16 ≡ a = omega arith in
    let second : n / 2 ^ 8 % 2 ^ 8 ≡ b = omega arith in
    let third : n % 2 ^ 8 ≡ d = omega arith in
    cc

bit : (n : ℕ) → n < 2 → from_bool (eqb n 1) ≡ n
bit n h = grind (arith, nat_tests)

direct-whole : (n : ℕ) → 0xc00000 ≤ n → n < 0xe00000 → 0xc00000 + n / 2 ^ 20 % 2 * 2 ^ 20 + n / 2 ^ 19 % 2 * 2 ^ 19 + n / 2 ^ 15 % 2 ^ 4 * 2 ^ 15 + n % 2 ^ 15
    ≡ n
direct-whole n low high = omega arith

direct-spelling : (n : ℕ) → 0xc00000 ≤ n → n < 0xe00000 → spelling (direct n) ≡ three_bytes n
unfolding spelling
direct-spelling n low high =
    rw (bit (n / 2 ^ 20 % 2) (omega arith), bit (n / 2 ^ 19 % 2) (omega arith)) (ap three_bytes (direct-whole n low high))

direct-spelt : (a b d : ℕ) → is_in_range 0xc0 0xdf a ≡ true → b < 2 ^ 8 → d < 2 ^ 8 → Spells (a ∷ b ∷ d ∷ []) (direct (2 ^ 16 * a + 2 ^ 8 * b + d))
direct-spelt a b d is hb hd =
    let code = range 0xc0 0xdf a is in
    let n = 2 ^ 16 * a + 2 ^ 8 * b + d in
    let whole = direct-spelling n (omega arith) (omega arith) in
    let bytes = three n a b d refl hb hd in
    ((omega arith, omega arith), cc)

set-spelt : (a b d : ℕ) → eqb a 0xe0 ≡ true → b < 2 ^ 8 → d < 2 ^ 8 → Spells (a ∷ b ∷ d ∷ []) (Set (2 ^ 8 * b + d))
unfolding spelling
set-spelt a b d is hb hd =
    let first = eqb-true a 0xe0 is in
    (omega arith, three (0xe00000 + (2 ^ 8 * b + d)) a b d (omega arith) hb hd)

shift-spelt : (a b : ℕ) (o : Order) → is_in_range 0x6a 0x6e a ≡ true → b < 2 ^ 8 → decoded_shift a b ≡ Some o → Spells (a ∷ b ∷ []) o
shift-spelt a b o is h =
    either (eqb (b % 2) 1) _ _ o (Spells (a ∷ b ∷ []))
    (λ odd. given _ o (Spells (a ∷ b ∷ [])) (fixed-spelt a b is odd h))
    (λ _. passed _ _ o (Spells (a ∷ b ∷ [])) (λ even. count-spelt a b is even h))

two-spelt : (a b : ℕ) (o : Order) → b < 2 ^ 8 → decoded_two a b ≡ Some o → Spells (a ∷ b ∷ []) o
two-spelt a b o h =
    let P = Spells (a ∷ b ∷ []) in
    either (is_in_range 0x40 0x4f a) _ _ o P (λ is. given _ o P (indirect-spelt a b is h))
    (λ _. either (is_in_range 0x50 0x62 a || eqb a 0x6f) _ _ o P (λ is. passed _ _ o P (λ even. single-spelt a b is even h))
    (λ _. either (is_in_range 0x63 0x69 a) _ _ o P (λ is. given _ o P (copies-spelt a b is h))
    (λ _. either (is_in_range 0x6a 0x6e a) _ _ o P (λ is. shift-spelt a b o is h)
    (λ _. either (is_in_range 0x70 0x7d a) _ _ o P (λ is. passed _ _ o P (λ even. device-spelt a b is even h))
    (λ _. passed _ _ o P (λ is. query-spelt a b is h))))))

jumps-spelt : (a b d : ℕ) (o : Order) → d < 2 ^ 8 → decoded_jump a b d ≡ Some o → Spells (a ∷ b ∷ d ∷ []) o
jumps-spelt a b d o h =
    let P = Spells (a ∷ b ∷ d ∷ []) in
    either (is_in_range 0x80 0xb1 a) _ _ o P (λ is. passed _ _ o P (λ near. jump-spelt a b d is near h))
    (λ _. passed _ _ o P (λ is. exit-spelt a b d is h))

stores-spelt : (a b d : ℕ) (o : Order) → b < 2 ^ 8 → d < 2 ^ 8 → decoded_store a b d ≡ Some o → Spells (a ∷ b ∷ d ∷ []) o
stores-spelt a b d o hb hd =
    let P = Spells (a ∷ b ∷ d ∷ []) in
    either (is_in_range 0xc0 0xdf a) _ _ o P (λ is. given _ o P (direct-spelt a b d is hb hd))
    (λ _. passed _ _ o P (λ is. set-spelt a b d is hb hd))

-- syllables are bytes
abbrev pub AreBytes : List ℕ → Type 0
AreBytes syllables = All (λ a. a < 2 ^ 8) syllables

-- an order that is decoded is legal, and is spelt as it was decoded from
pub decoded-spelt : (syllables : List ℕ) (o : Order) → AreBytes syllables → decoded syllables ≡ Some o → Spells syllables o
unfolding decoded
decoded-spelt [] o h e = cc
decoded-spelt (a ∷ []) o h e = passed (is_in_range 0x01 0x21 a && not (eqb a 0x13)) (Plain a) o (Spells (a ∷ [])) (plain-spelt a) e
decoded-spelt (a ∷ b ∷ []) o h e = two-spelt a b o (h 1 0 (omega arith)) e
decoded-spelt (a ∷ b ∷ d ∷ []) o h e =
    either (ltb a 0xc0) _ _ o (Spells (a ∷ b ∷ d ∷ []))
    (λ _. jumps-spelt a b d o (h 2 0 (omega arith)))
    (λ _. stores-spelt a b d o (h 1 0 (omega arith)) (h 2 0 (omega arith))) e
decoded-spelt (a ∷ b ∷ d ∷ x ∷ rest) o h e = cc
