-- From syllables that were read to the order that they spell.
use Rattle.std.proofs.Common.{◌≡◌, ◌≢◌, ℕ, ◌/◌, Bool, true, false, cond, [], ◌∷◌, take, ltb, refl, sym, ap, ◌∙◌, arith}
use Rattle.kdf_processor.specs.declared.fetch.Syllable.TheVariants.{Byte, Outside, Held}
use Rattle.kdf_syllable.specs.Spelling.{size_of_first}
use Rattle.kdf_decode.specs.Decoding.{decoded, first_decoded}
use Rattle.kdf_processor.specs.View.{View}
use Rattle.kdf_processor.specs.Needs.{group_of, syllable_at, count_at, order_at}
use Rattle.kdf_processor.specs.Table.{syllable_after}
use Rattle.kdf_processor.specs.Fetch.{syllable_read}

byte_cases : (inside out : Bool) (g x a : ℕ) → Byte a ≡ cond inside (cond out (Held g) (Byte x)) Outside → (inside ≡ true) × (x ≡ a)
byte_cases true false g x a e = (refl, cc)
byte_cases true true g x a e = cc
byte_cases false out g x a e = cc

-- a byte that was read is in the store
pub byte_is : (v : View) (n a : ℕ) → Byte a ≡ syllable_read v n → (ltb (n / 6) v.claims.size ≡ true) × (syllable_at v.word n ≡ a)
byte_is v n a e =
    byte_cases (ltb (n / 6) v.claims.size) (v.is_out (group_of (n / 6))) (group_of (n / 6)) (syllable_at v.word n) a e

-- how many syllables there are, by the first that was read
count_is : (v : View) (n a k : ℕ) → Byte a ≡ syllable_read v n → size_of_first a ≡ k → count_at v.claims.size v.word n ≡ k
count_is v n a k p s =
    let first = byte_is v n a p in
    ap (λ b. cond b (size_of_first (syllable_at v.word n)) 1) first.0 ∙ ap size_of_first first.1 ∙ s

-- the order is that of its syllables, whatever stands after them
pub by_size : (a b c k : ℕ) → size_of_first a ≡ k → decoded (take k (a ∷ b ∷ c ∷ [])) ≡ first_decoded (a ∷ b ∷ c ∷ [])
by_size a b c k s = ap (λ n. decoded (take n (a ∷ b ∷ c ∷ []))) (sym s)

pub order_of_one : (v : View) (n a : ℕ) → Byte a ≡ syllable_read v n → size_of_first a ≡ 1 → order_at v.claims.size v.word n ≡ first_decoded (a ∷ 0 ∷ 0 ∷ [])
order_of_one v n a p s =
    let first = byte_is v n a p in
    rw (count_is v n a 1 p s, first.0, first.1) (by_size a 0 0 1 s)

pub order_of_two : (v : View) (n a b : ℕ) → Byte a ≡ syllable_read v n → Byte b ≡ syllable_read v (syllable_after n 1) → size_of_first a ≡ 2
    → order_at v.claims.size v.word n ≡ first_decoded (a ∷ b ∷ 0 ∷ [])
order_of_two v n a b p q s =
    let first = byte_is v n a p in
    let second = byte_is v (syllable_after n 1) b q in
    rw (count_is v n a 2 p s, first.0, second.0, first.1, second.1) (by_size a b 0 2 s)

pub order_of_three : (v : View) (n a b c : ℕ) → Byte a ≡ syllable_read v n → Byte b ≡ syllable_read v (syllable_after n 1)
    → Byte c ≡ syllable_read v (syllable_after (syllable_after n 1) 1)
    → size_of_first a ≡ 3 → order_at v.claims.size v.word n ≡ first_decoded (a ∷ b ∷ c ∷ [])
order_of_three v n a b c p q r s =
    let first = byte_is v n a p in
    let second = byte_is v (syllable_after n 1) b q in
    let third = byte_is v (syllable_after (syllable_after n 1) 1) c r in
    rw (count_is v n a 3 p s, first.0, second.0, third.0, first.1, second.1, third.1) (by_size a b c 3 s)

-- a size that is neither 1 nor 2 is 3
pub size_of_three : (a s : ℕ) → s ≡ size_of_first a → s ≢ 1 → s ≢ 2 → size_of_first a ≡ 3
size_of_three a s e one two = grind arith
