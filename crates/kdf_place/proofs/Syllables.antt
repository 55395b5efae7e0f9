-- The syllables of a list of words.
use Rattle.std.proofs.Common.{◌≡◌, ℕ, zero, suc, ◌+◌, ◌-◌, ◌*◌, ◌/◌, ◌%◌, ◌^◌, ◌<◌, true, false, List, [], ◌∷◌, ◌++◌, length, get_or, replicate, inl, inr, refl}
use Rattle.std.proofs.Common.{sym, ap, ◌∙◌, lit<, arith}
use Rattle.std.proofs.lemmas.Bool.{cases_lt}
use Rattle.std.proofs.lemmas.Bool.Decides.{nat_tests}
use Rattle.std.proofs.lemmas.List.{get_or_append_left, get_or-append_right, get_or-append-add}
use Rattle.kdf_syllable.specs.declared.order.Order.TheVariants as orders
use Rattle.kdf_syllable.specs.Spelling.{spelling}
use Rattle.kdf_syllable.proofs.Bytes.{spelling-below}
use Rattle.kdf_syllable.proofs.Digits.{syllable-packed}
use Rattle.kdf_usercode.specs.declared.statement.Statement.{Statement}
use Rattle.kdf_usercode.specs.declared.statement.What.{What}
use Rattle.kdf_usercode.specs.declared.statement.What.TheVariants.{Program, Part, Star, Plain, Fetch, Keep, Go, Short, SetAddress}
use Rattle.kdf_usercode.specs.WellFormed.{IsWhat, AreInRange}
use Rattle.kdf_place.specs.declared.here.Here.{Here}
use Rattle.kdf_place.specs.declared.here.Section.{Section}
use Rattle.kdf_place.specs.Layout.{round_up, stores, after}
use Rattle.kdf_place.specs.Names.{Names, store_address, syllable_of, first_order}
use Rattle.kdf_place.specs.Placement.{number, syllable_number, jump_target, order_of, spelt, filling, syllables_of, syllables, words_of, first_word, start_of}
use Rattle.kdf_place.specs.Stands.{syllable_at}

-- each of the numbers is a byte
abbrev pub AreBytes : List ℕ → Type 0
AreBytes xs = (k : ℕ) → get_or xs k 0 < 256

none-bytes : AreBytes []
none-bytes k = lit< tt

bytes-append : (xs ys : List ℕ) → AreBytes xs → AreBytes ys → AreBytes (xs ++ ys)
bytes-append [] ys xs_are ys_are k = ys_are k
bytes-append (x ∷ xs) ys xs_are ys_are zero = xs_are 0
bytes-append (x ∷ xs) ys xs_are ys_are (suc k) = bytes-append xs ys (λ j. xs_are (suc j)) ys_are k

bytes-front : (xs ys : List ℕ) → AreBytes (xs ++ ys) → AreBytes xs
bytes-front [] ys are k = lit< tt
bytes-front (x ∷ xs) ys are zero = are 0
bytes-front (x ∷ xs) ys are (suc k) = bytes-front xs ys (λ j. are (suc j)) k

bytes-behind : (xs ys : List ℕ) → AreBytes (xs ++ ys) → AreBytes ys
bytes-behind [] ys are = are
bytes-behind (x ∷ xs) ys are = bytes-behind xs ys (λ j. are (suc j))

bytes-replicate : (n b : ℕ) → b < 256 → AreBytes (replicate n b)
bytes-replicate zero b low k = lit< tt
bytes-replicate (suc n) b low zero = low
bytes-replicate (suc n) b low (suc k) = bytes-replicate n b low k

syllable_number-below : (at : ℕ) → syllable_number at < 6 * 8192
syllable_number-below at = grind (arith, nat_tests)

target-below : (at : ℕ) → at < 6 * 8192 → jump_target at < 6 * 8192
target-below at low = omega arith

target_of-below : (at : ℕ) → jump_target (syllable_number at) < 6 * 8192
target_of-below at = target-below (syllable_number at) (syllable_number-below at)

bytes-spelt : (names : Names) (section : Section) (what : What) → IsWhat what → AreBytes (spelt (order_of names section what))
bytes-spelt names section (Plain order) is = spelling-below order is.0
bytes-spelt names section (Fetch place q u) is =
    let a = number (store_address names section place) % 2 ^ 15 in
    spelling-below (orders.Direct false u q a) (is.1, omega arith)
bytes-spelt names section (Keep place q u) is =
    let a = number (store_address names section place) % 2 ^ 15 in
    spelling-below (orders.Direct true u q a) (is.1, omega arith)
bytes-spelt names section (SetAddress place) is = spelling-below (orders.Set (number (store_address names section place) % 2 ^ 16)) (omega arith)
bytes-spelt names section (Go c target) is =
    let at = number (syllable_of names section target) in
    spelling-below (orders.Jump c (jump_target (syllable_number at))) (is.0, target_of-below at)
bytes-spelt names section (Short r q) is = spelling-below (orders.Single 0x6f q) (inr refl, is.1)
bytes-spelt names section what is = none-bytes

bytes-filling : (at : ℕ) → AreBytes (filling at)
bytes-filling at = bytes-replicate (round_up at - at) 1 (lit< tt)

bytes-opening : (at n : ℕ) → AreBytes (filling at ++ replicate n 0)
bytes-opening at n = bytes-append (filling at) (replicate n 0) (bytes-filling at) (bytes-replicate n 0 (lit< tt))

bytes-statement : (names : Names) (here : Here) (what : What) → IsWhat what → AreBytes (syllables_of names here what)
bytes-statement names here Star is = bytes-filling here.at
bytes-statement names here (Program v) is = bytes-opening here.at (6 * stores v)
bytes-statement names here (Part p v) is = bytes-opening here.at (6 * stores v)
bytes-statement names here what is = bytes-spelt names here.section what is

bytes-syllables : (names : Names) (here : Here) (ss : List Statement) → AreInRange ss → AreBytes (syllables names here ss)
bytes-syllables names here [] are = bytes-filling here.at
bytes-syllables names here (s ∷ ss) are =
    bytes-append (syllables_of names here s.what) (syllables names (after here s) ss) (bytes-statement names here s.what are.0)
    (bytes-syllables names (after here s) ss are.1)

bytes-jump : (target : ℕ) → target < 6 * 8192 → AreBytes (spelling (orders.Jump 0x20 target))
bytes-jump target low = spelling-below (orders.Jump 0x20 target) (omega arith, low)

-- all syllables of a deck are bytes
pub bytes-all : (names : Names) (here : Here) (ss : List Statement) → AreInRange ss → AreBytes (first_word names ++ syllables names here ss)
bytes-all names here ss are =
    let jump = spelling (orders.Jump 0x20 (jump_target (start_of names))) in
    bytes-append (first_word names) (syllables names here ss)
    (bytes-append jump (replicate 3 1) (bytes-jump (jump_target (start_of names)) (target_of-below (number (first_order names 0))))
    (bytes-replicate 3 1 (lit< tt)))
    (bytes-syllables names here ss are)

-- the syllables of words are those of which they were made
pub syllable-words_of : (xs : List ℕ) (k : ℕ) → AreBytes xs → k / 6 < length (words_of xs) → syllable_at (words_of xs) k ≡ get_or xs k 0
syllable-words_of [] k are lt = absurd (omega arith)
syllable-words_of (a ∷ []) k are lt = absurd (omega arith)
syllable-words_of (a ∷ b ∷ []) k are lt = absurd (omega arith)
syllable-words_of (a ∷ b ∷ c ∷ []) k are lt = absurd (omega arith)
syllable-words_of (a ∷ b ∷ c ∷ d ∷ []) k are lt = absurd (omega arith)
syllable-words_of (a ∷ b ∷ c ∷ d ∷ e ∷ []) k are lt = absurd (omega arith)
syllable-words_of (a ∷ b ∷ c ∷ d ∷ e ∷ f ∷ rest) k are lt =
    let six : List ℕ = a ∷ b ∷ c ∷ d ∷ e ∷ f ∷ [] in
    elim (cases_lt k 6) [
      | inl low ↦
          let q : k / 6 ≡ 0 = omega arith in
          let m : k % 6 ≡ k = omega arith in
          rw (q, m) (syllable-packed six refl (bytes-front six rest are) k low ∙ sym (get_or_append_left six rest 0 k low))
      | inr high ↦
          let q : k / 6 ≡ suc ((k - 6) / 6) = omega arith in
          let m : k % 6 ≡ (k - 6) % 6 = omega arith in
          let more : (k - 6) / 6 < length (words_of rest) = omega arith in
          rw (q, m) (syllable-words_of rest (k - 6) (bytes-behind six rest are) more ∙ sym (get_or-append_right six rest 6 k 0 refl high))
    ]

-- the element of a piece of a list
pub get_or-middle : (all front mid back : List ℕ) (at k j : ℕ) → all ≡ front ++ (mid ++ back) → length front ≡ at → k ≡ at + j → j < length mid
    → get_or all k 0 ≡ get_or mid j 0
get_or-middle all front mid back at k j e len is lt =
    ap (λ (xs : List ℕ). get_or xs k 0) e
    ∙ ap (λ (i : ℕ). get_or (front ++ (mid ++ back)) i 0) (is ∙ ap (λ (n : ℕ). n + j) (sym len))
    ∙ get_or-append-add front (mid ++ back) j 0
    ∙ get_or_append_left mid back 0 j lt
