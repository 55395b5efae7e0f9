-- Words of a medium from a place on, and of a card.
use Rattle.std.proofs.Common.{◌≡◌, ℕ, zero, suc, ◌+◌, ◌-◌, ◌*◌, ◌<◌, ◌≤◌, List, [], ◌∷◌, ◌++◌, Some, None, length, take, drop, replicate, arith, ap, ◌∙◌, sym}
use Rattle.std.proofs.Common.{length-take, length-append, refl, get_or}
use Rattle.std.specs.List.{slice_get}
use Rattle.std.proofs.lemmas.Option.{none-some, slice_get-get_or, slice_get_past, get_or_from_slice_get}
use Rattle.std.proofs.lemmas.List.{append-nil, length-replicate, get_or-take, get_or_past, drop-append-le, drop_at, drop-drop, drop-replicate}
use Rattle.kdf_word.specs.Characters.{first_word, words_of}
use Rattle.kdf_media.specs.Media.{card_of, card_words}
use Rattle.kdf_word.proofs.Packing.{length-words_of, get_or-words_of, word_from}

-- a card has 80 characters, and one that has them is that card
pub length_card : (codes : List ℕ) → length codes ≤ 80 → length (card_of codes) ≡ 80
length_card codes short =
    let spaces : List ℕ = replicate (80 - length codes) 0 in
    let many : length spaces ≡ 80 - length codes = length-replicate (80 - length codes) 0 in
    omega (arith, length-append codes spaces, many, short)

pub whole_card : (codes : List ℕ) → length codes ≡ 80 → card_of codes ≡ codes
whole_card codes eighty =
    let none : 80 - length codes ≡ 0 = omega (arith, eighty) in
    ap (λ n. codes ++ replicate n 0) none ∙ append-nil codes

-- spaces behind characters are as none
get_or-spaces : (codes : List ℕ) (n k : ℕ) → get_or (codes ++ replicate n 0) k 0 ≡ get_or codes k 0
get_or-spaces [] zero k = refl
get_or-spaces [] (suc n) zero = refl
get_or-spaces [] (suc n) (suc k) = get_or-spaces [] n k
get_or-spaces (c ∷ codes) n zero = refl
get_or-spaces (c ∷ codes) n (suc k) = get_or-spaces codes n k

first_word-spaces : (codes : List ℕ) (n : ℕ) → first_word (codes ++ replicate n 0) ≡ first_word codes
unfolding first_word
first_word-spaces codes n =
    let e = get_or-spaces codes n in
    let e0 = e 0 in
    let e1 = e 1 in
    let e2 = e 2 in
    let e3 = e 3 in
    let e4 = e 4 in
    let e5 = e 5 in
    let e6 = e 6 in
    let e7 = e 7 in
    cc

no_word : first_word [] ≡ 0
unfolding first_word
no_word = refl

word_of_ten : (card : List ℕ) (i : ℕ) → length card ≡ 80 → 8 * i < 80 → slice_get (take 10 (words_of card)) i ≡ Some (first_word (drop (8 * i) card))
word_of_ten card i eighty h =
    let words = length-words_of card in
    let ten : length (words_of card) ≡ 10 = omega (arith, words, eighty) in
    let inside : i < length (take 10 (words_of card)) = omega (arith, length-take 10 (words_of card), ten) in
    let within : i < 10 = omega arith in
    slice_get-get_or (take 10 (words_of card)) i 0 inside
    ∙ ap Some (get_or-take 10 (words_of card) i 0 within ∙ get_or-words_of card i 0 (omega (arith, eighty)))

-- a word of a card within its characters, behind them, and past the ten
pub card_within : (codes : List ℕ) (i : ℕ) → length codes ≤ 80 → 8 * i < length codes
    → slice_get (take 10 (words_of (card_of codes))) i ≡ Some (first_word (drop (8 * i) codes))
card_within codes i short h =
    let n : ℕ = 80 - length codes in
    word_of_ten (card_of codes) i (length_card codes short) (omega arith) ∙
    ap (λ xs. Some (first_word xs)) (drop-append-le (8 * i) codes (replicate n 0) (omega arith)) ∙ ap Some (first_word-spaces (drop (8 * i) codes) n)

pub card_behind : (codes : List ℕ) (i : ℕ) → length codes ≤ 80 → length codes ≤ 8 * i → i < 10 → slice_get (take 10 (words_of (card_of codes))) i ≡ Some 0
card_behind codes i short behind h =
    let n : ℕ = 80 - length codes in
    let k : ℕ = 8 * i - length codes in
    let on : length codes + k ≡ 8 * i = omega arith in
    let spaces : drop (8 * i) (card_of codes) ≡ replicate (n - k) 0 =
    ap (λ m. drop m (card_of codes)) (sym on) ∙ sym (drop-drop k (length codes) (card_of codes)) ∙
    ap (drop k) (drop_at codes (replicate n 0) (length codes) refl) ∙ drop-replicate {X = ℕ} k n 0 in
    word_of_ten (card_of codes) i (length_card codes short) (omega arith) ∙ ap (λ xs. Some (first_word xs)) spaces
    ∙ ap Some (first_word-spaces [] (n - k) ∙ no_word)

pub card_past : (card : List ℕ) (i : ℕ) → 10 ≤ i → slice_get (take 10 (words_of card)) i ≡ None
card_past card i h =
    let few : length (take 10 (words_of card)) ≤ i = omega (arith, length-take 10 (words_of card)) in
    slice_get_past (take 10 (words_of card)) i few

-- the card at a place, and where there is none
pub card_there : (cards : List (List ℕ)) (place : ℕ) (card : List ℕ) → slice_get cards place ≡ Some card → card_words place cards ≡ take 10 (words_of card)
card_there cards place card h = ap (λ c. take 10 (words_of c)) (get_or_from_slice_get cards place card [] h)

get_or_absent : (cards : List (List ℕ)) (place : ℕ) → slice_get cards place ≡ None → get_or cards place [] ≡ []
get_or_absent [] place h = get_or_past [] place [] (omega arith)
get_or_absent (card ∷ cards) zero h = absurd (none-some card (sym h))
get_or_absent (card ∷ cards) (suc place) h = get_or_absent cards place h

pub card_absent : (cards : List (List ℕ)) (place i : ℕ) → slice_get cards place ≡ None → slice_get (card_words place cards) i ≡ None
card_absent cards place i h =
    let none : get_or cards place [] ≡ [] = get_or_absent cards place h in
    ap (λ c. slice_get (take 10 (words_of c)) i) none
    ∙ slice_get_past (take 10 (words_of [])) i (omega (arith, length-take 10 (words_of []), length-words_of []))

-- the word at a place of a medium
pub word_there : (codes : List ℕ) (from i : ℕ) → from + 8 * i < length codes
    → slice_get (words_of (drop from codes)) i ≡ Some (first_word (drop (from + 8 * i) codes))
word_there codes from i h = word_from codes from i (from + 8 * i) refl h
