-- The words of a text up to its End Message, found word by word: the word that has the first one is filled up after it.
use Rattle.std.proofs.Common.{◌≡◌, ℕ, zero, suc, ◌+◌, ◌-◌, ◌*◌, ◌/◌, ◌<◌, ◌≤◌, true, false, cond, eqb, List, [], ◌∷◌, ◌++◌, length, take, drop, get_or}
use Rattle.std.proofs.Common.{replicate, arith, refl, sym, ap, subst, ◌∙◌, ⊎_elim, length-drop, length-take, length-append}
use Rattle.std.specs.Prelude.{◌||◌}
use Rattle.std.specs.List.{All}
use Rattle.std.proofs.lemmas.Bool.{cases_Bool, cases_lt}
use Rattle.std.proofs.lemmas.List.{append-nil, drop-drop, drop_all, drop_at, ext_get_or, get_or_append_left, get_or-append_right, length-replicate}
use Rattle.std.proofs.lemmas.List.{length-take-le, nil_from_length, take-append-drop, take_all}
use Rattle.std.proofs.lemmas.List.Elements.{All-drop}
use Rattle.kdf_word.specs.Characters.{codes_of, first_word, words_of}
use Rattle.kdf_word.proofs.Packing.{codes_of-first_word, get_or-words_of, length-words_of}
use Rattle.kdf_media.specs.Media.{has_end, through_end}
use Rattle.kdf_media.proofs.Ends.{through_end_within, through_end_some}
use Rattle.kdf_media.proofs.Whole.{through_end-behind, through_end-front}

-- words up to the first with an End Message, filled up after it
abbrev pub ended_words : List ℕ → List ℕ
ended_words [] = []
ended_words (w ∷ words) = cond (has_end (codes_of w)) (first_word (through_end (codes_of w)) ∷ []) (w ∷ ended_words words)

-- the words of codes are the word of the first eight and those of the rest
word_at : (codes : List ℕ) (i : ℕ) → i < (length codes + 7) / 8 → get_or (words_of codes) i 0 ≡ get_or (first_word codes ∷ words_of (drop 8 codes)) i 0
word_at codes zero h = get_or-words_of codes zero 0 h
word_at codes (suc i) h =
    let d = length-drop 8 codes in
    let e : 8 * suc i ≡ 8 + 8 * i = omega arith in
    get_or-words_of codes (suc i) 0 h ∙ ap first_word (ap (λ n. drop n codes) e ∙ sym (drop-drop (8 * i) 8 codes)) ∙
    sym (get_or-words_of (drop 8 codes) i 0 (omega (arith, d, h)))

pub words_of-cons : (codes : List ℕ) → 0 < length codes → words_of codes ≡ first_word codes ∷ words_of (drop 8 codes)
words_of-cons codes some =
    let l = length-words_of codes in
    let m = length-words_of (drop 8 codes) in
    let d = length-drop 8 codes in
    let many : length (words_of codes) ≡ length (first_word codes ∷ words_of (drop 8 codes)) = omega (arith, l, m, d, some) in
    ext_get_or 0 (words_of codes) (first_word codes ∷ words_of (drop 8 codes)) many (λ i h. word_at codes i (omega (arith, l, h)))

-- code 0 after some codes is what a word is filled up with
abbrev blanks : ℕ → List ℕ
blanks n = replicate n 0

length-blanks : (n : ℕ) → length (blanks n) ≡ n
length-blanks n = length-replicate {A = ℕ} n 0

zeros : (n k : ℕ) → get_or (blanks n) k 0 ≡ 0
zeros zero k = refl
zeros (suc n) zero = refl
zeros (suc n) (suc k) = zeros n k

get_or-padded : (codes : List ℕ) (n k : ℕ) → get_or (codes ++ blanks n) k 0 ≡ get_or codes k 0
get_or-padded [] n k = zeros n k
get_or-padded (c ∷ codes) n zero = refl
get_or-padded (c ∷ codes) n (suc k) = get_or-padded codes n k

first_word-padded : (codes : List ℕ) (n : ℕ) → first_word (codes ++ blanks n) ≡ first_word codes
unfolding first_word
first_word-padded codes n =
    let e0 = get_or-padded codes n 0 in
    let e1 = get_or-padded codes n 1 in
    let e2 = get_or-padded codes n 2 in
    let e3 = get_or-padded codes n 3 in
    let e4 = get_or-padded codes n 4 in
    let e5 = get_or-padded codes n 5 in
    let e6 = get_or-padded codes n 6 in
    let e7 = get_or-padded codes n 7 in
    cc

-- a word sees no more than eight codes
first_word-front : (front xs ys : List ℕ) → length front ≡ 8 → first_word (front ++ xs) ≡ first_word (front ++ ys)
unfolding first_word
first_word-front front xs ys eight =
    let at : (k : ℕ) → k < 8 → get_or (front ++ xs) k 0 ≡ get_or (front ++ ys) k 0 =
    λ k lt. get_or_append_left front xs 0 k (omega (arith, eight, lt)) ∙ sym (get_or_append_left front ys 0 k (omega (arith, eight, lt))) in
    let e0 = at 0 (omega arith) in
    let e1 = at 1 (omega arith) in
    let e2 = at 2 (omega arith) in
    let e3 = at 3 (omega arith) in
    let e4 = at 4 (omega arith) in
    let e5 = at 5 (omega arith) in
    let e6 = at 6 (omega arith) in
    let e7 = at 7 (omega arith) in
    cc

zero_small : (n k d : ℕ) → k < n → get_or (blanks n) k d < 64
zero_small zero k d lt = absurd (omega arith)
zero_small (suc n) zero d lt = omega arith
zero_small (suc n) (suc k) d lt = zero_small n k d (omega arith)

small_at : (codes : List ℕ) (n k d : ℕ) → All (λ c. c < 64) codes → k < length (codes ++ blanks n) → get_or (codes ++ blanks n) k d < 64
small_at codes n k d small lt =
    let r = length-blanks n in
    let l = length-append codes (blanks n) in
    ⊎_elim
    (λ inside. let F : ℕ → Type 0 = λ c. c < 64 in subst F (sym (get_or_append_left codes (blanks n) d k inside)) (small k d inside))
    (λ behind.
    let F : ℕ → Type 0 = λ c. c < 64 in
    subst F (sym (get_or-append_right codes (blanks n) (length codes) k d refl behind)) (zero_small n (k - length codes) d (omega (arith, r, l, lt, behind))))
    (cases_lt k (length codes))

zeros_small : (codes : List ℕ) (n : ℕ) → All (λ c. c < 64) codes → All (λ c. c < 64) (codes ++ blanks n)
zeros_small codes n small k d lt = small_at codes n k d small lt

-- the codes of a word that is filled up
codes_of_short : (codes : List ℕ) → All (λ c. c < 64) codes → length codes < 8 → codes_of (first_word codes) ≡ codes ++ blanks (8 - length codes)
codes_of_short codes small lt =
    let n = 8 - length codes in
    let r = length-blanks n in
    let l = length-append codes (blanks n) in
    let eight : length (codes ++ blanks n) ≡ 8 = omega (arith, r, l, lt) in
    ap codes_of (sym (first_word-padded codes n)) ∙ codes_of-first_word (codes ++ blanks n) (zeros_small codes n small) (omega (arith, eight)) ∙
    take_all 8 (codes ++ blanks n) (omega (arith, eight))

no_end_in_zeros : (n : ℕ) → has_end (blanks n) ≡ false
no_end_in_zeros zero = refl
no_end_in_zeros (suc n) = no_end_in_zeros n

has_end-padded : (codes : List ℕ) (n : ℕ) → has_end (codes ++ blanks n) ≡ has_end codes
has_end-padded [] n = no_end_in_zeros n
has_end-padded (c ∷ codes) n = ap (λ b. eqb c 61 || b) (has_end-padded codes n)

-- what the first word tells of the first eight codes
has_end-first : (codes : List ℕ) → All (λ c. c < 64) codes → has_end (codes_of (first_word codes)) ≡ has_end (take 8 codes)
has_end-first codes small =
    ⊎_elim
    (λ short.
    ap has_end (codes_of_short codes small short) ∙ has_end-padded codes (8 - length codes) ∙
    ap has_end (sym (take_all 8 codes (omega (arith, short)))))
    (λ long. ap has_end (codes_of-first_word codes small long))
    (cases_lt (length codes) 8)

through_end-first : (codes : List ℕ) → All (λ c. c < 64) codes → has_end (take 8 codes) ≡ true
    → through_end (codes_of (first_word codes)) ≡ through_end (take 8 codes)
through_end-first codes small ends =
    ⊎_elim
    (λ short.
    let all : take 8 codes ≡ codes = take_all 8 codes (omega (arith, short)) in
    ap through_end (codes_of_short codes small short) ∙
    through_end-front codes (blanks (8 - length codes)) (ap has_end (sym all) ∙ ends) ∙ ap through_end (sym all))
    (λ long. ap through_end (codes_of-first_word codes small long))
    (cases_lt (length codes) 8)

nothing : words_of (through_end []) ≡ ended_words (words_of [])
unfolding words_of
nothing = refl

no_words : (codes : List ℕ) → length codes ≤ 0 → words_of codes ≡ []
unfolding words_of
no_words codes none = let e : codes ≡ [] = nil_from_length codes (omega (arith, none)) in ap words_of e

-- the End Message is among the first eight codes
ends_here : (codes : List ℕ) → All (λ c. c < 64) codes → 0 < length codes → has_end (take 8 codes) ≡ true
    → words_of (through_end codes) ≡ ended_words (words_of codes)
ends_here codes small some ends =
    let front = take 8 codes in
    let stop = through_end front in
    let is : through_end codes ≡ stop = ap through_end (sym (take-append-drop 8 codes)) ∙ through_end-front front (drop 8 codes) ends in
    let most : length stop ≤ 8 = omega (arith, through_end_within front, length-take 8 codes) in
    let left : length (drop 8 stop) ≤ 0 = omega (arith, length-drop 8 stop, most) in
    let first : has_end (codes_of (first_word codes)) ≡ true = has_end-first codes small ∙ ends in
    ap words_of is ∙ words_of-cons stop (through_end_some front ends) ∙ ap (λ ws. first_word stop ∷ ws) (no_words (drop 8 stop) left) ∙
    ap (λ xs. first_word xs ∷ []) (sym (through_end-first codes small ends)) ∙
    sym (ap (λ b. cond b (first_word (through_end (codes_of (first_word codes))) ∷ []) (first_word codes ∷ ended_words (words_of (drop 8 codes)))) first) ∙
    sym (ap ended_words (words_of-cons codes some))

-- what begins with the first eight codes, or with all where there are fewer, has the same first word
front_and_rest : (codes : List ℕ) → 0 < length codes
    → words_of (take 8 codes ++ through_end (drop 8 codes)) ≡ first_word codes ∷ words_of (through_end (drop 8 codes))
front_and_rest codes some =
    let front = take 8 codes in
    let later = through_end (drop 8 codes) in
    ⊎_elim
    (λ short.
    let all : front ≡ codes = take_all 8 codes (omega (arith, short)) in
    let none : drop 8 codes ≡ [] = drop_all 8 codes (omega (arith, short)) in
    let ended : later ≡ [] = ap through_end none in
    ap words_of (ap (λ xs. front ++ xs) ended ∙ append-nil front ∙ all) ∙ words_of-cons codes some ∙
    ap (λ xs. first_word codes ∷ words_of xs) (none ∙ sym ended))
    (λ long.
    let eight : length front ≡ 8 = length-take-le 8 codes long in
    let l = length-append front later in
    words_of-cons (front ++ later) (omega (arith, l, eight)) ∙
    ap (λ w. w ∷ words_of (drop 8 (front ++ later))) (first_word-front front later (drop 8 codes) eight ∙ ap first_word (take-append-drop 8 codes)) ∙
    ap (λ xs. first_word codes ∷ words_of xs) (drop_at front later 8 eight))
    (cases_lt (length codes) 8)

-- it comes later, or not at all
goes_on : (codes : List ℕ) → All (λ c. c < 64) codes → 0 < length codes → has_end (take 8 codes) ≡ false
    → words_of (through_end (drop 8 codes)) ≡ ended_words (words_of (drop 8 codes)) → words_of (through_end codes) ≡ ended_words (words_of codes)
goes_on codes small some none rest =
    let front = take 8 codes in
    let later = through_end (drop 8 codes) in
    let is : through_end codes ≡ front ++ later = ap through_end (sym (take-append-drop 8 codes)) ∙ through_end-behind front (drop 8 codes) none in
    let first : has_end (codes_of (first_word codes)) ≡ false = has_end-first codes small ∙ none in
    let one : words_of (front ++ later) ≡ first_word codes ∷ words_of later = front_and_rest codes some in
    ap words_of is ∙ one ∙ ap (λ ws. first_word codes ∷ ws) rest ∙
    sym (ap (λ b. cond b (first_word (through_end (codes_of (first_word codes))) ∷ []) (first_word codes ∷ ended_words (words_of (drop 8 codes)))) first) ∙
    sym (ap ended_words (words_of-cons codes some))

by_words : (n : ℕ) (codes : List ℕ) → length codes ≤ 8 * n → All (λ c. c < 64) codes → words_of (through_end codes) ≡ ended_words (words_of codes)
by_words zero codes le small =
    let e : codes ≡ [] = nil_from_length codes (omega arith) in
    let F : List ℕ → Type 0 = λ xs. words_of (through_end xs) ≡ ended_words (words_of xs) in
    subst F (sym e) nothing
by_words (suc n) codes le small =
    ⊎_elim
    (λ some.
    ⊎_elim
    (λ yes. ends_here codes small some yes)
    (λ none. goes_on codes small some none (by_words n (drop 8 codes) (omega (arith, length-drop 8 codes, le)) (All-drop (λ c. c < 64) 8 codes small)))
    (cases_Bool (has_end (take 8 codes))))
    (λ empty.
    let e : codes ≡ [] = nil_from_length codes (omega (arith, empty)) in
    let F : List ℕ → Type 0 = λ xs. words_of (through_end xs) ≡ ended_words (words_of xs) in
    subst F (sym e) nothing)
    (cases_lt 0 (length codes))
