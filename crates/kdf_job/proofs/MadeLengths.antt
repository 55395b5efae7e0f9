-- The bytes of a made job.
use Rattle.std.proofs.Common.{◌≡◌, ℕ, ◌+◌, ◌*◌, ◌<◌, ◌≤◌, List, [], ◌∷◌, ◌++◌, length, map, suc, zero, codes, decimal, refl, ap, ◌∙◌, arith, length-append}
use Rattle.std.proofs.lemmas.Fmt.{decimal_digit}
use Rattle.std.proofs.lemmas.List.FromFn.{length-map-range_with_len}
use Rattle.std.specs.List.{flat_map, range_with_len}
use Rattle.kdf_text.specs.Text.{text}
use Rattle.kdf_text.proofs.Texts.{text-append}
use Rattle.kdf_job.specs.Made.{letter, letters_from, made_deck, made_lines, made_round, made_rounds, made_slot, made_slots, made_text, reader_line}
use Rattle.kdf_job.specs.Made.{reader_lines, slot_with}

size-append : (xs ys : List (List ℕ)) → length (text (xs ++ ys)) ≡ length (text xs) + length (text ys)
size-append xs ys = ap length (text-append xs ys) ∙ length-append (text xs) (text ys)

size-cons : (l : List ℕ) (ls : List (List ℕ)) → length (text (l ∷ ls)) ≡ length l + 1 + length (text ls)
unfolding text
size-cons l ls = length-append (l ++ 10 ∷ []) (text ls) ∙ ap (λ (n : ℕ). n + length (text ls)) (length-append l (10 ∷ []))

size-nil : length (text []) ≡ 0
unfolding text
size-nil = refl

-- ---- a reader

length_letters : (n k : ℕ) → length (letters_from n k) ≡ 16
unfolding letters_from
length_letters n k = length-map-range_with_len (λ i. letter n (k + i)) 0 16

length_line : (n p j : ℕ) → length (reader_line n p j) ≡ 17
length_line n p j = let e = length_letters n (16 * (200 * p + j)) in length-append (codes "+") (letters_from n (16 * (200 * p + j))) ∙ omega arith

size_reader : (n p a c : ℕ) → length (text (map (reader_line n p) (range_with_len a c))) ≡ 18 * c
size_reader n p a zero = size-nil
size_reader n p a (suc c) =
    let one = size-cons (reader_line n p a) (map (reader_line n p) (range_with_len (a + 1) c)) in
    let line = length_line n p a in
    let rest = size_reader n p (a + 1) c in
    one ∙ omega arith

size_of_reader : (n p : ℕ) → length (text (reader_lines n p)) ≡ 3600
unfolding reader_lines
size_of_reader n p = size_reader n p 0 200

-- ---- a slot

slot_begin : List ℕ → List ℕ → List (List ℕ)
slot_begin p d =
    (codes "SLOT " ++ p) ∷ codes "STORE 96" ∷ codes "DECK" ∷ made_deck ++ codes "ENDDECK" ∷ (codes "DEVICE " ++ d ++ codes " TR") ∷ []

slot_end : List ℕ → List (List ℕ)
slot_end d = (codes "DEVICE " ++ d ++ codes " TP") ∷ codes "SHOW 12 12" ∷ []

size_begin : (p d : ℕ) → length (text (slot_begin (p ∷ []) (d ∷ []))) ≡ 219
unfolding slot_begin text
size_begin p d = refl

size_end : (d : ℕ) → length (text (slot_end (d ∷ []))) ≡ 23
unfolding slot_end text
size_end d = refl

slot_parts : (p : ℕ) (reader : List (List ℕ)) → slot_with p reader ≡ slot_begin (decimal p) (decimal (2 * p)) ++ reader ++ slot_end (decimal (2 * p + 1))
unfolding slot_with slot_begin slot_end
slot_parts p reader = refl

size_slot : (n p : ℕ) → p < 4 → length (text (made_slot n p)) ≡ 3842
size_slot n p small =
    let begin : length (text (slot_begin (decimal p) (decimal (2 * p)))) ≡ 219 =
    rw (decimal_digit p (omega arith), decimal_digit (2 * p) (omega arith)) (size_begin (48 + p) (48 + 2 * p)) in
    let last : length (text (slot_end (decimal (2 * p + 1)))) ≡ 23 = rw (decimal_digit (2 * p + 1) (omega arith)) (size_end (48 + (2 * p + 1))) in
    let reader = size_of_reader n p in
    let front = size-append (slot_begin (decimal p) (decimal (2 * p))) (reader_lines n p) in
    let all = size-append (slot_begin (decimal p) (decimal (2 * p)) ++ reader_lines n p) (slot_end (decimal (2 * p + 1))) in
    ap (λ (ls : List (List ℕ)). length (text ls)) (slot_parts p (reader_lines n p)) ∙ omega arith

size_slots : (n a c : ℕ) → a + c ≤ 4 → length (text (flat_map (made_slot n) (range_with_len a c))) ≡ 3842 * c
size_slots n a zero few = size-nil
size_slots n a (suc c) few =
    let one = size-append (made_slot n a) (flat_map (made_slot n) (range_with_len (a + 1) c)) in
    let slot = size_slot n a (omega arith) in
    let rest = size_slots n (a + 1) c (omega arith) in
    one ∙ omega arith

size_of_slots : (n : ℕ) → length (text (made_slots n)) ≡ 15368
unfolding made_slots
size_of_slots n = size_slots n 0 4 (omega arith)

-- ---- the schedule

size_ends : (a c : ℕ) → a + c ≤ 8 → length (text (map (λ d. codes "END " ++ decimal d) (range_with_len a c))) ≡ 6 * c
size_ends a zero few = size-nil
size_ends a (suc c) few =
    let one = size-cons (codes "END " ++ decimal a) (map (λ d. codes "END " ++ decimal d) (range_with_len (a + 1) c)) in
    let line : length (codes "END " ++ decimal a) ≡ 5 = rw (decimal_digit a (omega arith)) refl in
    let rest = size_ends (a + 1) c (omega arith) in
    one ∙ omega arith

size_round : length (text made_round) ≡ 58
unfolding made_round
size_round =
    let one = size-cons (codes "ORDERS 80") (map (λ d. codes "END " ++ decimal d) (range_with_len 0 8)) in
    let ends : length (text (map (λ d. codes "END " ++ decimal d) (range_with_len 0 8))) ≡ 48 = size_ends 0 8 (omega arith) in
    one ∙ ap (λ (k : ℕ). 10 + k) ends

size_rounds : (a c : ℕ) → length (text (flat_map (λ (round : ℕ). made_round) (range_with_len a c))) ≡ 58 * c
size_rounds a zero = size-nil
size_rounds a (suc c) =
    let one = size-append made_round (flat_map (λ (round : ℕ). made_round) (range_with_len (a + 1) c)) in
    let round = size_round in
    let rest = size_rounds (a + 1) c in
    one ∙ omega arith

size_of_rounds : length (text made_rounds) ≡ 23780
unfolding made_rounds
size_of_rounds = size_rounds 0 410

-- ---- all lines

pub made_bytes : (n : ℕ) → length (made_text n) ≡ 39175
unfolding made_lines
made_bytes n =
    let slots = size_of_slots n in
    let rounds = size_of_rounds in
    let first : length (text (codes "KDF9 JOB 1" ∷ made_slots n)) ≡ 11 + length (text (made_slots n)) = size-cons (codes "KDF9 JOB 1") (made_slots n) in
    let middle : length (text (codes "SCHEDULE" ∷ made_rounds)) ≡ 9 + length (text made_rounds) = size-cons (codes "SCHEDULE") made_rounds in
    let last : length (text (codes "ENDJOB" ∷ [])) ≡ 7 = size-cons (codes "ENDJOB") [] ∙ ap (λ (k : ℕ). 7 + k) size-nil in
    let front = size-append (codes "KDF9 JOB 1" ∷ made_slots n) (codes "SCHEDULE" ∷ made_rounds) in
    let all = size-append (codes "KDF9 JOB 1" ∷ made_slots n ++ codes "SCHEDULE" ∷ made_rounds) (codes "ENDJOB" ∷ []) in
    all ∙ omega arith
