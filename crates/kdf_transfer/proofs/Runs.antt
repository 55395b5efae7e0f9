-- Words that move in one run.
use Rattle.std.proofs.Common.{◌≡◌, ℕ, zero, suc, ◌+◌, ◌-◌, ◌*◌, ◌/◌, ◌%◌, ◌<◌, ◌≤◌, ◌++◌, min, Bool, true, false, List, [], ◌∷◌, length, get_or, take, drop}
use Rattle.std.proofs.Common.{map, replicate, Option, Some, None, is_some, cond, refl, sym, ap, ap₂, ◌∙◌, ⊎_elim, arith, append_assoc, length-append}
use Rattle.std.proofs.Common.{length-take, length-drop}
use Rattle.std.specs.Prelude.{◌||◌, reverse}
use Rattle.std.specs.List.{range_with_len}
use Rattle.std.specs.Option.{option_map}
use Rattle.std.proofs.lemmas.Bool.{cases_Bool, cases_lt}
use Rattle.std.proofs.lemmas.List.{drop-drop, drop_all, ext_get_or, get_or-drop, get_or-reverse, get_or-take, length-reverse, take_all, take_at, take_min}
use Rattle.std.proofs.lemmas.List.FromFn.{length-map-range_with_len, get_or-map-range_with_len}
use Rattle.kdf_word.specs.Characters.{codes_of, codes_of_all, first_word, words_of}
use Rattle.kdf_word.proofs.Packing.{get_or-words_of, length-words_of}
use Rattle.kdf_lockout.specs.Groups.{Lent, lent_word, with_lent_word, with_lent_words}
use Rattle.kdf_media.specs.Media.{through_end_word}
use Rattle.kdf_transfer.specs.declared.order.TransferOrder.{TransferOrder}
use Rattle.kdf_transfer.specs.Devices.{Fixture, DeviceProgress}
use Rattle.kdf_transfer.specs.AtOnce.{at_addresses, down_addresses, area_len, filled, given, has_area, is_backward, is_input, is_output, stopped, stops_at_end}
use Rattle.kdf_transfer.specs.InFlight.{Motion, all_words, lease_by, lent_at, moved_by, moves_of, put_words, total_of, words_in_flight}
use Rattle.kdf_transfer.specs.Runs.{IsRun, lent_words, run_words}
use Rattle.kdf_transfer.proofs.Addresses.{down-drop, length-addressed, length-at, length-down, take_two}
use Rattle.kdf_transfer.proofs.Areas.{area_has, input_has, len_is, output_has}
use Rattle.kdf_transfer.proofs.Codes.{codes_more, length-codes}
use Rattle.kdf_transfer.proofs.Moving.{put_words-append}
use Rattle.kdf_transfer.proofs.Stopping.{fill-output, stopped-at}
use Rattle.kdf_transfer.proofs.Words.{few_words, input_offer, more_has, no_count, output_offer, words_are}

stopped-goes : (o : TransferOrder) (ws : List ℕ) → stops_at_end o ≡ false → stopped o ws ≡ ws
stopped-goes o ws goes = ap (λ b. cond b (map (filled o) (through_end_word ws)) ws) goes

length-run : (o : TransferOrder) (codes : List ℕ) → length (run_words o codes) ≡ length (words_of codes)
length-run o codes = at (is_backward o)
  where
    at : (b : Bool) → length (cond b (reverse (words_of codes)) (words_of codes)) ≡ length (words_of codes)
    at true = length-reverse (words_of codes)
    at false = refl

module _ (o : TransferOrder) (first last : ℕ) (l : Option Lent) (f : Fixture) (p : DeviceProgress) where
  abbrev all : List ℕ
  all = all_words o first last l f p

  run_are : (codes : List ℕ) → IsRun o codes (given o f p) → all ≡ take (last + 1 - first) (run_words o codes)
  run_are codes run =
      words_are o first last l f p
      ∙ ap (stopped o) (input_offer o first last l f p run.input ∙ ap (take (last + 1 - first)) run.words)
      ∙ stopped-goes o (take (last + 1 - first) (run_words o codes)) run.goes

  -- how many words move
  pub run_count : (codes : List ℕ) (n k : ℕ) → IsRun o codes (given o f p) → n ≡ area_len o first last → k ≡ min n (length (words_of codes)) → k ≡ length all
  run_count codes n k run n-is k-is =
      let e = ap length (run_are codes run) in
      omega (arith, e, length-take (last + 1 - first) (run_words o codes), length-run o codes, n-is, k-is, len_is o first last (input_has o run.input))

  pub other_count : is_input o ≡ false → stops_at_end o ≡ false → area_len o first last ≡ length all
  other_count not goes =
      ⊎_elim
      (λ (is : is_output o ≡ true).
      let e = ap length (words_are o first last l f p ∙ stopped-goes o _ goes ∙ output_offer o first last l f p not is) in
      omega (arith, e, length-map-range_with_len (lent_at l) first (last + 1 - first), len_is o first last (output_has o is)))
      (λ (nor : is_output o ≡ false).
      let none : has_area o ≡ false = ap (λ b. b || is_output o) not ∙ nor in
      let no_area : area_len o first last ≡ 0 = ap (λ b. cond b (last + 1 - first) 0) none in
      omega (arith, no_area, no_count o first last l f p not nor))
      (cases_Bool (is_output o))

  -- which words
  pub run_all : (codes : List ℕ) (total : ℕ) → IsRun o codes (given o f p) → total ≡ length all → take total (run_words o codes) ≡ all
  run_all codes total run total-is =
      let e = ap length (run_are codes run) in
      let least : total ≡ min (last + 1 - first) (length (run_words o codes)) = omega (arith, e, total-is, length-take (last + 1 - first) (run_words o codes))
      in
      ap (λ n. take n (run_words o codes)) least ∙ take_min (last + 1 - first) (run_words o codes) ∙ sym (run_are codes run)

  pub run_given : (codes : List ℕ) (total : ℕ) → IsRun o codes (given o f p) → total ≡ length all → total ≤ length (words_of codes)
  run_given codes total run total-is =
      let e = ap length (run_are codes run) in
      omega (arith, e, total-is, length-take (last + 1 - first) (run_words o codes), length-run o codes)

  word_out : (k : Lent) (total : ℕ) → l ≡ Some k → is_input o ≡ false → is_output o ≡ true → (i : ℕ) → i < total → i < length all
      → get_or (lent_words k first total) i 0 ≡ get_or all i 0
  word_out k total l-is not is i low inside =
      let offer = output_offer o first last l f p not is in
      let within : i < last + 1 - first = omega (arith, few_words o first last l f p) in
      let words = words_are o first last l f p ∙ ap (stopped o) offer in
      let moved : i < length (stopped o (map (lent_at l) (range_with_len first (last + 1 - first)))) = omega (arith, ap length words) in
      get_or-map-range_with_len (lent_word k) first total i (first + i) 0 low refl
      ∙ ap (λ x. lent_at x (first + i)) (sym l-is)
      ∙ sym (get_or-map-range_with_len (lent_at l) first (last + 1 - first) i (first + i) 0 within refl)
      ∙ sym (fill-output o _ not)
      ∙ sym (stopped-at o (map (lent_at l) (range_with_len first (last + 1 - first))) i moved)
      ∙ ap (λ ws. get_or ws i 0) (sym words)

  -- the words that go out are those of the lease
  pub out_words : (k : Lent) (total : ℕ) → l ≡ Some k → is_some l ≡ has_area o → is_input o ≡ false → total ≡ length all → lent_words k first total ≡ all
  out_words k total l-is some not total-is =
      let is : is_output o ≡ true = area_has o (sym some ∙ ap is_some l-is) not in
      let count = length-map-range_with_len (lent_word k) first total in
      ext_get_or 0 (lent_words k first total) all (omega (arith, count, total-is)) (λ i h.
      let low : i < total = omega (arith, count) in
      let inside : i < length all = omega (arith, total-is) in
      word_out k total l-is not is i low inside)

-- no word is moved without an area
pub none_left : (o : TransferOrder) (first last : ℕ) (l : Option Lent) (f : Fixture) (p : DeviceProgress) → l ≡ None → is_some l ≡ has_area o
    → length (all_words o first last l f p) ≡ 0
none_left o first last l f p none some =
    ⊎_elim
    (λ (lt : 0 < length (all_words o first last l f p)).
    absurd (let e : false ≡ true = sym (ap is_some none) ∙ some ∙ more_has o first last l f p 0 lt in cc))
    (λ (le : length (all_words o first last l f p) ≤ 0). omega arith)
    (cases_lt 0 (length (all_words o first last l f p)))

-- one word more in a lease
put_next : (ms : List (ℕ × ℕ)) (from i place w : ℕ) (l : Lent) → from ≤ i → drop i ms ≡ (place, w) ∷ drop (suc i) ms
    → with_lent_word (put_words (take (i - from) (drop from ms)) l) place w ≡ put_words (take (i + 1 - from) (drop from ms)) l
put_next ms from i place w l le is =
    let k : ℕ = i - from in
    let at : from + k ≡ i = omega arith in
    let more : k + 1 ≡ i + 1 - from = omega arith in
    let one : take 1 (drop k (drop from ms)) ≡ (place, w) ∷ [] = ap (take 1) (drop-drop k from ms ∙ ap (λ j. drop j ms) at ∙ is) in
    sym (put_words-append (take k (drop from ms)) ((place, w) ∷ []) l)
    ∙ ap (λ xs. put_words (take k (drop from ms) ++ xs) l) (sym one)
    ∙ ap (λ xs. put_words xs l) (take_two k 1 (drop from ms))
    ∙ ap (λ j. put_words (take j (drop from ms)) l) more

pub down_next : (codes : List ℕ) (last total from i w : ℕ) (l : Lent) → from ≤ i → i < total → total ≤ length (words_of codes)
    → w ≡ first_word (drop (8 * ((length codes + 7) / 8 - 1 - i)) codes)
    → with_lent_word (put_words (take (i - from) (drop from (down_addresses last (take total (reverse (words_of codes)))))) l) (last - i) w
    ≡ put_words (take (i + 1 - from) (drop from (down_addresses last (take total (reverse (words_of codes)))))) l
down_next codes last total from i w l le lt few is =
    let rs = reverse (words_of codes) in
    let ws = take total rs in
    let n = length-words_of codes in
    let inside : i < length ws = omega (arith, length-take total rs, length-reverse (words_of codes)) in
    let low : i < length (words_of codes) = omega arith in
    let within : (length codes + 7) / 8 - 1 - i < (length codes + 7) / 8 = omega (arith, n) in
    let same : get_or ws i 0 ≡ w =
    get_or-take total rs i 0 lt ∙ get_or-reverse (words_of codes) i 0 low ∙ ap (λ k. get_or (words_of codes) (k - 1 - i) 0) n
    ∙ get_or-words_of codes ((length codes + 7) / 8 - 1 - i) 0 within ∙ sym is in
    put_next (down_addresses last ws) from i (last - i) w l le (down-drop last i ws inside
    ∙ ap (λ x. (last - i, x) ∷ drop (suc i) (down_addresses last ws)) same)

-- the words of a group more in a lease
drop_at : (a n : ℕ) (ws : List ℕ) → drop n (at_addresses a ws) ≡ at_addresses (a + n) (drop n ws)
drop_at a zero ws = ap (λ b. at_addresses b ws) (let e : a ≡ a + 0 = omega arith in e)
drop_at a (suc n) [] = refl
drop_at a (suc n) (w ∷ ws) = drop_at (a + 1) n ws ∙ ap (λ b. at_addresses b (drop n ws)) (let e : a + 1 + n ≡ a + suc n = omega arith in e)

take_at_addresses : (a n : ℕ) (ws : List ℕ) → take n (at_addresses a ws) ≡ at_addresses a (take n ws)
take_at_addresses a zero ws = refl
take_at_addresses a (suc n) [] = refl
take_at_addresses a (suc n) (w ∷ ws) = ap (λ xs. (a, w) ∷ xs) (take_at_addresses (a + 1) n ws)

put_lent : (a : ℕ) (ws : List ℕ) (l : Lent) → put_words (at_addresses a ws) l ≡ with_lent_words l a ws
put_lent a [] l = refl
put_lent a (w ∷ ws) l = put_lent (a + 1) ws (with_lent_word l a w)

take_in_take : {X : Type 0} (i n m : ℕ) (xs : List X) → i + n ≤ m → take n (drop i (take m xs)) ≡ take n (drop i xs)
take_in_take i n zero xs le =
    let none : n ≡ 0 = omega arith in
    ap (λ k. take k (drop i (take 0 xs))) none ∙ sym (ap (λ k. take k (drop i xs)) none)
take_in_take i n (suc m) [] le = refl
take_in_take zero zero (suc m) (x ∷ xs) le = refl
take_in_take zero (suc n) (suc m) (x ∷ xs) le = ap (λ ys. x ∷ ys) (take_in_take 0 n m xs (omega arith))
take_in_take (suc i) n (suc m) (x ∷ xs) le = take_in_take i n m xs (omega arith)

words_from : (codes : List ℕ) (i : ℕ) → 8 * i ≤ length codes → words_of (drop (8 * i) codes) ≡ drop i (words_of codes)
words_from codes i le =
    let ws = words_of codes in
    let count : length (words_of (drop (8 * i) codes)) ≡ length (drop i ws) =
    omega (arith, length-words_of codes, length-words_of (drop (8 * i) codes), length-drop (8 * i) codes, length-drop i ws) in
    ext_get_or 0 (words_of (drop (8 * i) codes)) (drop i ws) count (λ k h.
    let at : 8 * i + 8 * k ≡ 8 * (i + k) = omega arith in
    let here : k < (length (drop (8 * i) codes) + 7) / 8 = omega (arith, length-words_of (drop (8 * i) codes)) in
    let there : i + k < (length codes + 7) / 8 = omega (arith, length-drop (8 * i) codes) in
    get_or-words_of (drop (8 * i) codes) k 0 here
    ∙ ap first_word (drop-drop (8 * k) (8 * i) codes ∙ ap (λ n. drop n codes) at)
    ∙ sym (get_or-drop i ws k 0 ∙ get_or-words_of codes (i + k) 0 there))

pub group_next : (codes : List ℕ) (first total from i n : ℕ) (l : Lent) → from ≤ i → i + n ≤ total → 8 * i ≤ length codes
    → with_lent_words (put_words (take (i - from) (drop from (at_addresses first (take total (words_of codes))))) l) (first + i)
    (take n (words_of (drop (8 * i) codes))) ≡ put_words (take (i + n - from) (drop from (at_addresses first (take total (words_of codes))))) l
group_next codes first total from i n l le fits given =
    let ws = words_of codes in
    let ms = at_addresses first (take total ws) in
    let k : ℕ = i - from in
    let at : from + k ≡ i = omega arith in
    let more : k + n ≡ i + n - from = omega arith in
    let part : take n (drop k (drop from ms)) ≡ at_addresses (first + i) (take n (words_of (drop (8 * i) codes))) =
    ap (take n) (drop-drop k from ms ∙ ap (λ j. drop j ms) at ∙ drop_at first i (take total ws))
    ∙ take_at_addresses (first + i) n (drop i (take total ws))
    ∙ ap (at_addresses (first + i)) (take_in_take i n total ws fits ∙ ap (take n) (sym (words_from codes i given))) in
    sym (put_lent (first + i) (take n (words_of (drop (8 * i) codes))) (put_words (take k (drop from ms)) l))
    ∙ ap (λ xs. put_words xs (put_words (take k (drop from ms)) l)) (sym part)
    ∙ sym (put_words-append (take k (drop from ms)) (take n (drop k (drop from ms))) l)
    ∙ ap (λ xs. put_words xs l) (take_two k n (drop from ms))
    ∙ ap (λ j. put_words (take j (drop from ms)) l) more

-- a word of a group of a lease
pub word_of_group : (l : Lent) (first from k : ℕ) → l.first ≡ first / 32 → (first + from) % 32 + k < 32
    → get_or (get_or l.groups ((first + from) / 32 - first / 32) []) ((first + from) % 32 + k) 0 ≡ lent_word l (first + (from + k))
word_of_group l first from k is one =
    let at : (first + from) / 32 - first / 32 ≡ (first + (from + k)) / 32 - l.first = omega arith in
    let rem : (first + from) % 32 + k ≡ (first + (from + k)) % 32 = omega arith in
    ap₂ (λ g j. get_or (get_or l.groups g []) j 0) at rem

-- and all of them
pub up_all : (words : List ℕ) (first total from : ℕ) (l : Lent) → put_words (take (total - from) (drop from (at_addresses first (take total words)))) l
    ≡ put_words (drop from (at_addresses first (take total words))) l
up_all words first total from l =
    let ms = at_addresses first (take total words) in
    ap (λ xs. put_words xs l) (take_all (total - from) (drop from ms)
    (omega (arith, length-drop from ms, length-at first (take total words), length-take total words)))

pub down_all : (words : List ℕ) (last total from : ℕ) (l : Lent) → put_words (take (total - from) (drop from (down_addresses last (take total words)))) l
    ≡ put_words (drop from (down_addresses last (take total words))) l
down_all words last total from l =
    let ms = down_addresses last (take total words) in
    ap (λ xs. put_words xs l) (take_all (total - from) (drop from ms)
    (omega (arith, length-drop from ms, length-down last (take total words), length-take total words)))

-- the characters of one word more in a block
pub codes_next : (b b' ws : List ℕ) (i w : ℕ) → take (8 * i) b ≡ codes_of_all (take i ws) → i < length ws → w ≡ get_or ws i 0 → 8 * i + 8 ≤ length b
    → b' ≡ take (8 * i) b ++ (codes_of w ++ drop (8 * i + 8) b) → take (8 * (i + 1)) b' ≡ codes_of_all (take (i + 1) ws)
codes_next b b' ws i w is lt w-is fits b-is =
    let front = take (8 * i) b ++ codes_of w in
    let size : length front ≡ 8 * (i + 1) = omega (arith, length-append (take (8 * i) b) (codes_of w), length-take (8 * i) b) in
    ap (take (8 * (i + 1))) (b-is ∙ sym (append_assoc (take (8 * i) b) (codes_of w) (drop (8 * i + 8) b)))
    ∙ take_at front (drop (8 * i + 8) b) (8 * (i + 1)) size
    ∙ ap (λ xs. xs ++ codes_of w) is
    ∙ codes_more ws i w lt w-is

pub length-next : (b b' : List ℕ) (i w : ℕ) → 8 * i + 8 ≤ length b → b' ≡ take (8 * i) b ++ (codes_of w ++ drop (8 * i + 8) b) → length b' ≡ length b
length-next b b' i w fits b-is =
    ap length b-is ∙ omega (
      arith,
      length-append (take (8 * i) b) (codes_of w ++ drop (8 * i + 8) b),
      length-append (codes_of w) (drop (8 * i + 8) b),
      length-take (8 * i) b,
      length-drop (8 * i + 8) b,
    )

pub codes_all : (b ws : List ℕ) (n : ℕ) → take (8 * n) b ≡ codes_of_all (take n ws) → length b ≤ 8 * n → length ws ≤ n → b ≡ codes_of_all ws
codes_all b ws n is few all = sym (take_all (8 * n) b few) ∙ is ∙ ap codes_of_all (take_all n ws all)

-- a block with places for more characters
pub codes_first : (b b' ws : List ℕ) (from total : ℕ) → b ≡ codes_of_all (take from ws) → from ≤ total → length ws ≡ total
    → b' ≡ take (8 * total) b ++ replicate (8 * total - length b) 0 → take (8 * from) b' ≡ codes_of_all (take from ws)
codes_first b b' ws from total is le many b-is =
    let size : length b ≡ 8 * from = omega (arith, ap length is, length-codes (take from ws), length-take from ws) in
    ap (take (8 * from)) (b-is ∙ ap (λ xs. xs ++ replicate (8 * total - length b) 0) (take_all (8 * total) b (omega (arith, size))))
    ∙ take_at b (replicate (8 * total - length b) 0) (8 * from) size
    ∙ is

-- a transfer all of whose words have moved
pub ended_input : (t : Motion) (n : ℕ) (l : Option Lent) → t.moved ≤ total_of t → n ≡ total_of t → is_input t.order ≡ true
    → l ≡ option_map (put_words (drop t.moved (moves_of t))) t.lease → (let u : Motion = record t { moved = n; lease = l } in u) ≡ moved_by n t
unfolding moved_by
ended_input t n l within all is l-is =
    λ i. record { order = t.order; first = t.first; last = t.last; fixture = t.fixture; progress = t.progress; lease = leases i; moved = counts i }
  where
    counts : n ≡ min (t.moved + n) (total_of t)
    counts = omega arith

    ms : List (ℕ × ℕ)
    ms = moves_of t

    rest : take n (drop t.moved ms) ≡ drop t.moved ms
    rest = take_all n (drop t.moved ms) (omega (arith, length-drop t.moved ms, length-addressed t.order t.first t.last (words_in_flight t)))

    leases : l ≡ lease_by n t
    leases =
        l-is
        ∙ ap (λ xs. option_map (put_words xs) t.lease) (sym rest)
        ∙ sym (ap (λ b. cond b (option_map (put_words (take n (drop t.moved ms))) t.lease) t.lease) is)

pub ended_other : (t : Motion) (n : ℕ) → t.moved ≤ total_of t → n ≡ total_of t → is_input t.order ≡ false
    → (let u : Motion = record t { moved = n } in u) ≡ moved_by n t
unfolding moved_by
ended_other t n within all not =
    λ i. record { order = t.order; first = t.first; last = t.last; fixture = t.fixture; progress = t.progress; lease = leases i; moved = counts i }
  where
    counts : n ≡ min (t.moved + n) (total_of t)
    counts = omega arith

    leases : t.lease ≡ lease_by n t
    leases = sym (ap (λ b. cond b (option_map (put_words (take n (drop t.moved (moves_of t)))) t.lease) t.lease) not)

-- the ring is empty then
pub ring_ended : (ws : List ℕ) (n : ℕ) → length ws ≤ n → [] ≡ take 8 (drop n ws)
ring_ended ws n all = ap (take 8) (sym (drop_all n ws all))
