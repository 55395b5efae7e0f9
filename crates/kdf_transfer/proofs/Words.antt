-- The words that an order moves, one by one.
use Rattle.std.proofs.Common.{◌≡◌, ℕ, ◌+◌, ◌-◌, ◌*◌, ◌/◌, ◌<◌, ◌≤◌, ◌∷◌, ◌++◌, min, Bool, true, false, List, [], length, get_or, take, drop, map, Option, Some}
use Rattle.std.proofs.Common.{None, is_some, cond, refl, sym, ap, ◌∙◌, ⊎_elim, arith, length-take, length-set, length-drop}
use Rattle.std.specs.List.{range_with_len, slice_get}
use Rattle.std.specs.Option.{option_map}
use Rattle.std.proofs.lemmas.Bool.{cases_Bool}
use Rattle.std.proofs.lemmas.List.{drop_more, drop-drop, take_all}
use Rattle.std.proofs.lemmas.List.FromFn.{length-map-range_with_len, get_or-map-range_with_len}
use Rattle.std.proofs.lemmas.Option.{slice_get-get_or, slice_get_past, get_or_from_slice_get}
use Rattle.kdf_word.specs.Characters.{codes_of, codes_of_all}
use Rattle.kdf_lockout.specs.Groups.{Lent, with_lent_word}
use Rattle.kdf_transfer.specs.declared.order.TransferOrder.{TransferOrder}
use Rattle.kdf_transfer.specs.Devices.{Fixture, DeviceProgress}
use Rattle.kdf_transfer.specs.AtOnce.{is_input, is_output, has_area, fill, stopped, given, offered, words_out, finished, area_len}
use Rattle.kdf_transfer.specs.InFlight.{Motion, lent_at, area_words, all_words, Covers, moved_by, moves_of, put_words, ended_progress, total_of}
use Rattle.kdf_transfer.proofs.Addresses.{take_two}
use Rattle.kdf_transfer.proofs.Moving.{words-moved}
use Rattle.kdf_transfer.proofs.Codes.{codes_more, length-codes}
use Rattle.kdf_transfer.proofs.Areas.{input_has, output_has, len_is}
use Rattle.kdf_transfer.proofs.Stopping.{stopped-le, stopped-at, cut_at}

module _ (o : TransferOrder) (first last : ℕ) (l : Option Lent) (f : Fixture) (p : DeviceProgress) where
  abbrev words : List ℕ
  words = all_words o first last l f p

  abbrev offer : List ℕ
  offer = offered o first last (area_words o first last l) f p

  pub words_are : words ≡ stopped o offer
  unfolding all_words
  words_are = refl

  pub input_offer : is_input o ≡ true → offer ≡ take (last + 1 - first) (given o f p)
  unfolding offered
  input_offer is = ap (λ b. cond b (take (last + 1 - first) (given o f p)) (cond (is_output o) (area_words o first last l) [])) is

  pub output_offer : is_input o ≡ false → is_output o ≡ true → offer ≡ map (lent_at l) (range_with_len first (last + 1 - first))
  unfolding offered
  output_offer not is =
      ap (λ b. cond b (take (last + 1 - first) (given o f p)) (cond (is_output o) (area_words o first last l) [])) not
      ∙ ap (λ b. cond b (area_words o first last l) []) is
      ∙ ap (λ b. cond b (map (lent_at l) (range_with_len first (last + 1 - first))) []) (output_has o is)

  no_offer : is_input o ≡ false → is_output o ≡ false → offer ≡ []
  unfolding offered
  no_offer not nor =
      ap (λ b. cond b (take (last + 1 - first) (given o f p)) (cond (is_output o) (area_words o first last l) [])) not
      ∙ ap (λ b. cond b (area_words o first last l) []) nor

  few_offer : length offer ≤ last + 1 - first
  few_offer =
      ⊎_elim
      (λ (is : is_input o ≡ true). omega (arith, ap length (input_offer is), length-take (last + 1 - first) (given o f p)))
      (λ (not : is_input o ≡ false).
      ⊎_elim
      (λ (is : is_output o ≡ true). omega (arith, ap length (output_offer not is), length-map-range_with_len (lent_at l) first (last + 1 - first)))
      (λ (nor : is_output o ≡ false). omega (arith, ap length (no_offer not nor)))
      (cases_Bool (is_output o)))
      (cases_Bool (is_input o))

  pub few_area : length offer ≤ area_len o first last
  few_area =
      ⊎_elim
      (λ (is : is_input o ≡ true). omega (
        arith,
        ap length (input_offer is),
        length-take (last + 1 - first) (given o f p),
        len_is o first last (input_has o is),
      ))
      (λ (not : is_input o ≡ false).
      ⊎_elim
      (λ (is : is_output o ≡ true). omega (
        arith,
        ap length (output_offer not is),
        length-map-range_with_len (lent_at l) first (last + 1 - first),
        len_is o first last (output_has o is),
      ))
      (λ (nor : is_output o ≡ false). omega (arith, ap length (no_offer not nor)))
      (cases_Bool (is_output o)))
      (cases_Bool (is_input o))

  -- at most so many words as the area has
  pub few_words : length words ≤ last + 1 - first
  few_words = omega (arith, ap length words_are, stopped-le o offer, few_offer)

  -- an order that moves a word has an area
  pub more_has : (i : ℕ) → i < length words → has_area o ≡ true
  more_has i lt =
      let some : i < length offer = omega (arith, ap length words_are, stopped-le o offer) in
      ⊎_elim
      (λ (is : is_input o ≡ true). input_has o is)
      (λ (not : is_input o ≡ false).
      ⊎_elim
      (λ (is : is_output o ≡ true). output_has o is)
      (λ (nor : is_output o ≡ false). absurd (omega (arith, ap length (no_offer not nor))))
      (cases_Bool (is_output o)))
      (cases_Bool (is_input o))

  pub no_count : is_input o ≡ false → is_output o ≡ false → length words ≡ 0
  no_count not nor = omega (arith, ap length words_are, stopped-le o offer, ap length (no_offer not nor))

  -- a word that an input order is offered, and where the area ends
  pub input_at : (i : ℕ) (r : Option ℕ) → is_input o ≡ true → i < area_len o first last → r ≡ slice_get (given o f p) i → r ≡ slice_get offer i
  input_at i r is lt got =
      got ∙ sym (cut_at (last + 1 - first) i (given o f p) (omega (arith, len_is o first last (input_has o is))))
      ∙ ap (λ ws. slice_get ws i) (sym (input_offer is))

  pub offer_past : (i : ℕ) → area_len o first last ≤ i → None ≡ slice_get offer i
  offer_past i past = sym (slice_get_past offer i (omega (arith, few_area)))

  pub output_at : (i w : ℕ) → is_input o ≡ false → is_output o ≡ true → i < last + 1 - first → w ≡ lent_at l (first + i) → Some w ≡ slice_get offer i
  output_at i w not is lt got =
      let counted : length (map (lent_at l) (range_with_len first (last + 1 - first))) ≡ last + 1 - first =
      length-map-range_with_len (lent_at l) first (last + 1 - first) in
      ap Some (got ∙ sym (get_or-map-range_with_len (lent_at l) first (last + 1 - first) i (first + i) 0 lt refl))
      ∙ sym (slice_get-get_or (map (lent_at l) (range_with_len first (last + 1 - first))) i 0 (omega arith))
      ∙ ap (λ ws. slice_get ws i) (sym (output_offer not is))

  -- a word that is moved
  pub word_there : (i : ℕ) → i < length words → slice_get offer i ≡ Some (get_or offer i 0)
  word_there i lt = slice_get-get_or offer i 0 (omega (arith, ap length words_are, stopped-le o offer))

  pub word_is : (i w : ℕ) → i < length words → slice_get offer i ≡ Some w → fill o w ≡ get_or words i 0
  word_is i w lt is =
      let within : i < length (stopped o offer) = omega (arith, ap length words_are) in
      ap (fill o) (sym (get_or_from_slice_get offer i w 0 is)) ∙ sym (stopped-at o offer i within) ∙ ap (λ ws. get_or ws i 0) (sym words_are)

-- a lease that a word was written into
abbrev pub written_lease : Bool → ℕ → ℕ → Option Lent → Option Lent
written_lease input place w l = cond input (option_map (λ k. with_lent_word k place w) l) l

pub some-written : (input : Bool) (place w : ℕ) (l : Option Lent) → is_some (written_lease input place w l) ≡ is_some l
some-written true place w None = refl
some-written true place w (Some l) = refl
some-written false place w l = refl

pub covers-written : (input : Bool) (place w first last : ℕ) (l : Option Lent) → Covers l first last → Covers (written_lease input place w l) first last
covers-written true place w first last None h = h
covers-written true place w first last (Some l) h =
    record { rising = h.rising; first_group = h.first_group; count = length-set l.groups (place / 32 - l.first) _ ∙ h.count; few = h.few }
covers-written false place w first last l h = h

-- the words of the ring
pub ring_front : (ws : List ℕ) (m w : ℕ) (rest : List ℕ) → m < length ws → take 8 (drop m ws) ≡ w ∷ rest
    → (w ≡ get_or ws m 0) × (rest ≡ take 7 (drop (m + 1) ws))
ring_front ws m w rest lt is =
    let e : get_or ws m 0 ∷ take 7 (drop (m + 1) ws) ≡ w ∷ rest = sym (ap (take 8) (drop_more ws m 0 lt)) ∙ is in
    (cc, cc)

pub ring_more : (ws : List ℕ) (m : ℕ) → take 7 (drop (m + 1) ws) ++ take 1 (drop (m + 1 + 7) ws) ≡ take 8 (drop (m + 1) ws)
ring_more ws m = ap (λ xs. take 7 (drop (m + 1) ws) ++ take 1 xs) (sym (drop-drop 7 (m + 1) ws)) ∙ take_two 7 1 (drop (m + 1) ws)

-- there is room for the codes of one word more
pub room_more : (input : Bool) (codes : List ℕ) (ws : List ℕ) (m total room : ℕ) → codes ≡ cond input [] (codes_of_all (take m ws)) → total ≡ length ws
    → m < total → (input ≡ false → 8 * total ≤ room) → input ≡ false → length codes + 8 ≤ room
room_more true codes ws m total room is counted more fits not = cc
room_more false codes ws m total room is counted more fits not =
    let size : length codes ≡ 8 * length (take m ws) = ap length is ∙ length-codes (take m ws) in
    let taken : length (take m ws) ≤ m = omega (arith, length-take m ws) in
    let enough = fits refl in
    omega arith

-- the block after one word more
pub block_more : (input : Bool) (codes codes' ws ws' : List ℕ) (m w : ℕ) → codes ≡ cond input [] (codes_of_all (take m ws))
    → codes' ≡ cond input codes (codes ++ codes_of w) → m < length ws → w ≡ get_or ws m 0 → ws' ≡ ws → codes' ≡ cond input [] (codes_of_all (take (m + 1) ws'))
block_more true codes codes' ws ws' m w is later lt first same = later ∙ is
block_more false codes codes' ws ws' m w is later lt first same =
    later ∙ ap (λ xs. xs ++ codes_of w) is ∙ codes_more ws m w lt first ∙ ap (λ xs. codes_of_all (take (m + 1) xs)) (sym same)

-- the codes of all words that went out are those of the block
pub block_whole : (o : TransferOrder) (first last : ℕ) (l : Option Lent) (f : Fixture) (p : DeviceProgress) (m : ℕ) → m ≡ length (all_words o first last l f p)
    → cond (is_input o) [] (codes_of_all (take m (all_words o first last l f p))) ≡ codes_of_all (words_out o (area_words o first last l))
unfolding all_words offered
block_whole o first last l f p m all =
    ap (λ ws. cond (is_input o) [] (codes_of_all ws)) (take_all m (all_words o first last l f p) (omega arith))
    ∙ at_bool (is_input o)
  where
    input : List ℕ
    input = take (last + 1 - first) (given o f p)

    output : List ℕ
    output = cond (is_output o) (area_words o first last l) []

    at_bool : (b : Bool) → cond b [] (codes_of_all (stopped o (cond b input output))) ≡ codes_of_all (cond b [] (stopped o output))
    at_bool true = refl
    at_bool false = refl

pub length-ring : (ws : List ℕ) (m : ℕ) → length (take 8 (drop m ws)) ≡ min 8 (length ws - m)
length-ring ws m = length-take 8 (drop m ws) ∙ ap (min 8) (length-drop m ws)

-- the device ends the same, however many words have moved
pub ended-moved : (n : ℕ) (t : Motion) → ended_progress (moved_by n t) ≡ ended_progress t
unfolding moved_by
ended-moved n t = ap (λ ws. finished t.order (area_len t.order t.first t.last) (codes_of_all ws) t.fixture t.progress)
    (at_bool (is_input t.order) (option_map (put_words (take n (drop t.moved (moves_of t)))) t.lease))
  where
    out : Option Lent → List ℕ
    out l = stopped t.order (cond (is_output t.order) (area_words t.order t.first t.last l) [])

    at_bool : (b : Bool) (l : Option Lent) → cond b [] (out (cond b l t.lease)) ≡ cond b [] (out t.lease)
    at_bool true l = refl
    at_bool false l = refl

-- the lease covers the area, however many words have moved
pub covers-put : (ms : List (ℕ × ℕ)) (l : Lent) (first last : ℕ) → Covers (Some l) first last → Covers (Some (put_words ms l)) first last
covers-put [] l first last h = h
covers-put (m ∷ ms) l first last h = covers-put ms (with_lent_word l m.0 m.1) first last (covers-written true m.0 m.1 first last (Some l) h)

pub some-moved : (input : Bool) (ms : List (ℕ × ℕ)) (l : Option Lent) → is_some (cond input (option_map (put_words ms) l) l) ≡ is_some l
some-moved true ms None = refl
some-moved true ms (Some l) = refl
some-moved false ms l = refl

pub covers-moved : (input : Bool) (ms : List (ℕ × ℕ)) (l : Option Lent) (first last : ℕ) → Covers l first last
    → Covers (cond input (option_map (put_words ms) l) l) first last
covers-moved true ms None first last h = h
covers-moved true ms (Some l) first last h = covers-put ms l first last h
covers-moved false ms l first last h = h

-- all words have moved
pub all-moved : (t : Motion) → (moved_by (total_of t) t).moved ≡ total_of (moved_by (total_of t) t)
unfolding moved_by
all-moved t =
    let e : min (t.moved + total_of t) (total_of t) ≡ total_of t = omega arith in
    e ∙ ap length (sym (words-moved (total_of t) t))

-- the codes of no word
pub no_block : (o : TransferOrder) (ws block : List ℕ) → block ≡ [] → block ≡ cond (is_input o) [] (codes_of_all (take 0 ws))
no_block o ws block none = none ∙ at_bool (is_input o)
  where
    at_bool : (b : Bool) → [] ≡ cond b [] (codes_of_all [])
    at_bool true = refl
    at_bool false = refl

-- there is room for all codes
pub room_first : (o : TransferOrder) (first last total room : ℕ) (l : Option Lent) (f : Fixture) (p : DeviceProgress)
    → total ≡ length (all_words o first last l f p)
    → (is_output o ≡ true → 8 * (last + 1 - first) ≤ room) → is_input o ≡ false → 8 * total ≤ room
room_first o first last total room l f p counted fits not =
    ⊎_elim
    (λ (is : is_output o ≡ true). let enough = fits is in omega (arith, few_words o first last l f p))
    (λ (nor : is_output o ≡ false). omega (arith, no_count o first last l f p not nor))
    (cases_Bool (is_output o))
