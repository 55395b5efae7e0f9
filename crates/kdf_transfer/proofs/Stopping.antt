-- Where an order stops: the words up to and with the first that has an End Message.
use Rattle.std.proofs.Common.{◌≡◌, ℕ, zero, suc, ◌+◌, ◌<◌, ◌≤◌, ◌∷◌, ◌++◌, Bool, true, false, List, [], length, get_or, take, drop, map, Some, None, cond, refl}
use Rattle.std.proofs.Common.{sym, ap, ◌∙◌, ⊎_elim, arith, append_assoc, length-take, length-drop}
use Rattle.std.specs.Prelude.{◌&&◌}
use Rattle.std.specs.List.{slice_get}
use Rattle.std.proofs.lemmas.Bool.{cases_lt}
use Rattle.std.proofs.lemmas.List.{get_or-take, get_or-map, length-map, drop_more, drop_all, take_more, append-nil}
use Rattle.std.proofs.lemmas.Option.{slice_get-get_or, slice_get_past, get_or_from_slice_get, slice_get_within}
use Rattle.kdf_word.specs.Characters.{codes_of, first_word}
use Rattle.kdf_media.specs.Media.{has_end, through_end, through_end_word}
use Rattle.kdf_transfer.specs.declared.order.TransferOrder.{TransferOrder}
use Rattle.kdf_transfer.specs.AtOnce.{is_input, stops_at_end, is_last, fill, filled, stopped}

-- an order stops after a word with an End Message, or goes on
ends_here : List ℕ → Bool → ℕ → List ℕ
ends_here rest b w = cond b (w ∷ []) (w ∷ rest)

more_of : (b : Bool) (w : ℕ) (ws rest : List ℕ) → length rest ≤ length ws → length (cond b (w ∷ []) (w ∷ rest)) ≤ length (w ∷ ws)
more_of true w ws rest le = omega arith
more_of false w ws rest le = omega arith

through-le : (ws : List ℕ) → length (through_end_word ws) ≤ length ws
through-le [] = omega arith
through-le (w ∷ ws) = more_of (has_end (codes_of w)) w ws (through_end_word ws) (through-le ws)

at_of : (b : Bool) (w : ℕ) (ws rest : List ℕ) (i : ℕ) → ((k : ℕ) → k < length rest → get_or rest k 0 ≡ get_or ws k 0) → i < length (cond b (w ∷ []) (w ∷ rest))
    → get_or (cond b (w ∷ []) (w ∷ rest)) i 0 ≡ get_or (w ∷ ws) i 0
at_of true w ws rest zero same lt = refl
at_of true w ws rest (suc i) same lt = absurd (omega arith)
at_of false w ws rest zero same lt = refl
at_of false w ws rest (suc i) same lt = same i (omega arith)

through-at : (ws : List ℕ) (i : ℕ) → i < length (through_end_word ws) → get_or (through_end_word ws) i 0 ≡ get_or ws i 0
through-at [] i lt = refl
through-at (w ∷ ws) i lt = at_of (has_end (codes_of w)) w ws (through_end_word ws) i (λ k low. through-at ws k low) lt

pub stopped-le : (o : TransferOrder) (ws : List ℕ) → length (stopped o ws) ≤ length ws
stopped-le o ws = at (stops_at_end o)
  where
    at : (b : Bool) → length (cond b (map (filled o) (through_end_word ws)) ws) ≤ length ws
    at true = omega (arith, length-map (through_end_word ws) (filled o), through-le ws)
    at false = omega arith

-- a word that is moved is the word that was offered, filled up where PREQ stops at it
pub stopped-at : (o : TransferOrder) (ws : List ℕ) (i : ℕ) → i < length (stopped o ws) → get_or (stopped o ws) i 0 ≡ fill o (get_or ws i 0)
stopped-at o ws i = at (stops_at_end o)
  where
    at : (b : Bool) → i < length (cond b (map (filled o) (through_end_word ws)) ws) → get_or (cond b (map (filled o) (through_end_word ws)) ws) i 0
        ≡ cond b (filled o (get_or ws i 0)) (get_or ws i 0)
    at true lt =
        let within : i < length (through_end_word ws) = omega (arith, length-map (through_end_word ws) (filled o)) in
        get_or-map (filled o) (through_end_word ws) i 0 0 within ∙ ap (filled o) (through-at ws i within)
    at false lt = refl

-- the words that are moved of those from a word on: none, this one alone, or this one and those after it
pub stopped_end : (o : TransferOrder) → stopped o [] ≡ []
stopped_end o = at (stops_at_end o)
  where
    at : (b : Bool) → cond b (map (filled o) []) [] ≡ []
    at true = refl
    at false = refl

stopped-last : (o : TransferOrder) (w : ℕ) (rest : List ℕ) → is_last o w ≡ true → stopped o (w ∷ rest) ≡ fill o w ∷ []
stopped-last o w rest = at (stops_at_end o) (has_end (codes_of w))
  where
    at : (b e : Bool) → b && e ≡ true → cond b (map (filled o) (cond e (w ∷ []) (w ∷ through_end_word rest))) (w ∷ rest) ≡ cond b (filled o w) w ∷ []
    at true true h = refl
    at true false h = cc
    at false e h = cc

stopped-more : (o : TransferOrder) (w : ℕ) (rest : List ℕ) → is_last o w ≡ false → stopped o (w ∷ rest) ≡ fill o w ∷ stopped o rest
stopped-more o w rest = at (stops_at_end o) (has_end (codes_of w))
  where
    at : (b e : Bool) → b && e ≡ false → cond b (map (filled o) (cond e (w ∷ []) (w ∷ through_end_word rest))) (w ∷ rest) ≡ cond b (filled o w) w ∷ cond b
        (map (filled o) (through_end_word rest)) rest
    at true true h = cc
    at true false h = refl
    at false e h = refl

drop-there : (ws : List ℕ) (i w : ℕ) → slice_get ws i ≡ Some w → drop i ws ≡ w ∷ drop (i + 1) ws
drop-there ws i w is =
    drop_more ws i 0 (slice_get_within ws i w is) ∙ ap (λ x. x ∷ drop (i + 1) ws) (get_or_from_slice_get ws i w 0 is)

drop-past : (ws : List ℕ) (i : ℕ) → slice_get ws i ≡ None → length ws ≤ i
drop-past ws i none =
    ⊎_elim
    (λ (lt : i < length ws). absurd (let e : None ≡ Some (get_or ws i 0) = sym none ∙ slice_get-get_or ws i 0 lt in cc))
    (λ (le : length ws ≤ i). le)
    (cases_lt i (length ws))

-- how many words are moved, by what stands at word i
pub count_none : (o : TransferOrder) (ws : List ℕ) (i : ℕ) → slice_get ws i ≡ None → length (stopped o ws) ≡ i + length (stopped o (drop i ws))
    → length (stopped o ws) ≡ i
count_none o ws i none so =
    let past = drop-past ws i none in
    omega (arith, so, stopped-le o (drop i ws), length-drop i ws)

pub count_last : (o : TransferOrder) (ws : List ℕ) (i w : ℕ) → slice_get ws i ≡ Some w → is_last o w ≡ true
    → length (stopped o ws) ≡ i + length (stopped o (drop i ws)) → length (stopped o ws) ≡ i + 1
count_last o ws i w is last so =
    so ∙ ap (λ xs. i + length (stopped o xs)) (drop-there ws i w is) ∙ ap (λ xs. i + length xs) (stopped-last o w (drop (i + 1) ws) last)

pub count_more : (o : TransferOrder) (ws : List ℕ) (i w : ℕ) → slice_get ws i ≡ Some w → is_last o w ≡ false
    → length (stopped o ws) ≡ i + length (stopped o (drop i ws)) → length (stopped o ws) ≡ i + 1 + length (stopped o (drop (i + 1) ws))
count_more o ws i w is goes so =
    let e : length (stopped o (drop i ws)) ≡ suc (length (stopped o (drop (i + 1) ws))) = ap (λ xs. length (stopped o xs)) (drop-there ws i w is)
    ∙ ap length (stopped-more o w (drop (i + 1) ws) goes) in
    omega (arith, so)

pub count_end : (o : TransferOrder) (ws : List ℕ) (i : ℕ) → length ws ≤ i → length (stopped o ws) ≡ i + length (stopped o (drop i ws))
    → length (stopped o ws) ≡ i
count_end o ws i past so = omega (arith, so, stopped-le o (drop i ws), length-drop i ws)

-- an output order moves its words as they are
pub fill-output : (o : TransferOrder) (w : ℕ) → is_input o ≡ false → fill o w ≡ w
fill-output o w not = at (stops_at_end o)
  where
    at : (b : Bool) → cond b (filled o w) w ≡ w
    at true = ap (λ c. cond c (first_word (through_end (codes_of w))) w) not
    at false = refl

-- the words that go out, by word i
pub sent_last : (o : TransferOrder) (ws : List ℕ) (i w : ℕ) → is_input o ≡ false → i < length ws → w ≡ get_or ws i 0 → is_last o w ≡ true
    → stopped o ws ≡ take i ws ++ stopped o (drop i ws) → stopped o ws ≡ take (i + 1) ws
sent_last o ws i w not lt is last so =
    so
    ∙ ap (λ xs. take i ws ++ stopped o xs) (drop_more ws i 0 lt ∙ ap (λ x. x ∷ drop (i + 1) ws) (sym is))
    ∙ ap (λ xs. take i ws ++ xs) (stopped-last o w (drop (i + 1) ws) last ∙ ap (λ x. x ∷ []) (fill-output o w not ∙ is))
    ∙ sym (take_more ws i 0 lt)

pub sent_more : (o : TransferOrder) (ws : List ℕ) (i w : ℕ) → is_input o ≡ false → i < length ws → w ≡ get_or ws i 0 → is_last o w ≡ false
    → stopped o ws ≡ take i ws ++ stopped o (drop i ws) → stopped o ws ≡ take (i + 1) ws ++ stopped o (drop (i + 1) ws)
sent_more o ws i w not lt is goes so =
    so
    ∙ ap (λ xs. take i ws ++ stopped o xs) (drop_more ws i 0 lt ∙ ap (λ x. x ∷ drop (i + 1) ws) (sym is))
    ∙ ap (λ xs. take i ws ++ xs) (stopped-more o w (drop (i + 1) ws) goes ∙ ap (λ x. x ∷ stopped o (drop (i + 1) ws)) (fill-output o w not ∙ is))
    ∙ sym (append_assoc (take i ws) (get_or ws i 0 ∷ []) (stopped o (drop (i + 1) ws)))
    ∙ ap (λ xs. xs ++ stopped o (drop (i + 1) ws)) (sym (take_more ws i 0 lt))

pub sent_end : (o : TransferOrder) (ws : List ℕ) (i : ℕ) → length ws ≤ i → stopped o ws ≡ take i ws ++ stopped o (drop i ws) → stopped o ws ≡ take i ws
sent_end o ws i past so =
    so ∙ ap (λ xs. take i ws ++ stopped o xs) (drop_all i ws past) ∙ ap (λ xs. take i ws ++ xs) (stopped_end o) ∙ append-nil (take i ws)

-- a word that lies before the end of the area
pub cut_at : (n i : ℕ) (g : List ℕ) → i < n → slice_get (take n g) i ≡ slice_get g i
cut_at n i g lt =
    ⊎_elim
    (λ (within : i < length g).
    let inside : i < length (take n g) = omega (arith, length-take n g) in
    slice_get-get_or (take n g) i 0 inside ∙ ap Some (get_or-take n g i 0 lt) ∙ sym (slice_get-get_or g i 0 within))
    (λ (past : length g ≤ i). slice_get_past (take n g) i (omega (arith, length-take n g)) ∙ sym (slice_get_past g i past))
    (cases_lt i (length g))

-- a word that is moved is the one that was given, filled up where PREQ stops at it
pub moved_at : (o : TransferOrder) (n i w : ℕ) (g : List ℕ) → i < length (stopped o (take n g)) → w ≡ fill o (get_or g i 0)
    → w ≡ get_or (stopped o (take n g)) i 0
moved_at o n i w g lt is =
    let low : i < n = omega (arith, stopped-le o (take n g), length-take n g) in
    is ∙ ap (fill o) (sym (get_or-take n g i 0 low)) ∙ sym (stopped-at o (take n g) i lt)
