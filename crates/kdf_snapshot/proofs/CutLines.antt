-- A text that is cut between its lines.
use Rattle.std.proofs.Common.{◌≡◌, ◌⊎◌, inl, inr, ⊎_elim, ℕ, zero, suc, ◌+◌, ◌-◌, ◌<◌, true, false, eqb, List, [], ◌∷◌, ◌++◌, length, take, drop, refl, sym, ap}
use Rattle.std.proofs.Common.{◌∙◌, arith, length-append, length-drop}
use Rattle.std.proofs.lemmas.Bool.{cases_Bool, eqb-true}
use Rattle.std.proofs.lemmas.List.{append_assoc, drop-drop, drop_at, drop_all, length_push, take_at}
use Rattle.kdf_text.specs.Lines.{in_first, lines}
use Rattle.kdf_text.specs.Text.{text}
use Rattle.kdf_snapshot.specs.Snapshot.{offset}
use Rattle.kdf_snapshot.proofs.Offsets.{offset-within}
use Rattle.kdf_snapshot.proofs.Reading.{take-more, text-more}

-- a text of lines, by its first line and what stands after it
record FirstLine (bytes : List ℕ) : Type 0 where
  first : List ℕ
  rest : List ℕ
  is : lines bytes ≡ first ∷ lines rest
  cut : (bytes ≡ first ++ 10 ∷ rest) ⊎ ((bytes ≡ first) × (rest ≡ []))

longer_line : (b : ℕ) (bytes : List ℕ) → eqb b 10 ≡ false → FirstLine bytes → FirstLine (b ∷ bytes)
unfolding lines
longer_line b bytes isnt f = record {
  first = b ∷ f.first;
  rest = f.rest;
  is = rw isnt (ap (in_first b) f.is);
  cut = ⊎_elim (λ (e : bytes ≡ f.first ++ 10 ∷ f.rest). inl (ap (λ bs. b ∷ bs) e))
      (λ (e : (bytes ≡ f.first) × (f.rest ≡ [])). inr (ap (λ bs. b ∷ bs) e.0, e.1)) f.cut;
}

ended_line : (b : ℕ) (bytes : List ℕ) → eqb b 10 ≡ true → FirstLine (b ∷ bytes)
unfolding lines
ended_line b bytes is = record { first = []; rest = bytes; is = rw is refl; cut = inl (ap (λ n. n ∷ bytes) (eqb-true b 10 is)) }

last_line : (b : ℕ) → eqb b 10 ≡ false → FirstLine (b ∷ [])
unfolding lines
last_line b isnt = record { first = b ∷ []; rest = []; is = rw isnt refl; cut = inr (refl, refl) }

first_line : (b : ℕ) (bytes : List ℕ) → FirstLine (b ∷ bytes)
first_line b [] = ⊎_elim (λ (is : eqb b 10 ≡ true). ended_line b [] is) (λ (isnt : eqb b 10 ≡ false). last_line b isnt) (cases_Bool (eqb b 10))
first_line b (d ∷ bytes) =
    let f = first_line d bytes in
    ⊎_elim (λ (is : eqb b 10 ≡ true). ended_line b (d ∷ bytes) is) (λ (isnt : eqb b 10 ≡ false). longer_line b (d ∷ bytes) isnt f) (cases_Bool (eqb b 10))

text-cons : (l : List ℕ) (ls : List (List ℕ)) → text (l ∷ ls) ≡ l ++ 10 ∷ text ls
unfolding text
text-cons l ls = append_assoc l (10 ∷ []) (text ls)

front_length : (front : List ℕ) → length (front ++ 10 ∷ []) ≡ length front + 1
front_length front = length_push front 10

drop_front : (front rest : List ℕ) (n : ℕ) → drop (length front + 1 + n) (front ++ 10 ∷ rest) ≡ drop n rest
drop_front front rest n =
    sym (drop-drop n (length front + 1) (front ++ 10 ∷ rest))
    ∙ ap (λ bs. drop n (drop (length front + 1) bs)) (sym (append_assoc front (10 ∷ []) rest))
    ∙ ap (drop n) (drop_at (front ++ 10 ∷ []) rest (length front + 1) (front_length front))

take_front : (front rest : List ℕ) (n : ℕ) → take (length front + 1 + n) (front ++ 10 ∷ rest) ≡ front ++ 10 ∷ take n rest
take_front front rest n =
    let a = length front + 1 in
    let whole = front ++ 10 ∷ [] in
    ap (take (a + n)) (sym (append_assoc front (10 ∷ []) rest)) ∙ take-more a n (whole ++ rest)
    ∙ ap (λ bs. bs ++ take n (drop a (whole ++ rest))) (take_at whole rest a (front_length front))
    ∙ ap (λ bs. whole ++ take n bs) (drop_at whole rest a (front_length front))
    ∙ append_assoc front (10 ∷ []) (take n rest)

-- the offset after a line that has its end, and the others
offset_more : (bytes : List ℕ) (f : List ℕ) (rest : List ℕ) (k : ℕ) → bytes ≡ f ++ 10 ∷ rest → lines bytes ≡ f ∷ lines rest
    → offset bytes (suc k) ≡ length f + 1 + offset rest k
offset_more bytes f rest k e is =
    let size : length bytes ≡ length f + suc (length rest) = ap length e ∙ length-append f (10 ∷ rest) in
    let front : length (text (take (suc k) (lines bytes))) ≡ length f + suc (length (text (take k (lines rest)))) =
    ap (λ ls. length (text (take (suc k) ls))) is ∙ ap length (text-cons f (take k (lines rest))) ∙ length-append f (10 ∷ text (take k (lines rest))) in
    omega (arith, size, front)

-- the offset after a line that lacks its end
offset_end : (bytes : List ℕ) (f : List ℕ) (k : ℕ) → bytes ≡ f → lines bytes ≡ f ∷ lines [] → offset bytes (suc k) ≡ length bytes
unfolding lines text
offset_end bytes f k e is =
    let size : length bytes ≡ length f = ap length e in
    let front : length (text (take (suc k) (lines bytes))) ≡ length f + suc (length (text (take k (lines [])))) =
    ap (λ ls. length (text (take (suc k) ls))) is ∙ ap length (text-cons f (take k (lines []))) ∙ length-append f (10 ∷ text (take k (lines []))) in
    omega (arith, size, front)

offset_none : (bytes : List ℕ) → offset bytes 0 ≡ 0
unfolding text
offset_none bytes = omega arith

drop_nil : (k : ℕ) → drop k (lines []) ≡ []
unfolding lines
drop_nil zero = refl
drop_nil (suc k) = refl

lines_nil : lines [] ≡ []
unfolding lines
lines_nil = refl

text_nil : [] ≡ text []
unfolding text
text_nil = refl

offset_nil : (k : ℕ) → offset [] k ≡ 0
offset_nil k = omega arith

rest_some : (k b : ℕ) (bytes : List ℕ) → ((r : List ℕ) → lines (drop (offset r k) r) ≡ drop k (lines r)) → FirstLine (b ∷ bytes)
    → lines (drop (offset (b ∷ bytes) (suc k)) (b ∷ bytes)) ≡ drop (suc k) (lines (b ∷ bytes))
rest_some k b bytes later f =
    ⊎_elim
    (λ (e : b ∷ bytes ≡ f.first ++ 10 ∷ f.rest).
    ap (λ n. lines (drop n (b ∷ bytes))) (offset_more (b ∷ bytes) f.first f.rest k e f.is)
    ∙ ap (λ bs. lines (drop (length f.first + 1 + offset f.rest k) bs)) e
    ∙ ap lines (drop_front f.first f.rest (offset f.rest k))
    ∙ later f.rest ∙ ap (drop (suc k)) (sym f.is))
    (λ (e : (b ∷ bytes ≡ f.first) × (f.rest ≡ [])).
    let is : lines (b ∷ bytes) ≡ f.first ∷ lines [] = f.is ∙ ap (λ r. f.first ∷ lines r) e.1 in
    ap (λ n. lines (drop n (b ∷ bytes))) (offset_end (b ∷ bytes) f.first k e.0 is)
    ∙ ap lines (drop_all (length (b ∷ bytes)) (b ∷ bytes) (omega arith))
    ∙ lines_nil ∙ sym (drop_nil k) ∙ ap (drop (suc k)) (sym is))
    f.cut

-- what stands after the offset of a line are the lines from it on
pub lines-rest : (k : ℕ) (bytes : List ℕ) → lines (drop (offset bytes k) bytes) ≡ drop k (lines bytes)
lines-rest zero bytes = ap (λ n. lines (drop n bytes)) (offset_none bytes)
lines-rest (suc k) [] = ap (λ n. lines (drop n [])) (offset_nil (suc k)) ∙ sym (drop_nil (suc k) ∙ sym (drop_nil 0))
lines-rest (suc k) (b ∷ bytes) = rest_some k b bytes (λ r. lines-rest k r) (first_line b bytes)

front_some : (k b : ℕ) (bytes : List ℕ) → ((r : List ℕ) → k < length (lines r) → take (offset r k) r ≡ text (take k (lines r))) → FirstLine (b ∷ bytes)
    → suc k < length (lines (b ∷ bytes)) → take (offset (b ∷ bytes) (suc k)) (b ∷ bytes) ≡ text (take (suc k) (lines (b ∷ bytes)))
front_some k b bytes later f lt =
    let more : length (lines (b ∷ bytes)) ≡ suc (length (lines f.rest)) = ap length f.is in
    ⊎_elim
    (λ (e : b ∷ bytes ≡ f.first ++ 10 ∷ f.rest).
    ap (λ n. take n (b ∷ bytes)) (offset_more (b ∷ bytes) f.first f.rest k e f.is)
    ∙ ap (take (length f.first + 1 + offset f.rest k)) e
    ∙ take_front f.first f.rest (offset f.rest k)
    ∙ ap (λ bs. f.first ++ 10 ∷ bs) (later f.rest (omega (arith, more)))
    ∙ sym (text-cons f.first (take k (lines f.rest)))
    ∙ ap (λ ls. text (take (suc k) ls)) (sym f.is))
    (λ (e : (b ∷ bytes ≡ f.first) × (f.rest ≡ [])).
    let none : length (lines f.rest) ≡ 0 = ap (λ r. length (lines r)) e.1 ∙ ap length (drop_nil 0) in
    absurd (omega (arith, more, none)))
    f.cut

-- what stands before the offset of a line is the text of the lines before it
pub lines-front : (k : ℕ) (bytes : List ℕ) → k < length (lines bytes) → take (offset bytes k) bytes ≡ text (take k (lines bytes))
lines-front zero bytes lt = ap (λ n. take n bytes) (offset_none bytes) ∙ text_nil
lines-front (suc k) [] lt = absurd (omega (arith, ap length (drop_nil 0)))
lines-front (suc k) (b ∷ bytes) lt = front_some k b bytes (λ r. lines-front k r) (first_line b bytes) lt

-- and between two offsets stands the text of the lines between
pub lines-between : (k n : ℕ) (bytes : List ℕ) → k + n < length (lines bytes) → take (offset bytes (k + n) - offset bytes k) (drop (offset bytes k) bytes)
    ≡ text (take n (drop k (lines bytes)))
lines-between k n bytes lt =
    let ls = lines bytes in
    let after = drop (offset bytes k) bytes in
    let rest : lines after ≡ drop k ls = lines-rest k bytes in
    let left : length (lines after) ≡ length (drop k ls) = ap length rest in
    let more : n < length (lines after) = omega (arith, left, length-drop k ls) in
    let same : length (text (take n (lines after))) ≡ length (text (take n (drop k ls))) = ap (λ ks. length (text (take n ks))) rest in
    let size : offset bytes (k + n) - offset bytes k ≡ offset after n =
    omega (arith, offset-within bytes (k + n) lt, offset-within bytes k (omega arith), offset-within after n more, same, text-more k n ls) in
    ap (λ m. take m after) size ∙ lines-front n after more ∙ ap (λ ks. text (take n ks)) rest
