-- Two texts, line by line.
use Rattle.std.proofs.Common.{◌≡◌, ◌≢◌, ℕ, ◌+◌, ◌<◌, ◌≤◌, Bool, true, false, cond, eqb, List, [], ◌∷◌, length, take, drop, ◌++◌, refl, sym, ap, ◌∙◌, arith}
use Rattle.std.proofs.lemmas.List.{append-nil, drop-drop, drop-take, take-append-drop}
use Rattle.std.proofs.Math.Seq.{take-add}
use Rattle.kdf_text.specs.Lines.{in_first, lines}
use Rattle.kdf_text.proofs.Cutting.{has, lines-left, no-lines, some-lines}
use Rattle.kdf_snapshot.specs.Differs.{IsDifference}

nil_lines : lines [] ≡ []
unfolding lines
nil_lines = refl

-- a text without an end of a line is one line
pub one_line : (text : List ℕ) → 0 < length text → has 10 text ≡ false → lines text ≡ text ∷ lines []
one_line [] some none = absurd (omega arith)
one_line (b ∷ text) some none = lines-left (b ∷ text) none ∙ ap (λ ls. (b ∷ text) ∷ ls) (sym nil_lines)

-- so many lines of two texts are the same, and these are those that are left
pub record SameSoFar (these those : List (List ℕ)) (n : ℕ) (this that : List (List ℕ)) : Type 0 where
  pub alike : take n these ≡ take n those
  pub these_left : drop n these ≡ this
  pub those_left : drop n those ≡ that

-- a line more
module _ (these those : List (List ℕ)) (n : ℕ) (this that : List (List ℕ)) (so : SameSoFar these those n this that) where
  pub one_more : (x : List ℕ) (this' that' : List (List ℕ)) → this ≡ x ∷ this' → that ≡ x ∷ that' → SameSoFar these those (n + 1) this' that'
  one_more x this' that' e f = record {
    alike = next these this this' so.these_left e ∙ ap (λ (ls : List (List ℕ)). ls ++ x ∷ []) so.alike ∙ sym (next those that that' so.those_left f);
    these_left = rest these this this' so.these_left e;
    those_left = rest those that that' so.those_left f;
  }
    where
      next : (all left left' : List (List ℕ)) → drop n all ≡ left → left ≡ x ∷ left' → take (n + 1) all ≡ take n all ++ x ∷ []
      next all left left' is e = take-add n 1 all ∙ ap (λ (ls : List (List ℕ)). take n all ++ take 1 ls) (is ∙ e)

      rest : (all left left' : List (List ℕ)) → drop n all ≡ left → left ≡ x ∷ left' → drop (n + 1) all ≡ left'
      rest all left left' is e = sym (drop-drop 1 n all) ∙ ap (drop 1) (is ∙ e)

  -- the next lines differ
  pub differ : take 1 this ≢ take 1 that → IsDifference these those n
  differ other = record { alike = so.alike; here = λ e. other (first these this so.these_left ∙ ap (drop n) e ∙ sym (first those that so.those_left)) }
    where
      first : (all left : List (List ℕ)) → drop n all ≡ left → take 1 left ≡ drop n (take (n + 1) all)
      first all left is = ap (take 1) (sym is) ∙ sym (drop-take n 1 all)

  -- no line is left
  pub same : this ≡ [] → that ≡ [] → these ≡ those
  same none none' =
      whole these this so.these_left none ∙ so.alike ∙ sym (whole those that so.those_left none')
    where
      whole : (all left : List (List ℕ)) → drop n all ≡ left → left ≡ [] → all ≡ take n all
      whole all left is none = sym (take-append-drop n all) ∙ ap (λ (ls : List (List ℕ)). take n all ++ ls) (is ∙ none) ∙ append-nil (take n all)

-- two lines that differ, and a line and none
pub other_lines : (x y : List ℕ) (this that this' that' : List (List ℕ)) → x ≢ y → this ≡ x ∷ this' → that ≡ y ∷ that' → take 1 this ≢ take 1 that
other_lines x y this that this' that' other e f same =
    let heads : x ∷ [] ≡ y ∷ [] = sym (ap (take 1) e) ∙ same ∙ ap (take 1) f in
    other cc

pub more_lines : (this that : List ℕ) → eqb (length this) 0 ≡ false → eqb (length that) 0 ≡ true → take 1 (lines this) ≢ take 1 (lines that)
more_lines this that some none same =
    let one : 0 < length (lines this) = some-lines this some in
    let left : take 1 (lines this) ≡ [] = same ∙ ap (take 1) (no-lines that none) in
    not_none (lines this) one left
  where
    not_none : (ls : List (List ℕ)) → 0 < length ls → take 1 ls ≡ [] → ⊥
    not_none [] some e = absurd (omega arith)
    not_none (l ∷ ls) some e = cc

-- a text has no more lines than bytes
pub few_lines : (text : List ℕ) → length (lines text) ≤ length text
unfolding lines
few_lines [] = omega arith
few_lines (b ∷ text) =
    let later = few_lines text in
    elim (eqb b 10) as (λ (x : Bool). length (cond x ([] ∷ lines text) (in_first b (lines text))) ≤ length (b ∷ text))
    [ true ↦ omega arith | false ↦ with_first b (lines text) later ]
  where
    with_first : (b : ℕ) (ls : List (List ℕ)) → length ls ≤ length text → length (in_first b ls) ≤ length (b ∷ text)
    with_first b [] le = omega arith
    with_first b (l ∷ ls) le = omega arith
