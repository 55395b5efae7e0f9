-- A line and its words.
use Rattle.std.proofs.Common.{◌≡◌, ℕ, Bool, true, false, cond, eqb, List, [], ◌∷◌, ◌++◌, refl, sym, ap, ◌∙◌, ⊎_elim}
use Rattle.std.proofs.lemmas.Bool.{cases_Bool, eqb-true}
use Rattle.kdf_text.specs.Lines.{words, word_byte, in_first, spaced}
use Rattle.kdf_text.proofs.Cutting.{has}
use Rattle.kdf_text.proofs.WordCuts.{words-at, words-some}

-- the first word of a line that begins with it and a space
pub words-front : (front rest : List ℕ) → has 32 front ≡ false → words (front ++ 32 ∷ rest) ≡ front ∷ words rest
words-front front rest none = words-at (front ++ 32 ∷ rest) front rest refl none

spaced-in_first : (b : ℕ) (ws : List (List ℕ)) (w : List ℕ) (vs : List (List ℕ)) → ws ≡ w ∷ vs → spaced (in_first b ws) ≡ b ∷ spaced ws
spaced-in_first b ws w [] is = rw is refl
spaced-in_first b ws w (v ∷ vs) is = rw is refl

spaced-empty : (ws : List (List ℕ)) (w : List ℕ) (vs : List (List ℕ)) → ws ≡ w ∷ vs → spaced ([] ∷ ws) ≡ 32 ∷ spaced ws
spaced-empty ws w vs is = rw is refl

-- a line is its words with a space between them
pub spaced-words : (line : List ℕ) → spaced (words line) ≡ line
unfolding words
spaced-words [] = refl
spaced-words (b ∷ line) =
    let some = words-some line in
    ⊎_elim
    (λ (is : eqb b 32 ≡ true). rw (is, eqb-true b 32 is) (spaced-empty (words line) some.first some.others some.is
    ∙ ap (λ (l : List ℕ). 32 ∷ l) (spaced-words line)))
    (λ (isnt : eqb b 32 ≡ false). rw isnt (spaced-in_first b (words line) some.first some.others some.is ∙ ap (λ (l : List ℕ). b ∷ l) (spaced-words line)))
    (cases_Bool (eqb b 32))
