-- Words that go out up to an End Message, and the characters of which they end a block.
use Rattle.std.proofs.Common.{◌≡◌, ℕ, true, false, cond, eqb, List, [], ◌∷◌, ◌++◌, refl, sym, ap, ◌∙◌, ⊎_elim}
use Rattle.std.specs.Prelude.{◌||◌}
use Rattle.std.specs.Io.BufRead.{take_through}
use Rattle.std.proofs.lemmas.Bool.{cases_Bool, or_parts}
use Rattle.kdf_word.specs.Characters.{codes_of, codes_of_all}
use Rattle.kdf_media.specs.Media.{has_end, through_end, through_end_word}

-- the first End Message lies in the front, or after it
pub through_end-front : (xs ys : List ℕ) → has_end xs ≡ true → through_end (xs ++ ys) ≡ through_end xs
through_end-front [] ys h = absurd cc
through_end-front (c ∷ xs) ys h =
    ⊎_elim
    (λ yes. ap (λ b. cond b (c ∷ []) (c ∷ take_through 61 (xs ++ ys))) yes ∙ sym (ap (λ b. cond b (c ∷ []) (c ∷ take_through 61 xs)) yes))
    (λ none.
    let rest : has_end xs ≡ true = sym (ap (λ b. b || has_end xs) none) ∙ h in
    ap (λ b. cond b (c ∷ []) (c ∷ take_through 61 (xs ++ ys))) none ∙ ap (λ zs. c ∷ zs) (through_end-front xs ys rest) ∙
    sym (ap (λ b. cond b (c ∷ []) (c ∷ take_through 61 xs)) none))
    (cases_Bool (eqb c 61))

pub through_end-behind : (xs ys : List ℕ) → has_end xs ≡ false → through_end (xs ++ ys) ≡ xs ++ through_end ys
through_end-behind [] ys h = refl
through_end-behind (c ∷ xs) ys h =
    let parts = or_parts (eqb c 61) (has_end xs) h in
    ap (λ b. cond b (c ∷ []) (c ∷ take_through 61 (xs ++ ys))) parts.0 ∙ ap (λ zs. c ∷ zs) (through_end-behind xs ys parts.1)

-- the words up to the first with an End Message have the characters up to it
pub through_end-word : (words : List ℕ) → through_end (codes_of_all (through_end_word words)) ≡ through_end (codes_of_all words)
through_end-word [] = refl
through_end-word (w ∷ words) =
    ⊎_elim
    (λ yes.
    ap (λ b. through_end (codes_of_all (cond b (w ∷ []) (w ∷ through_end_word words)))) yes ∙
    through_end-front (codes_of w) [] yes ∙ sym (through_end-front (codes_of w) (codes_of_all words) yes))
    (λ none.
    ap (λ b. through_end (codes_of_all (cond b (w ∷ []) (w ∷ through_end_word words)))) none ∙
    through_end-behind (codes_of w) (codes_of_all (through_end_word words)) none ∙
    ap (λ xs. codes_of w ++ xs) (through_end-word words) ∙ sym (through_end-behind (codes_of w) (codes_of_all words) none))
    (cases_Bool (has_end (codes_of w)))
