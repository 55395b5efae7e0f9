-- End Messages.
use Rattle.std.proofs.Common.{◌≡◌, ℕ, suc, ◌+◌, ◌<◌, ◌≤◌, Bool, true, not, cond, eqb, List, [], ◌∷◌, Some, None, length, take, arith, refl, sym, ap, ◌∙◌}
use Rattle.std.proofs.Common.{nat_lt, ⊎_elim, length-take}
use Rattle.std.specs.List.{list_any, position, position_or_len}
use Rattle.std.specs.Io.BufRead.{take_through}
use Rattle.std.proofs.lemmas.Bool.{cases_Bool, ltb-false}
use Rattle.std.proofs.lemmas.List.{take_all}

abbrev is_end : ℕ → Bool
is_end code = eqb code 61

-- the characters up to the first End Message, and it; all where there is none
up_to : (codes : List ℕ) → take (suc (position_or_len is_end codes)) codes ≡ take_through 61 codes
up_to [] = refl
up_to (c ∷ codes) =
    ⊎_elim
    (λ yes. ap (λ b. take (suc (cond (not b) (1 + position_or_len is_end codes) 0)) (c ∷ codes)) yes
    ∙ sym (ap (λ b. cond b (c ∷ []) (c ∷ take_through 61 codes)) yes))
    (λ none.
    let e : suc (1 + position_or_len is_end codes) ≡ suc (suc (position_or_len is_end codes)) = omega arith in
    ap (λ b. take (suc (cond (not b) (1 + position_or_len is_end codes) 0)) (c ∷ codes)) none ∙ ap (λ n. take n (c ∷ codes)) e ∙
    ap (λ xs. c ∷ xs) (up_to codes) ∙ sym (ap (λ b. cond b (c ∷ []) (c ∷ take_through 61 codes)) none))
    (cases_Bool (is_end c))

pub through_found : (codes : List ℕ) (place : ℕ) → position is_end codes ≡ Some place → take (place + 1) codes ≡ take_through 61 codes
through_found codes place h =
    ⊎_elim
    (λ yes.
    let same : Some (position_or_len is_end codes) ≡ Some place = sym (ap (λ b. cond b (Some (position_or_len is_end codes)) None) yes) ∙ h in
    let is : place + 1 ≡ suc (position_or_len is_end codes) = grind arith in
    ap (λ n. take n codes) is ∙ up_to codes)
    (λ none.
    let same : None ≡ Some place = sym (ap (λ b. cond b (Some (position_or_len is_end codes)) None) none) ∙ h in
    absurd cc)
    (cases_Bool (nat_lt (position_or_len is_end codes) (length codes)))

pub through_none : (codes : List ℕ) → position is_end codes ≡ None → codes ≡ take_through 61 codes
through_none codes h =
    ⊎_elim
    (λ yes.
    let same : Some (position_or_len is_end codes) ≡ None = sym (ap (λ b. cond b (Some (position_or_len is_end codes)) None) yes) ∙ h in
    absurd cc)
    (λ none.
    let le : length codes ≤ position_or_len is_end codes = ltb-false _ _ none in
    sym (take_all (suc (position_or_len is_end codes)) codes (omega arith)) ∙ up_to codes)
    (cases_Bool (nat_lt (position_or_len is_end codes) (length codes)))

-- no more characters are read than there are
pub through_end_within : (codes : List ℕ) → length (take_through 61 codes) ≤ length codes
through_end_within codes =
    let l = length-take (suc (position_or_len is_end codes)) codes in
    let e = ap length (up_to codes) in
    omega (arith, l, e)

-- at least the End Message is read
pub through_end_some : (codes : List ℕ) → list_any is_end codes ≡ true → 0 < length (take_through 61 codes)
through_end_some [] h = absurd cc
through_end_some (c ∷ codes) h =
    ⊎_elim
    (λ yes. let l = ap (λ b. length (cond b (c ∷ []) (c ∷ take_through 61 codes))) yes in omega (arith, l))
    (λ none. let l = ap (λ b. length (cond b (c ∷ []) (c ∷ take_through 61 codes))) none in omega (arith, l))
    (cases_Bool (is_end c))
