-- The characters of words.
use Rattle.std.proofs.Common.{◌≡◌, ℕ, suc, ◌+◌, ◌*◌, ◌/◌, ◌%◌, ◌^◌, ◌<◌, List, [], ◌∷◌, ◌++◌, length, get_or, take, refl, sym, ap, ◌∙◌, arith, length-append}
use Rattle.std.specs.List.{All}
use Rattle.std.proofs.lemmas.List.{take_more, flat_map_more}
use Rattle.std.proofs.lemmas.List.Elements.{All-append, All-cons, All-nil}
use Rattle.kdf_word.specs.Characters.{bits_behind, character_of, codes_of, codes_of_all}

-- the codes of one word more
pub codes_more : (ws : List ℕ) (m w : ℕ) → m < length ws → w ≡ get_or ws m 0 → codes_of_all (take m ws) ++ codes_of w ≡ codes_of_all (take (m + 1) ws)
codes_more ws m w lt is =
    flat_map_more codes_of [] (take m ws) w
    ∙ ap (λ x. codes_of_all (take m ws ++ x ∷ [])) is
    ∙ ap codes_of_all (sym (take_more ws m 0 lt))

pub length-codes : (ws : List ℕ) → length (codes_of_all ws) ≡ 8 * length ws
length-codes [] = refl
length-codes (w ∷ ws) =
    let e : 8 + 8 * length ws ≡ 8 * suc (length ws) = omega arith in
    length-append (codes_of w) (codes_of_all ws) ∙ ap (λ n. 8 + n) (length-codes ws) ∙ e

below_64 : (x : ℕ) → x % 64 < 64
below_64 x = omega arith

code_below : (i w : ℕ) → character_of i w < 64
code_below i w = below_64 (w / 2 ^ bits_behind i)

codes_below : (w : ℕ) → All (λ (c : ℕ). c < 64) (codes_of w)
codes_below w =
    let c7 = All-cons (λ (c : ℕ). c < 64) (character_of 7 w) [] (code_below 7 w) (All-nil (λ (c : ℕ). c < 64)) in
    let c6 = All-cons (λ (c : ℕ). c < 64) (character_of 6 w) (character_of 7 w ∷ []) (code_below 6 w) c7 in
    let c5 = All-cons (λ (c : ℕ). c < 64) (character_of 5 w) (character_of 6 w ∷ character_of 7 w ∷ []) (code_below 5 w) c6 in
    let c4 = All-cons (λ (c : ℕ). c < 64) (character_of 4 w) (character_of 5 w ∷ character_of 6 w ∷ character_of 7 w ∷ []) (code_below 4 w) c5 in
    let c3 = All-cons (λ (c : ℕ). c < 64) (character_of 3 w) (character_of 4 w ∷ character_of 5 w ∷ character_of 6 w ∷ character_of 7 w ∷ [])
    (code_below 3 w) c4 in
    let c2 = All-cons (λ (c : ℕ). c < 64) (character_of 2 w)
    (character_of 3 w ∷ character_of 4 w ∷ character_of 5 w ∷ character_of 6 w ∷ character_of 7 w ∷ []) (code_below 2 w) c3 in
    let c1 = All-cons (λ (c : ℕ). c < 64) (character_of 1 w)
    (character_of 2 w ∷ character_of 3 w ∷ character_of 4 w ∷ character_of 5 w ∷ character_of 6 w ∷ character_of 7 w ∷ []) (code_below 1 w) c2 in
    All-cons (λ (c : ℕ). c < 64) (character_of 0 w)
    (character_of 1 w ∷ character_of 2 w ∷ character_of 3 w ∷ character_of 4 w ∷ character_of 5 w ∷ character_of 6 w ∷ character_of 7 w ∷ [])
    (code_below 0 w) c1

-- codes of words are below 64, and eight a word
pub codes_small : (ws : List ℕ) → All (λ c. c < 64) (codes_of_all ws)
codes_small [] = All-nil (λ c. c < 64)
codes_small (w ∷ ws) = All-append (λ c. c < 64) (codes_of w) (codes_of_all ws) (codes_below w) (codes_small ws)

pub codes_whole : (ws : List ℕ) → length (codes_of_all ws) % 8 ≡ 0
codes_whole ws = omega (arith, length-codes ws)
