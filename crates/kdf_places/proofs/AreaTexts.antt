-- The text of an area that is free.
use Rattle.std.proofs.Common.{◌≡◌, ℕ, ◌+◌, ◌-◌, ◌*◌, ◌/◌, ◌<◌, ◌≤◌, false, [], ◌++◌, length, map, refl, sym, ap, ◌∙◌, arith}
use Rattle.std.specs.List.{range_with_len}
use Rattle.std.proofs.lemmas.List.{flat_map_more}
use Rattle.std.proofs.lemmas.List.FromFn.{length-map-range_with_len, map-range_with_len_more}
use Rattle.kdf_word.specs.Characters.{codes_of, codes_of_all}
use Rattle.kdf_lockout.specs.Groups.{Cells, is_out, touched}
use Rattle.kdf_lockout.proofs.Ranges.{none_in_range}
use Rattle.kdf_transfer.proofs.Codes.{length-codes}
use Rattle.kdf_places.specs.Transfers.{IsFreeArea}

-- one word more
pub text_more : (f : ℕ → ℕ) (first i : ℕ) → codes_of_all (map f (range_with_len first i)) ++ codes_of (f (first + i)) ≡ codes_of_all
    (map f (range_with_len first (i + 1)))
text_more f first i =
    flat_map_more codes_of [] (map f (range_with_len first i)) (f (first + i))
    ∙ ap codes_of_all (sym (map-range_with_len_more f first i (first + i) refl))

pub length-text : (f : ℕ → ℕ) (first i : ℕ) → length (codes_of_all (map f (range_with_len first i))) ≡ 8 * i
length-text f first i = length-codes (map f (range_with_len first i)) ∙ ap (λ n. 8 * n) (length-map-range_with_len f first i)

-- the group of a place of a free area is here
pub here_at : (cells : Cells) (first last place : ℕ) → IsFreeArea cells first last → first ≤ place → place ≤ last → is_out cells (place / 32) ≡ false
here_at cells first last place free low high =
    let i : place / 32 - first / 32 < touched first last = omega arith in
    let e : first / 32 + (place / 32 - first / 32) ≡ place / 32 = omega arith in
    ap (is_out cells) (sym e) ∙ none_in_range (is_out cells) (first / 32) (touched first last) (place / 32 - first / 32) free.free i
