-- A front of what is left, copied to the front of a slice.
use Rattle.std.proofs.Common.{◌≡◌, ℕ, ◌+◌, List, ◌++◌, length, take, drop, sym, ap, ◌∙◌}
use Rattle.std.proofs.lemmas.List.{take_at, drop-drop, take-append-drop}

-- the front that was copied, and what is left after it, are all that was left
pub copied_front : (bytes copied rest : List ℕ) (at n : ℕ) → length copied ≡ n → copied ≡ take n (drop at bytes)
    → drop at bytes ≡ take n (copied ++ rest) ++ drop (at + n) bytes
copied_front bytes copied rest at n e p =
    sym (take-append-drop n (drop at bytes)) ∙ ap (λ xs. xs ++ drop n (drop at bytes)) (sym (take_at copied rest n e ∙ p))
    ∙ ap (λ xs. take n (copied ++ rest) ++ xs) (drop-drop n at bytes)
