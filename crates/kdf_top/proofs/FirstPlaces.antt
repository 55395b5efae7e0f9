-- Where two lists differ first.
use Rattle.std.proofs.Common.{◌≡◌, ℕ, ◌+◌, ◌<◌, ◌≤◌, List, length, length-take, take, sym, ap, ◌∙◌, arith}
use Rattle.std.proofs.lemmas.List.{take-take}
use Rattle.kdf_snapshot.specs.Differs.{IsDifference}
use Rattle.kdf_top.proofs.LoadedDecks.{all_taken}

-- lists that differ aren't the same
pub not_same : {A : Type 0} (xs ys : List A) (n : ℕ) → IsDifference xs ys n → xs ≡ ys → ⊥
not_same xs ys n d e = d.here (ap (take (n + 1)) e)

-- what is alike up to a place is alike up to every earlier one
alike_before : {A : Type 0} (xs ys : List A) (n m : ℕ) → n ≤ m → take m xs ≡ take m ys → take n xs ≡ take n ys
alike_before xs ys n m le e = sym (take-take n m xs le) ∙ ap (take n) e ∙ take-take n m ys le

not_earlier : {A : Type 0} (xs ys : List A) (n m : ℕ) → IsDifference xs ys n → IsDifference xs ys m → n < m → ⊥
not_earlier xs ys n m d e lt = d.here (alike_before xs ys (n + 1) m (omega arith) e.alike)

-- and the first such place is one
pub one_place : {A : Type 0} (xs ys : List A) (n m : ℕ) → IsDifference xs ys n → IsDifference xs ys m → n ≡ m
one_place xs ys n m d e =
    let before = not_earlier xs ys n m d e in
    let after = not_earlier xs ys m n e d in
    omega (arith, before, after)

-- it is no later than the end of either
pub within : {A : Type 0} (xs ys : List A) (n : ℕ) → IsDifference xs ys n → n ≤ length xs
within xs ys n d = let late = past xs ys n d in omega (arith, late)
  where
    past : {A : Type 0} (xs ys : List A) (n : ℕ) → IsDifference xs ys n → length xs < n → ⊥
    past xs ys n d lt =
        let all = all_taken xs n (omega arith) in
        let same : length (take n ys) ≡ length xs = ap length (sym d.alike ∙ all) in
        let short : length ys ≤ n = omega (arith, length-take n ys, same) in
        d.here (all_taken xs (n + 1) (omega arith) ∙ sym all ∙ d.alike ∙ all_taken ys n short ∙ sym (all_taken ys (n + 1) (omega arith)))
