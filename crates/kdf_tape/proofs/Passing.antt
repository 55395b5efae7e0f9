-- Blocks that are passed.
use Rattle.std.proofs.Common.{◌≡◌, ℕ, ◌-◌, ◌<◌, ◌≤◌, List, [], ◌∷◌, Some, length, take, drop, get_or, arith, refl, sym, ap, ◌∙◌, ⊎_elim, length-drop}
use Rattle.std.specs.List.{slice_get}
use Rattle.std.specs.Prelude.{reverse}
use Rattle.std.proofs.lemmas.Bool.{cases_lt}
use Rattle.std.proofs.lemmas.List.{get_or-reverse, length-reverse, reverse-append, reverse-reverse, take-append-drop, take_at, take_all}
use Rattle.std.proofs.lemmas.Option.{slice_get-get_or}

-- the first from the end is the last
pub last_is : {X : Type 0} (xs : List X) → slice_get (reverse xs) 0 ≡ slice_get xs (length xs - 1)
last_is [] = refl
last_is (x ∷ xs) =
    let l = length-reverse (x ∷ xs) in
    let some : 0 < length (x ∷ xs) = omega arith in
    let within : 0 < length (reverse (x ∷ xs)) = omega (arith, l) in
    let last : length (x ∷ xs) - 1 < length (x ∷ xs) = omega arith in
    let same : length (x ∷ xs) - 1 - 0 ≡ length (x ∷ xs) - 1 = omega arith in
    slice_get-get_or (reverse (x ∷ xs)) 0 x within ∙
    ap Some (get_or-reverse (x ∷ xs) 0 x some ∙ ap (λ n. get_or (x ∷ xs) n x) same) ∙
    sym (slice_get-get_or (x ∷ xs) (length (x ∷ xs) - 1) x last)

-- the first so many from the end, turned, are the last so many
pub back : {X : Type 0} (count : ℕ) (xs : List X) → reverse (take count (reverse xs)) ≡ drop (length xs - count) xs
back count xs =
    ⊎_elim
    (λ less.
    let n = length xs - count in
    let is : length (reverse (drop n xs)) ≡ count = omega (arith, length-reverse (drop n xs), length-drop n xs) in
    ap (λ ys. reverse (take count (reverse ys))) (sym (take-append-drop n xs)) ∙
    ap (λ ys. reverse (take count ys)) (reverse-append (take n xs) (drop n xs)) ∙
    ap reverse (take_at (reverse (drop n xs)) (reverse (take n xs)) count is) ∙ reverse-reverse (drop n xs))
    (λ more.
    let none : 0 ≡ length xs - count = omega arith in
    let all : length (reverse xs) ≤ count = omega (arith, length-reverse xs) in
    ap reverse (take_all count (reverse xs) all) ∙ reverse-reverse xs ∙ ap (λ n. drop n xs) none)
    (cases_lt count (length xs))
