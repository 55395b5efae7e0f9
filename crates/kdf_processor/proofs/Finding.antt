-- The first of some numbers that passes a test, found one after the other.
use Rattle.std.proofs.Common.{◌≡◌, ℕ, suc, ◌+◌, ◌-◌, ◌<◌, ◌≤◌, Bool, true, false, cond, Option, Some, None, List, [], ◌∷◌, refl, ap, arith}
use Rattle.std.specs.Prelude.{find}
use Rattle.std.specs.List.{range_with_len, filter}
use Rattle.kdf_processor.specs.View.{head}

-- so many numbers, where there are some
ranged : (a n k : ℕ) → k ≡ suc n → range_with_len a k ≡ a ∷ range_with_len (a + 1) n
ranged a n k e = ap (range_with_len a) e

-- the first passes
pub found_here : (p : ℕ → Bool) (a end : ℕ) → a < end → p a ≡ true → find p (range_with_len a (end - a)) ≡ Some a
found_here p a end below is =
    let e : end - a ≡ suc (end - (a + 1)) = omega arith in
    rw (ranged a (end - (a + 1)) (end - a) e, is) refl

-- it doesn't
pub found_behind : (p : ℕ → Bool) (a end : ℕ) → a < end → p a ≡ false → find p (range_with_len a (end - a)) ≡ find p (range_with_len (a + 1) (end - (a + 1)))
found_behind p a end below not =
    let e : end - a ≡ suc (end - (a + 1)) = omega arith in
    rw (ranged a (end - (a + 1)) (end - a) e, not) refl

-- there is none left
pub found_none : (p : ℕ → Bool) (a end : ℕ) → end ≤ a → find p (range_with_len a (end - a)) ≡ None
found_none p a end below =
    let e : end - a ≡ 0 = omega arith in
    rw e refl

head_cond : (b : Bool) (x : ℕ) (rest : List ℕ) (o : Option ℕ) → head rest ≡ o → head (cond b (x ∷ rest) rest) ≡ cond b (Some x) o
head_cond true x rest o e = refl
head_cond false x rest o e = e

-- the first of those that pass
pub head_filter : (p : ℕ → Bool) (xs : List ℕ) → head (filter p xs) ≡ find p xs
head_filter p [] = refl
head_filter p (x ∷ xs) = head_cond (p x) x (filter p xs) (find p xs) (head_filter p xs)
