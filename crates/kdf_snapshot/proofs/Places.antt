-- Where two lists differ.
use Rattle.std.proofs.Common.{◌≡◌, ◌≢◌, ℕ, ◌+◌, ◌≤◌, ◌<◌, List, length, get_or, take, refl, sym, ap, ◌∙◌, arith, length-take}
use Rattle.std.proofs.lemmas.List.{take_all, take_more, get_or-take, get_or_default}
use Rattle.kdf_snapshot.specs.Differs.{IsDifference}

-- the front of one list is that of the other, one member further
pub more-alike : {A : Type 0} (xs ys : List A) (i : ℕ) (d e : A) → i < length xs → i < length ys → take i xs ≡ take i ys → get_or ys i e ≡ get_or xs i d
    → take (i + 1) xs ≡ take (i + 1) ys
more-alike xs ys i d e lt lt' front here = rw (take_more xs i d lt, take_more ys i e lt', front, here) refl

-- they differ where one is at its end and the other goes on
pub at-end : {A : Type 0} (xs ys : List A) (n : ℕ) → take n xs ≡ take n ys → length xs ≤ n → n < length ys → IsDifference xs ys n
at-end xs ys n front over on = record {
  alike = front;
  here = λ e. (let count : length (take (n + 1) xs) ≡ length (take (n + 1) ys) =
      ap length e in omega (arith, count, length-take (n + 1) xs, length-take (n + 1) ys));
}

pub at-end-of : {A : Type 0} (xs ys : List A) (n : ℕ) → take n xs ≡ take n ys → n < length xs → length ys ≤ n → IsDifference xs ys n
at-end-of xs ys n front on over = record {
  alike = front;
  here = λ e. (let count : length (take (n + 1) xs) ≡ length (take (n + 1) ys) =
      ap length e in omega (arith, count, length-take (n + 1) xs, length-take (n + 1) ys));
}

-- and where they have another member
pub at-member : {A : Type 0} (xs ys : List A) (n : ℕ) (d e : A) → take n xs ≡ take n ys → n < length xs → n < length ys → get_or ys n e ≢ get_or xs n d
    → IsDifference xs ys n
at-member xs ys n d e front on on' other = record {
  alike = front;
  here = λ same. other
      (get_or_default ys n e d on' ∙ sym (get_or-take (n + 1) ys n d (omega arith)) ∙ ap (λ zs. get_or zs n d) (sym same)
      ∙ get_or-take (n + 1) xs n d (omega arith));
}

-- lists that are alike as far as both go, and neither goes further
pub same-lists : {A : Type 0} (xs ys : List A) (n : ℕ) → take n xs ≡ take n ys → length xs ≤ n → length ys ≤ n → xs ≡ ys
same-lists xs ys n front le le' = sym (take_all n xs le) ∙ front ∙ take_all n ys le'
