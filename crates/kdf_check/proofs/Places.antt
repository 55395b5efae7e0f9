-- Where two lists differ that begin alike.
use Rattle.std.proofs.Common.{◌≡◌, ◌≢◌, ℕ, suc, ◌+◌, List, [], ◌∷◌, ◌++◌, length, take, refl, ap, subst, arith}
use Rattle.kdf_check.specs.Differs.{IsDifference}

tail-same : {A : Type 0} (x : A) (xs ys : List A) → x ∷ xs ≡ x ∷ ys → xs ≡ ys
tail-same x xs ys e = cc

-- with another member before both, they differ a place later
later : {A : Type 0} (x : A) (xs ys : List A) (n : ℕ) → IsDifference xs ys n → IsDifference (x ∷ xs) (x ∷ ys) (suc n)
later x xs ys n d =
    let next : suc n + 1 ≡ suc (n + 1) = omega arith in
    record {
      alike = ap (λ zs. x ∷ zs) d.alike;
      here = λ e. d.here (tail-same x (take (n + 1) xs) (take (n + 1) ys) (subst (λ k. take k (x ∷ xs) ≡ take k (x ∷ ys)) next e));
    }

-- those that begin alike and go on otherwise at once
pub differ-after : {A : Type 0} (front xs ys : List A) → take 1 xs ≢ take 1 ys → IsDifference (front ++ xs) (front ++ ys) (length front)
differ-after [] xs ys apart = record { alike = refl; here = apart }
differ-after (x ∷ front) xs ys apart = later x (front ++ xs) (front ++ ys) (length front) (differ-after front xs ys apart)
