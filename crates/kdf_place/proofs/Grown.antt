-- Lists that grow by what each statement of a walk gives.
use Rattle.std.proofs.Common.{◌≡◌, ℕ, ◌+◌, ◌<◌, ◌≤◌, length, get_or, drop, replicate, List, [], ◌∷◌, ◌++◌, sym, ap, ◌∙◌, append_assoc, subst}
use Rattle.std.proofs.lemmas.List.{at_drop_all, at_drop_more, replicate_more}
use Rattle.kdf_usercode.specs.declared.statement.Statement.{Statement}
use Rattle.kdf_usercode.specs.WellFormed.{AreInRange, IsWhat}
use Rattle.kdf_place.specs.declared.here.Here.{Here}
use Rattle.kdf_place.specs.Layout.{after}

-- what a statement gives came after the others, and what the later ones give comes after it
pub grown : {A : Type 0} (f : Here → List Statement → List A) (out out' one : List A) (here here' : Here) (i : ℕ) (ss : List Statement) (s : Statement)
    (all : List A)
    → i < length ss → s ≡ get_or ss i s → here' ≡ after here s → f here (s ∷ drop (i + 1) ss) ≡ one ++ f (after here s) (drop (i + 1) ss)
    → out' ≡ out ++ one → out ++ f here (drop i ss) ≡ all → out' ++ f here' (drop (i + 1) ss) ≡ all
grown {A = A} f out out' one here here' i ss s all lt is h gives more before =
    let rest = f (after here s) (drop (i + 1) ss) in
    let split : f here (drop i ss) ≡ one ++ rest =
    at_drop_more (f here) ss i s lt ∙ ap (λ (x : Statement). f here (x ∷ drop (i + 1) ss)) (sym is) ∙ gives in
    ap (λ (k : Here). out' ++ f k (drop (i + 1) ss)) h
    ∙ ap (λ (xs : List A). xs ++ rest) more
    ∙ append_assoc out one rest
    ∙ ap (λ (xs : List A). out ++ xs) (sym split)
    ∙ before

-- where a walk has come to the end, what then comes after the others completes them
pub ended : {A : Type 0} (f : Here → List Statement → List A) (out out' all : List A) (here : Here) (i : ℕ) (ss : List Statement)
    → length ss ≤ i → out ++ f here (drop i ss) ≡ all → out' ≡ out ++ f here [] → out' ≡ all
ended {A = A} f out out' all here i ss past before last =
    last ∙ sym (at_drop_all (λ (xs : List Statement). out ++ f here xs) ss i past) ∙ before

-- the statement that a walk has come to is in range
pub in_range-here : (ss : List Statement) (i : ℕ) (s : Statement) → i < length ss → s ≡ get_or ss i s → AreInRange (drop i ss) → IsWhat s.what
in_range-here ss i s lt is are =
    let split : drop i ss ≡ get_or ss i s ∷ drop (i + 1) ss = at_drop_more (λ (xs : List Statement). xs) ss i s lt in
    let both : AreInRange (get_or ss i s ∷ drop (i + 1) ss) = subst (λ (xs : List Statement). AreInRange xs) split are in
    subst (λ (x : Statement). IsWhat x.what) (sym is) both.0

-- the later statements are in range as well
pub in_range-more : (ss : List Statement) (i : ℕ) (d : Statement) → i < length ss → AreInRange (drop i ss) → AreInRange (drop (i + 1) ss)
in_range-more ss i d lt are =
    let split : drop i ss ≡ get_or ss i d ∷ drop (i + 1) ss = at_drop_more (λ (xs : List Statement). xs) ss i d lt in
    let both : AreInRange (get_or ss i d ∷ drop (i + 1) ss) = subst (λ (xs : List Statement). AreInRange xs) split are in
    both.1

-- one copy more came after the others
pub copies-more : {A : Type 0} (out out' old : List A) (k : ℕ) (x : A) → out' ≡ out ++ x ∷ [] → out ≡ old ++ replicate k x → out' ≡ old ++ replicate (k + 1) x
copies-more {A = A} out out' old k x more before =
    more ∙ ap (λ (xs : List A). xs ++ x ∷ []) before ∙ append_assoc old (replicate k x) (x ∷ []) ∙ ap (λ (xs : List A). old ++ xs) (replicate_more k x)
