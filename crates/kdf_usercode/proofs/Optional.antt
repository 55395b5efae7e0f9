-- What holds of all that is found.
use Rattle.std.proofs.Common.{◌≡◌, ℕ, Bool, true, false, cond, ◌&&◌, List, [], ◌∷◌, Option, Some, None, refl, subst}
use Rattle.std.specs.List.{list_all}
use Rattle.std.specs.Str.{bytes_eq}
use Rattle.kdf_usercode.specs.Parse.{◌>>=◌, ◌or◌, opt_map, row_in}

abbrev pub Holds : {A : Type 0} → (A → Type 0) → Option A → Type 0
Holds P None = Unit {0}
Holds P (Some x) = P x

pub holds-found : {A : Type 0} (P : A → Type 0) (o : Option A) (x : A) → Holds P o → o ≡ Some x → P x
holds-found P o x h e = subst (Holds P) e h

pub holds-any : {A : Type 0} (P : A → Type 0) (o : Option A) → ((x : A) → P x) → Holds P o
holds-any P None f = tt
holds-any P (Some x) f = f x

pub holds-or : {A : Type 0} (P : A → Type 0) (a b : Option A) → Holds P a → Holds P b → Holds P (a or b)
holds-or P None b h g = g
holds-or P (Some x) b h g = h

pub holds-map : {A B : Type 0} (P : A → Type 0) (R : B → Type 0) (f : A → B) (o : Option A) → Holds P o
    → ((x : A) → P x → R (f x)) → Holds R (opt_map f o)
holds-map P R f None h g = tt
holds-map P R f (Some x) h g = g x h

pub holds-bind : {A B : Type 0} (P : A → Type 0) (R : B → Type 0) (o : Option A) (f : A → Option B)
    → Holds P o → ((x : A) → P x → Holds R (f x)) → Holds R (o >>= f)
holds-bind P R None f h g = tt
holds-bind P R (Some x) f h g = g x h

pub holds-if : {A : Type 0} (P : A → Type 0) (b : Bool) (x : A) → P x → Holds P (cond b (Some x) None)
holds-if P true x h = h
holds-if P false x h = tt

pub both-true : (a b : Bool) → (a && b) ≡ true → (a ≡ true) × (b ≡ true)
both-true true b e = (refl, e)
both-true false b e = absurd cc

-- what holds of each row of a table holds of what is found in it
pub holds-row : {A : Type 0} (p : A → Bool) (rows : List (List ℕ × A)) (text : List ℕ)
    → list_all (λ r. p r.1) rows ≡ true → Holds (λ x. p x ≡ true) (row_in rows text)
holds-row p [] text all = tt
holds-row {A = A} p (r ∷ rows) text all =
    let h = both-true (p r.1) (list_all (λ r. p r.1) rows) all in
    let rest = holds-row p rows text h.1 in
    elim (bytes_eq r.0 text) as (λ b. Holds (λ x. p x ≡ true) (cond b (Some r.1) (row_in rows text))) [ true ↦ h.0 | false ↦ rest ]
