-- What is kept of the statements of a deck.
use Rattle.std.proofs.Common.{◌≡◌, ℕ, true, false, if◌then◌else◌, List, [], ◌∷◌, ◌++◌, Option, Some, refl, sym, ap, ◌∙◌, append_assoc}
use Rattle.kdf_usercode.specs.declared.phase.Stage.{Stage}
use Rattle.kdf_usercode.specs.declared.phase.Stage.TheVariants.{Heading}
use Rattle.kdf_usercode.specs.declared.stars.Stars.{Stars}
use Rattle.kdf_usercode.specs.declared.stars.Stars.TheVariants.{Every}
use Rattle.kdf_usercode.specs.declared.statement.Statement.{Statement}
use Rattle.kdf_usercode.specs.declared.statement.What.{What}
use Rattle.kdf_usercode.specs.declared.forms.Form.{Form}
use Rattle.kdf_usercode.specs.declared.forms.Form.TheVariants as forms
use Rattle.kdf_usercode.specs.declared.stores.Direction.{Direction}
use Rattle.kdf_usercode.specs.declared.stores.Direction.TheVariants as directions
use Rattle.kdf_usercode.specs.declared.stores.StoreName.{StoreName}
use Rattle.kdf_usercode.specs.declared.stores.Suffix.{Suffix}
use Rattle.kdf_usercode.specs.Forms.{declared_or, what_of}
use Rattle.kdf_usercode.specs.Stores.{declared_group, access_of}
use Rattle.kdf_usercode.specs.Thinned.{is_star, keeps, keeps_star, says_star, stars_after, stars_past, thinned, stars_behind}

-- first these, then those
pub thinned-append : (stars : Stars) (xs ys : List Statement) → thinned stars (xs ++ ys) ≡ thinned stars xs ++ thinned (stars_behind stars xs) ys
thinned-append stars [] ys = refl
thinned-append stars (s ∷ xs) ys =
    let one : List Statement = if keeps stars s.what then s ∷ [] else [] in
    let next = stars_after stars s.what in
    ap (λ (zs : List Statement). one ++ zs) (thinned-append next xs ys) ∙ sym (append_assoc one (thinned next xs) (thinned (stars_behind next xs) ys))

-- all are kept where every `*` is
pub thinned-every : (ss : List Statement) → thinned Every ss ≡ ss
thinned-every [] = refl
thinned-every (s ∷ ss) = ap (λ (zs : List Statement). s ∷ zs) (thinned-every ss)

-- ---- one statement, by its form

declared-no-star : (stage : Stage) (group : Option ℕ) (n : ℕ) (what : What) → is_star what ≡ false → is_star (declared_or stage group n what) ≡ false
declared-no-star Heading (Some g) n what e = refl
declared-no-star stage group n what e = e

access-no-star : (direction : Direction) (name : StoreName) (suffix : Suffix) (ns : List ℕ) → is_star (access_of direction name suffix ns) ≡ false
access-no-star directions.Fetch name suffix ns = refl
access-no-star directions.Keep name suffix ns = refl

-- the form says whether it is a `*`
pub star-form : (stage : Stage) (form : Form) (ns text : List ℕ) → is_star (what_of stage form ns text) ≡ says_star form
star-form stage (forms.Access direction name suffix) ns text =
    declared-no-star stage (declared_group direction name suffix) _ (access_of direction name suffix ns) (access-no-star direction name suffix ns)
star-form stage form ns text = refl

pub kept-one : (stars : Stars) (form : Form) (place : ℕ) (what : What) → is_star what ≡ says_star form → keeps_star stars (says_star form) ≡ true
    → thinned stars (record { place = place; what = what } ∷ []) ≡ record { place = place; what = what } ∷ []
kept-one stars form place what same keeps_it = rw (same, keeps_it) refl

pub kept-none : (stars : Stars) (form : Form) (place : ℕ) (what : What) → is_star what ≡ says_star form → keeps_star stars (says_star form) ≡ false
    → thinned stars (record { place = place; what = what } ∷ []) ≡ []
kept-none stars form place what same leaves_it = rw (same, leaves_it) refl

pub behind-one : (stars : Stars) (form : Form) (place : ℕ) (what : What) → is_star what ≡ says_star form
    → stars_behind stars (record { place = place; what = what } ∷ []) ≡ stars_past stars (says_star form)
behind-one stars form place what same = rw same refl
