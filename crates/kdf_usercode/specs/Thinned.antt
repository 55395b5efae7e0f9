-- A deck without the `*` that do nothing: those directly after another.
use Rattle.std.specs.Prelude.{ℕ, Bool, true, false, not, List, [], ◌∷◌, ◌++◌, if◌then◌else◌, Result}
use Rattle.kdf_usercode.specs.declared.forms.Form.{Form}
use Rattle.kdf_usercode.specs.declared.forms.Form.TheVariants as forms
use Rattle.kdf_usercode.specs.declared.stars.Stars.{Stars}
use Rattle.kdf_usercode.specs.declared.stars.Stars.TheVariants.{Every, AfterStar, AfterOther}
use Rattle.kdf_usercode.specs.declared.statement.Statement.{Statement}
use Rattle.kdf_usercode.specs.declared.statement.What.{What}
use Rattle.kdf_usercode.specs.declared.statement.What.TheVariants.{Star}
use Rattle.kdf_usercode.specs.Faults.{FoundFault}
use Rattle.kdf_usercode.specs.Grammar.{early, statements, verdict}

abbrev pub is_star : What → Bool
is_star Star = true
is_star what = false

-- a `*` after a `*` isn't kept, where not every one is
abbrev pub keeps_star : Stars → Bool → Bool
keeps_star AfterStar star = not star
keeps_star stars star = true

abbrev pub stars_past : Stars → Bool → Stars
stars_past Every star = Every
stars_past stars true = AfterStar
stars_past stars false = AfterOther

abbrev pub keeps : Stars → What → Bool
keeps stars what = keeps_star stars (is_star what)

abbrev pub stars_after : Stars → What → Stars
stars_after stars what = stars_past stars (is_star what)

-- the form of a `*`
abbrev pub says_star : Form → Bool
says_star forms.Star = true
says_star form = false

-- the statements that are kept of these
abbrev pub thinned : Stars → List Statement → List Statement
thinned stars [] = []
thinned stars (s ∷ ss) =
    (if keeps stars s.what then s ∷ [] else []) ++ thinned (stars_after stars s.what) ss

abbrev pub stars_behind : Stars → List Statement → Stars
stars_behind stars [] = stars
stars_behind stars (s ∷ ss) = stars_behind (stars_after stars s.what) ss

-- what is kept of the statements of a deck, or its first fault
abbrev pub thinned_deck : Stars → List ℕ → Result (List Statement) FoundFault
thinned_deck stars text = verdict (early text) (thinned stars (statements text))
