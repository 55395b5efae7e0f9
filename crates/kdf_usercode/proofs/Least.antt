-- The laws of the first fault, for the faults of a deck.
use Rattle.std.proofs.Common.{◌≡◌, ℕ, List, [], ◌∷◌, ◌++◌, Option, Some, None, refl}
use Rattle.std.proofs.lemmas.List.{map-append}
use Rattle.kdf_fault.proofs.Least as of_all
use Rattle.kdf_usercode.specs.declared.fault.DeckFault.{DeckFault}
use Rattle.kdf_usercode.specs.Faults.{FoundFault, number_of, lesser, least, founds}
use Rattle.kdf_usercode.specs.Apart.{apart}

pub some-stays : (x : FoundFault) (later : Option FoundFault) → (z : FoundFault) × (lesser (Some x) later ≡ Some z)
some-stays x later = of_all.some-stays number_of x later

pub none-before : (a b : Option FoundFault) → lesser a b ≡ None → a ≡ None
none-before a b e = of_all.none-before number_of a b e

pub none-behind : (a b : Option FoundFault) → lesser a b ≡ None → b ≡ None
none-behind a b e = of_all.none-behind number_of a b e

pub least-append : (xs ys : List FoundFault) → least (xs ++ ys) ≡ lesser (least xs) (least ys)
least-append xs ys = of_all.least-append number_of xs ys

-- where there is no least fault there is none
pub least-none : (fs : List FoundFault) → least fs ≡ None → fs ≡ []
least-none fs e = of_all.least-none number_of fs e

pub least-front : (best : Option FoundFault) (here later : List FoundFault)
    → lesser (lesser best (least here)) (least later) ≡ lesser best (least (here ++ later))
least-front best here later = of_all.least-front number_of best here later

pub least-between : (best : Option FoundFault) (front here later : List FoundFault)
    → lesser (lesser best (least here)) (least (front ++ later)) ≡ lesser best (least (front ++ (here ++ later)))
least-between best front here later = of_all.least-between number_of apart best front here later

pub founds-append : (place : ℕ) (fs gs : List DeckFault)
    → founds place (fs ++ gs) ≡ founds place fs ++ founds place gs
founds-append place fs gs = map-append _ fs gs

founds-none : (place : ℕ) (fs : List DeckFault) → founds place fs ≡ [] → fs ≡ []
founds-none place [] e = refl
founds-none place (f ∷ fs) e = absurd cc

-- where the faults at a place have no least one there is none
pub no-founds : (place : ℕ) (fs : List DeckFault) → least (founds place fs) ≡ None → fs ≡ []
no-founds place fs e = founds-none place fs (least-none (founds place fs) e)
