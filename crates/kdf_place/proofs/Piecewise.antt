-- The first fault, found piece by piece.
use Rattle.std.proofs.Common.{◌≡◌, ℕ, ◌+◌, ◌<◌, length, get_or, drop, List, ◌++◌, Option, Result, Ok, Err, refl, sym, ap, ◌∙◌, append_assoc}
use Rattle.std.proofs.lemmas.List.{at_drop_more}
use Rattle.kdf_usercode.specs.declared.fault.DeckFault.{DeckFault}
use Rattle.kdf_usercode.specs.declared.statement.Statement.{Statement}
use Rattle.kdf_usercode.specs.Faults.{FoundFault, lesser, least, founds}
use Rattle.kdf_usercode.proofs.Least.{least-front, least-append, founds-append}
use Rattle.kdf_place.specs.declared.here.Here.{Here}
use Rattle.kdf_place.specs.Layout.{after}
use Rattle.kdf_place.specs.Names.{Names}
use Rattle.kdf_place.specs.Late.{fault_in, wrong, wrongs}
use Rattle.kdf_place.specs.Tables.{kept}

pub fault_in-kept : (r : Result ℕ DeckFault) → fault_in (kept r) ≡ fault_in r
fault_in-kept (Ok at) = refl
fault_in-kept (Err fault) = refl

-- two pieces of the faults at one place
pub founds-front : (place : ℕ) (best first result : Option FoundFault) (xs ys : List DeckFault)
    → first ≡ lesser best (least (founds place xs)) → result ≡ lesser first (least (founds place ys)) → result ≡ lesser best (least (founds place (xs ++ ys)))
founds-front place best first result xs ys e f =
    f ∙ ap (λ o. lesser o (least (founds place ys))) e ∙ least-front best (founds place xs) (founds place ys)
    ∙ ap (λ x. lesser best (least x)) (sym (founds-append place xs ys))

pub founds-three : (place : ℕ) (best first second result : Option FoundFault) (xs ys zs : List DeckFault)
    → first ≡ lesser best (least (founds place xs)) → second ≡ lesser first (least (founds place ys)) → result ≡ lesser second (least (founds place zs))
    → result ≡ lesser best (least (founds place (xs ++ ys ++ zs)))
founds-three place best first second result xs ys zs e f g = founds-front place best second result (xs ++ ys) zs
    (founds-front place best first second xs ys e f) g

-- one statement more was looked at
pub wrong-step : (names : Names) (best best' : Option FoundFault) (here here' : Here) (i : ℕ) (ss : List Statement) (s : Statement) → i < length ss
    → s ≡ get_or ss i s
    → here' ≡ after here s → best' ≡ lesser best (least (founds s.place (wrong names here s.what)))
    → lesser best' (least (wrongs names here' (drop (i + 1) ss))) ≡ lesser best (least (wrongs names here (drop i ss)))
wrong-step names best best' here here' i ss s lt is h b =
    let later = wrongs names here' (drop (i + 1) ss) in
    let faults = founds s.place (wrong names here s.what) in
    let split : wrongs names here (drop i ss) ≡ faults ++ later
    = at_drop_more (wrongs names here) ss i s lt ∙ rw (← is, ← h) refl in
    ap (λ o. lesser o (least later)) b ∙ least-front best faults later ∙ ap (λ x. lesser best (least x)) (sym split)

-- three lists of faults, each with its first
pub least-three : (x y z yz result : Option FoundFault) (xs ys zs : List FoundFault) → x ≡ least xs → y ≡ least ys → z ≡ least zs
    → yz ≡ lesser y z → result ≡ lesser x yz → result ≡ least (xs ++ ys ++ zs)
least-three x y z yz result xs ys zs xe ye ze yze e =
    e ∙ rw (yze, xe, ye, ze) (ap (lesser (least xs)) (sym (least-append ys zs)) ∙ sym (least-append xs (ys ++ zs)))
    ∙ ap (λ fs. least fs) (sym (append_assoc xs ys zs))
