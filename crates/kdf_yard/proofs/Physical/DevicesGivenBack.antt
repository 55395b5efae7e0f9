-- The stint of a device that is given back.
use Rattle.std.proofs.Common.{◌≡◌, ℕ, ◌-◌, ◌<◌, ◌≤◌, Bool, true, false, cond, List, length, get_or, map, set, Option, sym, ap, ◌∙◌, ⊎_elim, arith}
use Rattle.std.specs.List.{AllPairs}
use Rattle.std.proofs.lemmas.Bool.{and_parts, cases_lt, eqb-true}
use Rattle.std.proofs.lemmas.List.{ext_get_or, get_or-map, length-map, map-set}
use Rattle.kdf_transfer.specs.declared.device.Device.{Device}
use Rattle.kdf_yard.specs.declared.stint.Stint.{Stint}
use Rattle.kdf_yard.specs.Fields.Stints.{Keeping, Loan, is_open_of, keeping_of, loan_of, no_keeping, with_loan}
use Rattle.kdf_yard.proofs.Physical.StintsChange.{AreApart, set_one}

stays : (d : ℕ) (loan : Loan) (x : Keeping) → is_open_of d x ≡ false → with_loan d loan x ≡ x
stays d loan x not = ap (λ b. cond b (let y : Keeping = record x { loan = loan } in y) x) not

-- with none open, all stay
pub set_none : (d : ℕ) (loan : Loan) (xs : List Keeping) → ((i : ℕ) → i < length xs → is_open_of d (get_or xs i no_keeping) ≡ false)
    → map (with_loan d loan) xs ≡ xs
set_none d loan xs none =
    ext_get_or no_keeping (map (with_loan d loan) xs) xs (length-map xs (with_loan d loan))
    (λ j lt.
    let lj : j < length xs = let e = length-map xs (with_loan d loan) in omega arith in
    get_or-map (with_loan d loan) xs j no_keeping no_keeping lj ∙ stays d loan (get_or xs j no_keeping) (none j lj))

-- one more that isn't open
pub shut_more : (stints : List Stint) (d i : ℕ) (x : Stint) → 0 < i → i ≤ length stints → x ≡ get_or stints (i - 1) x → is_open_of d (keeping_of x) ≡ false
    → ((j : ℕ) → i ≤ j → j < length stints → is_open_of d (get_or (map keeping_of stints) j no_keeping) ≡ false) → (j : ℕ) → i - 1 ≤ j → j < length stints
    → is_open_of d (get_or (map keeping_of stints) j no_keeping) ≡ false
shut_more stints d i x more within here not later j low lt =
    ⊎_elim
    (λ (below : j < i).
    let same : j ≡ i - 1 = omega arith in
    ap (is_open_of d) (get_or-map keeping_of stints j x no_keeping lt ∙ ap (λ k. keeping_of (get_or stints k x)) same ∙ ap keeping_of (sym here)) ∙ not)
    (λ (above : i ≤ j). later j above lt)
    (cases_lt j i)

-- the device of the stint i is given back
pub handed_in : (stints : List Stint) (d i : ℕ) (given : Bool) (device : Option Device) → AllPairs AreApart (map keeping_of stints) → i < length stints
    → is_open_of d (get_or (map keeping_of stints) i no_keeping) ≡ true → map keeping_of (set stints i (record { d = d; given = given; device = device }))
    ≡ map (with_loan d (loan_of given device)) (map keeping_of stints)
handed_in stints d i given device apart lt is =
    let ks = map keeping_of stints in
    let parts = and_parts _ _ is in
    let loan = loan_of given device in
    let its : (get_or ks i no_keeping).device ≡ d = eqb-true (get_or ks i no_keeping).device d parts.0 in
    map-set keeping_of stints i (record { d = d; given = given; device = device })
    ∙ ap (λ e. set ks i (let z : Keeping = record { device = e; loan = loan } in z)) (sym its)
    ∙ set_one ks i no_keeping loan apart (omega (arith, length-map stints keeping_of)) parts.1
    ∙ ap (λ e. map (with_loan e loan) ks) its

pub none_handed : (stints : List Stint) (d : ℕ) (loan : Loan)
    → ((i : ℕ) → i < length stints → is_open_of d (get_or (map keeping_of stints) i no_keeping) ≡ false)
    → map keeping_of stints ≡ map (with_loan d loan) (map keeping_of stints)
none_handed stints d loan none =
    sym (set_none d loan (map keeping_of stints) (λ i lt. none i (omega (arith, length-map stints keeping_of))))
