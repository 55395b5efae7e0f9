-- The stints of a program, after one more, and after the device of one left its place.
use Rattle.std.specs.Prelude.{find}
use Rattle.std.specs.List.{All, AllPairs, list_any}
use Rattle.std.proofs.Common.{◌≡◌, ◌≢◌, ℕ, ◌<◌, ◌≤◌, ◌&&◌, ◌||◌, not, Bool, true, false, List, [], ◌∷◌, ◌++◌, length, get_or, map, set, Some, is_some, cond}
use Rattle.std.proofs.Common.{eqb, refl, sym, ap, ap₂, ◌∙◌, subst, ⊎_elim, arith}
use Rattle.std.proofs.lemmas.Bool.{and_from, and_parts, cases_eq, cases_lt, eq-eqb, eqb-true, false_from_ne_true, ne_eqb, or_parts}
use Rattle.std.proofs.lemmas.List.{ext_get_or, get_or-map, get_or-set_other, get_or-set_same, length-map, length-set}
use Rattle.std.proofs.lemmas.List.Elements.{All-cons, All-head, All-map, All-nil, All-tail}
use Rattle.std.proofs.lemmas.List.Folds.{list_any-append, list_any_none}
use Rattle.std.proofs.lemmas.List.Quantifiers.{all_pairs_push}
use Rattle.kdf_transfer.specs.Devices.{Fixture, DeviceProgress, new_progress}
use Rattle.kdf_processor.specs.Row.{handed}
use Rattle.kdf_processor.specs.State.{StintState}
use Rattle.kdf_yard.specs.Fields.Stints.{Keeping, Loan, Lent, Left, Back, is_left, is_lent, is_open, is_open_of, left_in, lends, progress_left, stint_of}
use Rattle.kdf_yard.specs.Fields.Stints.{with_loan}

-- the program hasn't kept the device
abbrev pub IsNotLeft : Keeping → Type 0
IsNotLeft x = is_left x.loan ≡ false

-- of two stints that weren't given back, the devices differ
abbrev pub AreApart : Keeping → Keeping → Type 0
AreApart x y = is_open x.loan ≡ true → is_open y.loan ≡ true → x.device ≢ y.device

-- a stint whose device is elsewhere: it is its own, or another's, or was given back
pub by_open : (P : Keeping → Type 0) (d : ℕ) (loan : Loan) (x : Keeping) → (is_open_of d x ≡ true → P (record x { loan = loan }))
    → (is_open_of d x ≡ false → P x) → P (with_loan d loan x)
by_open P d loan x its other = of (is_open_of d x) refl
  where
    of : (b : Bool) → is_open_of d x ≡ b → P (cond b (record x { loan = loan }) x)
    of true is = its is
    of false not = other not

pub device_with : (d : ℕ) (loan : Loan) (x : Keeping) → (with_loan d loan x).device ≡ x.device
device_with d loan x = by_open (λ y. y.device ≡ x.device) d loan x (λ _. refl) (λ _. refl)

-- one that isn't open isn't left or lent either
open_left : (b : Bool) (l : Loan) → (b && is_open l) ≡ false → (b && is_left l) ≡ false
open_left true Lent not = cc
open_left true (Left f p) not = cc
open_left true (Back f p) not = refl
open_left false l not = refl

open_lent : (b : Bool) (l : Loan) → (b && is_open l) ≡ false → (b && is_lent l) ≡ false
open_lent true Lent not = cc
open_lent true (Left f p) not = cc
open_lent true (Back f p) not = refl
open_lent false l not = refl

pub and_none : (b c : Bool) → c ≡ false → (b && c) ≡ false
and_none true c none = none
and_none false c none = refl

-- ---- how far a device has come that a program has kept

pub none_kept : (xs : List Keeping) (d : ℕ) → All IsNotLeft xs → left_in xs d ≡ new_progress
none_kept [] d none = refl
none_kept (x ∷ xs) d none =
    ap (λ b. progress_left (cond b (Some x) (find (λ (y : Keeping). eqb y.device d && is_left y.loan) xs)))
    (and_none (eqb x.device d) (is_left x.loan) (All-head IsNotLeft x xs none))
    ∙ none_kept xs d (All-tail IsNotLeft x xs none)

-- the device that it keeps
pub left_here : (xs : List Keeping) (d : ℕ) (f : Fixture) (p : DeviceProgress) → list_any (is_open_of d) xs ≡ true
    → left_in (map (with_loan d (Left f p)) xs) d ≡ p
left_here [] d f p is = cc
left_here (x ∷ xs) d f p is = of (is_open_of d x) refl (left_here xs d f p)
  where
    rest : List Keeping
    rest = map (with_loan d (Left f p)) xs

    of : (b : Bool) → is_open_of d x ≡ b → (list_any (is_open_of d) xs ≡ true → left_in rest d ≡ p) → left_in (with_loan d (Left f p) x ∷ rest) d ≡ p
    of true its later =
        ap (λ b. left_in (cond b (record x { loan = Left f p }) x ∷ rest) d) its
        ∙ ap (λ b. progress_left (cond (b && true) (Some (let y : Keeping = record x { loan = Left f p } in y))
        (find (λ (y : Keeping). eqb y.device d && is_left y.loan) rest))) (and_parts _ _ its).0
    of false other later =
        ap (λ b. left_in (cond b (record x { loan = Left f p }) x ∷ rest) d) other
        ∙ ap (λ b. progress_left (cond b (Some x) (find (λ (y : Keeping). eqb y.device d && is_left y.loan) rest))) (open_left (eqb x.device d) x.loan other)
        ∙ later (sym (ap (λ b. b || list_any (is_open_of d) xs) other) ∙ is)

-- another
pub left_there : (xs : List Keeping) (d e : ℕ) (loan : Loan) → e ≢ d → left_in (map (with_loan d loan) xs) e ≡ left_in xs e
left_there [] d e loan ne = refl
left_there (x ∷ xs) d e loan ne = of (is_open_of d x) refl (left_there xs d e loan ne)
  where
    rest : List Keeping
    rest = map (with_loan d loan) xs

    by_head : (b : Bool) → left_in rest e ≡ left_in xs e → progress_left (cond b (Some x) (find (λ (y : Keeping). eqb y.device e && is_left y.loan) rest))
        ≡ progress_left (cond b (Some x) (find (λ (y : Keeping). eqb y.device e && is_left y.loan) xs))
    by_head true later = refl
    by_head false later = later

    of : (b : Bool) → is_open_of d x ≡ b → left_in rest e ≡ left_in xs e → left_in (with_loan d loan x ∷ rest) e ≡ left_in (x ∷ xs) e
    of true its later =
        let off : eqb x.device e ≡ false = ne_eqb x.device e (λ same. ne (sym same ∙ eqb-true x.device d (and_parts _ _ its).0)) in
        ap (λ b. left_in (cond b (record x { loan = loan }) x ∷ rest) e) its
        ∙ ap (λ b. progress_left (cond (b && is_left loan) (Some (let y : Keeping = record x { loan = loan } in y))
        (find (λ (y : Keeping). eqb y.device e && is_left y.loan) rest))) off
        ∙ later
        ∙ sym (ap (λ b. progress_left (cond (b && is_left x.loan) (Some x) (find (λ (y : Keeping). eqb y.device e && is_left y.loan) xs))) off)
    of false other later =
        ap (λ b. left_in (cond b (record x { loan = loan }) x ∷ rest) e) other
        ∙ by_head (eqb x.device e && is_left x.loan) later

-- ---- which devices are in their places

pub lends_push : (xs : List Keeping) (t d : ℕ) → lends (xs ++ record { device = t; loan = Lent } ∷ []) d ≡ (lends xs d || eqb t d)
lends_push xs t d =
    list_any-append (λ (x : Keeping). eqb x.device d && is_lent x.loan) xs (record { device = t; loan = Lent } ∷ [])
    ∙ ap (λ b. lends xs d || b) (plain (eqb t d))
  where
    plain : (b : Bool) → ((b && true) || false) ≡ b
    plain true = refl
    plain false = refl

pub lends_here : (xs : List Keeping) (d : ℕ) (loan : Loan) → is_lent loan ≡ false → lends (map (with_loan d loan) xs) d ≡ false
lends_here xs d loan none =
    list_any_none (λ (x : Keeping). eqb x.device d && is_lent x.loan) (map (with_loan d loan) xs)
    (All-map (λ (x : Keeping). (eqb x.device d && is_lent x.loan) ≡ false) (with_loan d loan) xs
    (λ k z lt. by_open (λ y. (eqb y.device d && is_lent y.loan) ≡ false) d loan (get_or xs k z)
    (λ _. and_none (eqb (get_or xs k z).device d) (is_lent loan) none)
    (λ other. open_lent (eqb (get_or xs k z).device d) (get_or xs k z).loan other)))

pub lends_there : (xs : List Keeping) (d e : ℕ) (loan : Loan) → e ≢ d → lends (map (with_loan d loan) xs) e ≡ lends xs e
lends_there [] d e loan ne = refl
lends_there (x ∷ xs) d e loan ne =
    ap₂ (λ b c. b || c)
    (by_open (λ y. (eqb y.device e && is_lent y.loan) ≡ (eqb x.device e && is_lent x.loan)) d loan x
    (λ its. let off : eqb x.device e ≡ false = ne_eqb x.device e (λ same. ne (sym same ∙ eqb-true x.device d (and_parts _ _ its).0)) in
    ap (λ b. b && is_lent loan) off ∙ sym (ap (λ b. b && is_lent x.loan) off))
    (λ _. refl))
    (lends_there xs d e loan ne)

-- a device that is in its place wasn't given back
pub lends_open : (xs : List Keeping) (d : ℕ) → lends xs d ≡ true → list_any (is_open_of d) xs ≡ true
lends_open [] d is = cc
lends_open (x ∷ xs) d is = of (eqb x.device d) x.loan (lends xs d) is (λ rest. lends_open xs d rest)
  where
    of : (b : Bool) (l : Loan) (c : Bool) → ((b && is_lent l) || c) ≡ true → (c ≡ true → list_any (is_open_of d) xs ≡ true)
        → ((b && is_open l) || list_any (is_open_of d) xs) ≡ true
    of true Lent c is rest = refl
    of true (Left f p) c is rest = refl
    of true (Back f p) c is rest = rest is
    of false l c is rest = rest is

-- ---- the stints, as the program's state has them

pub stints_back : (xs : List Keeping) (d : ℕ) (f : Fixture) (p : DeviceProgress)
    → map stint_of (map (with_loan d (Back f p)) xs) ≡ map (handed d p) (map stint_of xs)
stints_back [] d f p = refl
stints_back (x ∷ xs) d f p =
    ap₂ (λ (y : StintState) ys. y ∷ ys) (of (eqb x.device d) x.loan) (stints_back xs d f p)
  where
    of : (b : Bool) (l : Loan) → stint_of (cond (b && is_open l) (record { device = x.device; loan = Back f p }) (record { device = x.device; loan = l }))
        ≡ (let y : StintState = stint_of (record { device = x.device; loan = l }) in cond (b && not (is_some y.left)) (record y { left = Some p }) y)
    of true Lent = refl
    of true (Left g q) = refl
    of true (Back g q) = refl
    of false l = refl

pub stints_left : (xs : List Keeping) (d : ℕ) (f : Fixture) (p : DeviceProgress) → map stint_of (map (with_loan d (Left f p)) xs) ≡ map stint_of xs
stints_left [] d f p = refl
stints_left (x ∷ xs) d f p =
    ap₂ (λ (y : StintState) ys. y ∷ ys) (of (eqb x.device d) x.loan) (stints_left xs d f p)
  where
    of : (b : Bool) (l : Loan) → stint_of (cond (b && is_open l) (record { device = x.device; loan = Left f p }) (record { device = x.device; loan = l }))
        ≡ stint_of (record { device = x.device; loan = l })
    of true Lent = refl
    of true (Left g q) = refl
    of true (Back g q) = refl
    of false l = refl

-- ---- no two that are open are of one device

pub apart_with : (xs : List Keeping) (d : ℕ) (loan : Loan) → AllPairs AreApart xs → AllPairs AreApart (map (with_loan d loan) xs)
apart_with xs d loan one i j z low lt =
    let far : j < length xs = omega (arith, length-map xs (with_loan d loan)) in
    let near : i < length xs = omega arith in
    subst (λ y. AreApart (get_or (map (with_loan d loan) xs) i z) y) (sym (get_or-map (with_loan d loan) xs j z z far))
    (subst (λ y. AreApart y (with_loan d loan (get_or xs j z))) (sym (get_or-map (with_loan d loan) xs i z z near))
    (λ a b. by_device (get_or xs i z) (get_or xs j z) (one i j z low far (opened (get_or xs i z) a) (opened (get_or xs j z) b))))
  where
    opened : (x : Keeping) → is_open (with_loan d loan x).loan ≡ true → is_open x.loan ≡ true
    opened x = by_open (λ y. is_open y.loan ≡ true → is_open x.loan ≡ true) d loan x (λ its _. (and_parts (eqb x.device d) (is_open x.loan) its).1) (λ _ is. is)

    by_device : (x y : Keeping) → x.device ≢ y.device → (with_loan d loan x).device ≢ (with_loan d loan y).device
    by_device x y ne same = ne (sym (device_with d loan x) ∙ same ∙ device_with d loan y)

-- an open stint of a program that has kept none is of a device in its place
pub open_others : (xs : List Keeping) (d : ℕ) → All IsNotLeft xs → lends xs d ≡ false → All (λ (x : Keeping). is_open x.loan ≡ true → x.device ≢ d) xs
open_others [] d none unlent = All-nil (λ (x : Keeping). is_open x.loan ≡ true → x.device ≢ d)
open_others (x ∷ xs) d none unlent =
    let parts = or_parts (eqb x.device d && is_lent x.loan) (lends xs d) unlent in
    All-cons (λ (y : Keeping). is_open y.loan ≡ true → y.device ≢ d) x xs
    (λ unreturned same. cc (sym parts.0 ∙ and_from (eqb x.device d) (is_lent x.loan) (eq-eqb x.device d same)
    (lent x.loan (All-head IsNotLeft x xs none) unreturned)))
    (open_others xs d (All-tail IsNotLeft x xs none) parts.1)
  where
    lent : (l : Loan) → is_left l ≡ false → is_open l ≡ true → is_lent l ≡ true
    lent Lent a b = refl
    lent (Left f p) a b = cc
    lent (Back f p) a b = cc

pub apart_push : (xs : List Keeping) (d : ℕ) → AllPairs AreApart xs → All (λ (x : Keeping). is_open x.loan ≡ true → x.device ≢ d) xs
    → AllPairs AreApart (xs ++ record { device = d; loan = Lent } ∷ [])
apart_push xs d one others =
    all_pairs_push AreApart xs (record { device = d; loan = Lent }) one
    (λ k z lt unreturned _. others k z lt unreturned)

-- where no two open stints are of one device, another loan of one is that of its device
pub set_one : (xs : List Keeping) (n : ℕ) (z : Keeping) (loan : Loan) → AllPairs AreApart xs → n < length xs → is_open (get_or xs n z).loan ≡ true
    → set xs n (record (get_or xs n z) { loan = loan }) ≡ map (with_loan (get_or xs n z).device loan) xs
set_one xs n z loan one lt unreturned =
    ext_get_or z _ _
    (length-set xs n new ∙ sym (length-map xs w))
    (λ i within.
    let small : i < length xs = omega (arith, length-set xs n new) in
    ⊎_elim
    (λ (same : i ≡ n).
    ap (λ k. get_or (set xs n new) k z) same ∙ get_or-set_same xs n new z lt
    ∙ sym (ap (λ k. get_or (map w xs) k z) same ∙ get_or-map w xs n z z lt
    ∙ ap (λ b. cond b new (get_or xs n z)) (and_from (eqb d d) (is_open (get_or xs n z).loan) (eq-eqb d d refl) unreturned)))
    (λ (ne : i ≢ n).
    get_or-set_other xs n i new z ne
    ∙ sym (get_or-map w xs i z z small ∙ ap (λ b. cond b (record (get_or xs i z) { loan = loan }) (get_or xs i z)) (others i small ne)))
    (cases_eq i n))
  where
    d : ℕ
    d = (get_or xs n z).device

    w : Keeping → Keeping
    w = with_loan d loan

    new : Keeping
    new = record (get_or xs n z) { loan = loan }

    others : (i : ℕ) → i < length xs → i ≢ n → is_open_of d (get_or xs i z) ≡ false
    others i small ne =
        false_from_ne_true _
        (λ its.
        let same = eqb-true (get_or xs i z).device d (and_parts _ _ its).0 in
        let its_open = (and_parts _ _ its).1 in
        ⊎_elim
        (λ (low : i < n). one i n z low lt its_open unreturned same)
        (λ (high : n ≤ i). one n i z (omega arith) small unreturned its_open (sym same))
        (cases_lt i n))
