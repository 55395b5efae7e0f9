-- The stints of a program are those of its state.
use Rattle.std.proofs.Common.{◌≡◌, ◌≢◌, ℕ, zero, suc, ◌<◌, ◌≤◌, Bool, true, false, ◌&&◌, ◌||◌, eqb, not, List, [], ◌∷◌, length, get_or, map, Option, Some, None}
use Rattle.std.proofs.Common.{is_some, cond, refl, sym, ap, ◌∙◌, subst, ⊎_elim, arith}
use Rattle.std.specs.List.{AllPairs}
use Rattle.std.specs.Option.{option_map}
use Rattle.std.proofs.lemmas.Bool.{and_parts, cases_Bool, cases_eq, cases_lt, eq-eqb, eqb-true, or_right}
use Rattle.kdf_journal.specs.declared.kind.Kind.{Kind}
use Rattle.kdf_journal.specs.declared.kind.Kind.TheVariants.{Tp}
use Rattle.std.specs.Prelude.{find, slice_get, unwrap_or, IfSome}
use Rattle.std.proofs.lemmas.List.{length-map}
use Rattle.std.proofs.lemmas.Option.{slice_get-get_or, slice_get-map, slice_get_past}
use Rattle.kdf_transfer.specs.Devices.{Fixture, DeviceProgress, blank_fixture, fixture_of, new_progress, progress_of}
use Rattle.kdf_transfer.specs.declared.device.Device.{Device}
use Rattle.kdf_processor.specs.State.{device_in, lending_of, lendings}
use Rattle.kdf_processor.specs.Stints.{IsStint}
use Rattle.kdf_yard.specs.Fields.Keeping.{IsKept}
use Rattle.kdf_yard.specs.Fields.Owners.{IsTold, fixture_told, progress_told}
use Rattle.kdf_yard.specs.Fields.Parts.{Part, in_pool, own_progress, own_stock, pool_kind}
use Rattle.kdf_theory.specs.Loading.{owns}
use Rattle.kdf_places.specs.Shared.{Shared}
use Rattle.kdf_places.specs.Spots.{fixture_or, spot_at}
use Rattle.kdf_yard.specs.Fields.Stints.{Keeping, IsOfKind, Loan, Lent, Left, Back, is_left, is_lent, is_open, kept_by, left_in, lends, no_keeping}
use Rattle.kdf_yard.specs.Fields.Stints.{progress_back, progress_left, stint_of}
use Rattle.kdf_yard.proofs.Physical.FirstFound.{any_none, any_there}
use Rattle.kdf_transfer.proofs.Numbers.{number_at}

abbrev AreApart : Keeping → Keeping → Type 0
AreApart x y = is_open x.loan ≡ true → is_open y.loan ≡ true → x.device ≢ y.device

open_left : (l : Loan) → is_left l ≡ true → is_open l ≡ true
open_left Lent is = cc
open_left (Left f p) is = refl
open_left (Back f p) is = cc

open_lent : (l : Loan) → is_lent l ≡ true → is_open l ≡ true
open_lent Lent is = refl
open_lent (Left f p) is = cc
open_lent (Back f p) is = cc

-- what a program has kept of a device is what its one stint has that wasn't given back
left_at : (xs : List Keeping) → AllPairs AreApart xs → (i : ℕ) (f : Fixture) (p : DeviceProgress) → i < length xs → (get_or xs i no_keeping).loan ≡ Left f p
    → left_in xs (get_or xs i no_keeping).device ≡ p
left_at [] apart i f p lt is = absurd (omega arith)
left_at (x ∷ xs) apart zero f p lt is =
    ap (λ b. progress_left (cond b (Some x) (find (λ (y : Keeping). eqb y.device x.device && is_left y.loan) xs)))
    (ap (λ b. b && is_left x.loan) (eq-eqb x.device x.device refl) ∙ ap is_left is)
    ∙ ap kept_by is
left_at (x ∷ xs) apart (suc i) f p lt is =
    ap (λ b. progress_left (cond b (Some x) (find (λ (y : Keeping). eqb y.device d && is_left y.loan) xs))) none
    ∙ left_at xs (λ j k e less within. apart (suc j) (suc k) e (omega arith) (omega arith)) i f p (omega arith) is
  where
    d : ℕ
    d = (get_or xs i no_keeping).device

    none : (eqb x.device d && is_left x.loan) ≡ false
    none =
        ⊎_elim
        (λ (both : (eqb x.device d && is_left x.loan) ≡ true).
        let parts = and_parts (eqb x.device d) (is_left x.loan) both in
        absurd (apart zero (suc i) no_keeping (omega arith) lt (open_left x.loan parts.1) (open_left (get_or xs i no_keeping).loan (ap is_left is))
        (eqb-true x.device d parts.0)))
        (λ (not_both : (eqb x.device d && is_left x.loan) ≡ false). not_both)
        (cases_Bool (eqb x.device d && is_left x.loan))

-- and it is in no place then
not_lent : (xs : List Keeping) → AllPairs AreApart xs → (i : ℕ) → i < length xs → is_left (get_or xs i no_keeping).loan ≡ true
    → lends xs (get_or xs i no_keeping).device ≡ false
not_lent xs apart i lt left =
    ⊎_elim
    (λ (is : lends xs d ≡ true).
    let x = any_there (λ (y : Keeping). eqb y.device d && is_lent y.loan) xs no_keeping is in
    let parts = and_parts (eqb (get_or xs x.0 no_keeping).device d) (is_lent (get_or xs x.0 no_keeping).loan) x.2 in
    absurd (by_place x.0 x.1 (eqb-true (get_or xs x.0 no_keeping).device d parts.0) parts.1))
    (λ (not_is : lends xs d ≡ false). not_is)
    (cases_Bool (lends xs d))
  where
    d : ℕ
    d = (get_or xs i no_keeping).device

    both : (l : Loan) → is_left l ≡ true → is_lent l ≡ true → ⊥
    both Lent a b = cc
    both (Left f p) a b = cc
    both (Back f p) a b = cc

    by_place : (j : ℕ) → j < length xs → (get_or xs j no_keeping).device ≡ d → is_lent (get_or xs j no_keeping).loan ≡ true → ⊥
    by_place j within same lent =
        let a : is_open (get_or xs j no_keeping).loan ≡ true = open_lent (get_or xs j no_keeping).loan lent in
        let b : is_open (get_or xs i no_keeping).loan ≡ true = open_left (get_or xs i no_keeping).loan left in
        ⊎_elim
        (λ (is : j ≡ i). both (get_or xs i no_keeping).loan left (ap (λ k. is_lent (get_or xs k no_keeping).loan) (sym is) ∙ lent))
        (λ (ne : j ≢ i).
        ⊎_elim
        (λ (low : j < i). apart j i no_keeping low lt a b same)
        (λ (high : i ≤ j). apart i j no_keeping (omega arith) within b a (sym same))
        (cases_lt j i))
        (cases_eq j i)

-- one that is lent is in its place
lent_at : (xs : List Keeping) (i : ℕ) → i < length xs → is_lent (get_or xs i no_keeping).loan ≡ true → lends xs (get_or xs i no_keeping).device ≡ true
lent_at xs i lt lent =
    ⊎_elim
    (λ (is : lends xs d ≡ true). is)
    (λ (not_is : lends xs d ≡ false).
    cc (sym (any_none (λ (y : Keeping). eqb y.device d && is_lent y.loan) xs no_keeping not_is i lt)
    ∙ ap (λ b. b && is_lent (get_or xs i no_keeping).loan) (eq-eqb d d refl) ∙ lent))
    (cases_Bool (lends xs d))
  where
    d : ℕ
    d = (get_or xs i no_keeping).device

some_there : (o : Option Kind) → is_some o ≡ true → (k : Kind) × (o ≡ Some k)
some_there None is = cc
some_there (Some k) is = (k, refl)

-- ---- a stint of a program, told by its number and its device
module _ (q : Part) (n : ℕ) (s : Shared) (kept : IsKept q s) (i : ℕ) (lt : i < length q.stints) where
  abbrev x : Keeping
  x = get_or q.stints i no_keeping

  pooled : in_pool q x.device ≡ true
  pooled = kept.pooled i no_keeping lt

  abbrev kind : (k : Kind) × (pool_kind q x.device ≡ Some k)
  kind = some_there (pool_kind q x.device) pooled

  kind_is : unwrap_or (pool_kind q x.device) Tp ≡ kind.0
  kind_is = ap (λ o. unwrap_or o Tp) kind.1

  device_is : device_in (own_stock q n s) x.device ≡ own_progress q s.spots x.device
  device_is = number_at (own_progress q s.spots) x.device new_progress (kept.few x.device pooled)

  -- it is none of the slot's
  not_own : owns q.devices x.device ≡ false
  not_own = ⊎_elim (λ (own : owns q.devices x.device ≡ true). cc (sym (kept.apart x.device own) ∙ pooled))
      (λ (not_so : owns q.devices x.device ≡ false). not_so) (cases_Bool (owns q.devices x.device))

  in_place : is_lent x.loan ≡ true → own_progress q s.spots x.device ≡ (spot_at s.spots x.device).progress
  in_place lent = ap (λ b. cond b (spot_at s.spots x.device).progress (left_in q.stints x.device))
      (or_right (owns q.devices x.device) (lends q.stints x.device) (lent_at q.stints i lt lent))

  kept_back : (f : Fixture) (p : DeviceProgress) → x.loan ≡ Left f p → own_progress q s.spots x.device ≡ p
  kept_back f p is =
      ap (λ b. cond b (spot_at s.spots x.device).progress (left_in q.stints x.device)) (ap (λ b. b || lends q.stints x.device) not_own
      ∙ not_lent q.stints kept.one i lt (ap is_left is))
      ∙ left_at q.stints kept.one i f p lt is

  of_kind : (l : Loan) → x.loan ≡ l → (f : Fixture) → IsOfKind (pool_kind q x.device) l → fixture_told l (spot_at s.spots x.device) ≡ f
      → f ≡ blank_fixture kind.0
  of_kind Lent is f fits told = sym told ∙ ap fixture_or (kept.there x.device kind.0 kind.1)
  of_kind (Left g p) is f fits told = let e : Some g ≡ Some (blank_fixture kind.0) = sym fits ∙ ap (option_map blank_fixture) kind.1 in let h : g
      ≡ blank_fixture kind.0 = cc in sym told ∙ h
  of_kind (Back g p) is f fits told = let e : Some g ≡ Some (blank_fixture kind.0) = sym fits ∙ ap (option_map blank_fixture) kind.1 in let h : g
      ≡ blank_fixture kind.0 = cc in sym told ∙ h

  by_loan : (l : Loan) → x.loan ≡ l → (p : DeviceProgress) → progress_told l (spot_at s.spots x.device) ≡ p
      → p ≡ (lending_of (own_stock q n s) (stint_of x)).progress
  by_loan Lent is p told =
      sym told
      ∙ sym (in_place (ap is_lent is)) ∙ sym device_is
      ∙ sym (ap (λ k. unwrap_or (progress_back k) (device_in (own_stock q n s) x.device)) is)
  by_loan (Left f r) is p told =
      sym told
      ∙ sym (kept_back f r is) ∙ sym device_is
      ∙ sym (ap (λ k. unwrap_or (progress_back k) (device_in (own_stock q n s) x.device)) is)
  by_loan (Back f r) is p told = sym told ∙ sym (ap (λ k. unwrap_or (progress_back k) (device_in (own_stock q n s) x.device)) is)

  given_is : (l : Loan) → not (is_open l) ≡ is_some (progress_back l)
  given_is Lent = refl
  given_is (Left f p) = refl
  given_is (Back f p) = refl

  pub is_stint : (d : ℕ) (given : Bool) (device : Device) → IsTold s.spots x d given device → IsStint (lending_of (own_stock q n s) (stint_of x)) d given device
  is_stint d given device told =
      record {
        number = told.number;
        given = told.given ∙ given_is x.loan;
        fixture = of_kind x.loan refl (fixture_of device) (kept.kinds i no_keeping lt) (sym told.fixture) ∙ ap blank_fixture (sym kind_is);
        progress = by_loan x.loan refl (progress_of device) (sym told.progress);
      }

-- so for whatever stands for a stint that there isn't
pub there_lent_any : (q : Part) (s : Shared) → IsKept q s → (j : ℕ) (k : Keeping) → j < length q.stints → is_lent (get_or q.stints j k).loan ≡ true
    → is_some (spot_at s.spots (get_or q.stints j k).device).fixture ≡ true
there_lent_any q s kept j k lt lent =
    let kind = some_there (pool_kind q (get_or q.stints j k).device) (kept.pooled j k lt) in
    ap is_some (kept.there (get_or q.stints j k).device kind.0 kind.1)

-- a stint of the state
pub stint_in_own : (q : Part) (n : ℕ) (s : Shared) → IsKept q s → (i d : ℕ) (given : Bool) (device : Device)
    → IsTold s.spots (get_or q.stints i no_keeping) d given device → IfSome (slice_get (lendings (own_stock q n s)) i) (λ l. IsStint l d given device)
unfolding lendings
stint_in_own q n s kept i d given device told =
    ⊎_elim
    (λ (lt : i < length q.stints).
    subst (λ o. IfSome o (λ l. IsStint l d given device)) (sym (got lt)) (is_stint q n s kept i lt d given device told))
    (λ (past : length q.stints ≤ i). subst (λ o. IfSome o (λ l. IsStint l d given device))
    (sym (slice_get_past (map (lending_of (own_stock q n s)) (map stint_of q.stints)) i
    (omega (arith, length-map (map stint_of q.stints) (lending_of (own_stock q n s)), length-map q.stints stint_of)))) tt)
    (cases_lt i (length q.stints))
  where
    got : i < length q.stints → slice_get (map (lending_of (own_stock q n s)) (map stint_of q.stints)) i
        ≡ Some (lending_of (own_stock q n s) (stint_of (get_or q.stints i no_keeping)))
    got lt =
        slice_get-map (lending_of (own_stock q n s)) (map stint_of q.stints) i
        ∙ ap (option_map (lending_of (own_stock q n s))) (slice_get-map stint_of q.stints i
        ∙ ap (option_map stint_of) (slice_get-get_or q.stints i no_keeping lt))
