-- Which program has a device of the pool now.
use Rattle.std.proofs.Common.{◌≡◌, ◌≢◌, ℕ, zero, suc, ◌<◌, Bool, true, false, List, [], ◌∷◌, length, Option, Some, None, cond, refl, sym, ap, ap₂, ◌∙◌, ⊎_elim}
use Rattle.std.proofs.Common.{arith}
use Rattle.std.proofs.lemmas.Bool.{cases_eq, eq-eqb, ne_eqb, or_parts, or_right}
use Rattle.kdf_theory.specs.Holders.{is_taker}
use Rattle.kdf_yard.specs.Fields.Parts.{Reach, Seat, borrower}
use Rattle.kdf_theory.specs.Loading.{owns}
use Rattle.kdf_places.specs.Shared.{Shared}
use Rattle.kdf_yard.specs.Fields.Running.{reach_at, seat_at, IsRunning, IsUnlent}
use Rattle.kdf_yard.specs.Fields.Stints.{lends}
use Rattle.kdf_yard.proofs.Turns.OneOrder.{numbers_apart}

-- none, where none of them has it
pub borrower_none : (seats : List Seat) (d : ℕ) → IsUnlent seats d → borrower seats d ≡ None
borrower_none [] d none = refl
borrower_none (x ∷ seats) d none =
    ap (λ b. cond b (Some x.p) (borrower seats d)) (none 0 (omega arith)) ∙ borrower_none seats d (λ j lt. none (suc j) (omega arith))

-- this one, where it has the device and no other does
pub borrower_at : (seats : List Seat) (d i : ℕ) → i < length seats → lends (seat_at seats i).stints d ≡ true
    → ((j : ℕ) → j < length seats → j ≢ i → lends (seat_at seats j).stints d ≡ false) → borrower seats d ≡ Some (seat_at seats i).p
borrower_at [] d i lt has others = absurd (omega arith)
borrower_at (x ∷ seats) d zero lt has others = ap (λ b. cond b (Some x.p) (borrower seats d)) has
borrower_at (x ∷ seats) d (suc i) lt has others =
    ap (λ b. cond b (Some x.p) (borrower seats d)) (others 0 (omega arith) (λ (e : 0 ≡ suc i). omega arith))
    ∙ borrower_at seats d i (omega arith) has (λ j lt' ne. others (suc j) (omega arith) (λ (e : suc j ≡ suc i). ne (omega arith)))

-- the same, where each has what it had
pub borrower_same : (seats seats' : List Seat) (d : ℕ) → length seats' ≡ length seats
    → ((j : ℕ) → j < length seats → lends (seat_at seats' j).stints d ≡ lends (seat_at seats j).stints d)
    → ((j : ℕ) → (seat_at seats' j).p ≡ (seat_at seats j).p) → borrower seats' d ≡ borrower seats d
borrower_same [] [] d many same numbers = refl
borrower_same [] (y ∷ ys) d many same numbers = absurd (omega arith)
borrower_same (x ∷ xs) [] d many same numbers = absurd (omega arith)
borrower_same (x ∷ xs) (y ∷ ys) d many same numbers =
    ap₂ (λ b o. cond b (Some y.p) o) (same 0 (omega arith)) (borrower_same xs ys d (omega arith) (λ j lt. same (suc j) (omega arith)) (λ j. numbers (suc j)))
    ∙ ap (λ p. cond (lends x.stints d) (Some p) (borrower xs d)) (numbers 0)

-- one of them, where there is one
pub borrower_from : (seats : List Seat) (d q : ℕ) → borrower seats d ≡ Some q → (j : ℕ) × (j < length seats) × (lends (seat_at seats j).stints d ≡ true)
    × ((seat_at seats j).p ≡ q)
borrower_from [] d q is = cc
borrower_from (x ∷ seats) d q is = of (lends x.stints d) refl is (λ rest. borrower_from seats d q rest)
  where
    of : (b : Bool) → lends x.stints d ≡ b → cond b (Some x.p) (borrower seats d) ≡ Some q
        → (borrower seats d ≡ Some q → (j : ℕ) × (j < length seats) × (lends (seat_at seats j).stints d ≡ true) × ((seat_at seats j).p ≡ q))
        → (j : ℕ) × (j < length (x ∷ seats)) × (lends (seat_at (x ∷ seats) j).stints d ≡ true) × ((seat_at (x ∷ seats) j).p ≡ q)
    of true has is later = (0, omega arith, has, cc)
    of false none is later = let r = later is in (suc r.0, (let lt = r.1 in omega arith), r.2, r.3)

module _ (reaches : List Reach) (seats : List Seat) (s : Shared) (run : IsRunning reaches seats s) (i : ℕ) (lt : i < length seats) (d : ℕ) where
  -- what program i has no other has
  pub others_none : lends (seat_at seats i).stints d ≡ true → (j : ℕ) → j < length seats → j ≢ i → lends (seat_at seats j).stints d ≡ false
  others_none has j lt' ne =
      (or_parts (owns (reach_at reaches j).devices d) (lends (seat_at seats j).stints d)
      (run.single i j d lt lt' (λ same. ne (sym same)) (or_right (owns (reach_at reaches i).devices d) (lends (seat_at seats i).stints d) has))).1

  pub has_now : lends (seat_at seats i).stints d ≡ true → borrower seats d ≡ Some (seat_at seats i).p
  has_now has = borrower_at seats d i lt has (others_none has)

  -- program i is the one that has a device just where it has it
  pub taker_is : is_taker (seat_at seats i).p (borrower seats d) ≡ lends (seat_at seats i).stints d
  taker_is = of (lends (seat_at seats i).stints d) refl
    where
      of : (b : Bool) → lends (seat_at seats i).stints d ≡ b → is_taker (seat_at seats i).p (borrower seats d) ≡ b
      of true has = ap (is_taker (seat_at seats i).p) (has_now has) ∙ eq-eqb (seat_at seats i).p (seat_at seats i).p refl
      of false none = by_one (borrower seats d) refl
        where
          by_one : (o : Option ℕ) → borrower seats d ≡ o → is_taker (seat_at seats i).p o ≡ false
          by_one None is = refl
          by_one (Some q) is =
              let from = borrower_from seats d q is in
              ⊎_elim
              (λ (same : from.0 ≡ i). cc (sym none ∙ (ap (λ k. lends (seat_at seats k).stints d) (sym same) ∙ from.2)))
              (λ (ne : from.0 ≢ i). ne_eqb q (seat_at seats i).p (λ same. numbers_apart reaches seats s from.0 i run from.1 lt ne (from.3 ∙ same)))
              (cases_eq from.0 i)
