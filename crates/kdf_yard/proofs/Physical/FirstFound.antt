-- The first that passes a test, of numbers in their order, and whether one of the four slots does.
use Rattle.std.specs.Prelude.{find}
use Rattle.std.specs.List.{list_any, range_with_len}
use Rattle.std.proofs.Common.{◌≡◌, ◌≢◌, ℕ, zero, suc, ◌+◌, ◌<◌, ◌≤◌, Bool, true, false, ◌||◌, List, [], ◌∷◌, length, get_or, Some, None, cond, refl, sym, ap}
use Rattle.std.proofs.Common.{◌∙◌, ⊎_elim, arith}
use Rattle.std.proofs.lemmas.Bool.{cases_Bool, cases_eq, false≢true, or_parts}
use Rattle.std.proofs.lemmas.List.Folds.{list_any_at}
use Rattle.kdf_journal.specs.Counts.{slot_numbers}

-- ---- numbers in their order

-- what is found passes, and none before it does
pub record IsFirst (f : ℕ → Bool) (a n i : ℕ) : Type 0 where
  pub low : a ≤ i
  pub high : i < a + n
  pub passes : f i ≡ true
  pub before : (j : ℕ) → a ≤ j → j < i → f j ≡ false

pub found_first : (f : ℕ → Bool) (a n i : ℕ) → find f (range_with_len a n) ≡ Some i → IsFirst f a n i
found_first f a zero i is = cc
found_first f a (suc n) i is =
    ⊎_elim
    (λ (here : f a ≡ true).
    let same : a ≡ i = some_same (ap (λ b. cond b (Some a) (find f (range_with_len (a + 1) n))) (sym here) ∙ is) in
    record {
      low = omega arith;
      high = omega arith;
      passes = ap f (sym same) ∙ here;
      before = λ j low high. absurd (omega arith);
    })
    (λ (not : f a ≡ false).
    let rest : IsFirst f (a + 1) n i = found_first f (a + 1) n i (ap (λ b. cond b (Some a) (find f (range_with_len (a + 1) n))) (sym not) ∙ is) in
    let past = rest.low in
    let inside = rest.high in
    record {
      low = omega arith;
      high = omega arith;
      passes = rest.passes;
      before = λ j low high.
          ⊎_elim
          (λ (same : j ≡ a). ap f same ∙ not)
          (λ (ne : j ≢ a). rest.before j (omega arith) high)
          (cases_eq j a);
    })
    (cases_Bool (f a))
  where
    some_same : Some a ≡ Some i → a ≡ i
    some_same e = cc

-- where none is found, none passes
pub none_found : (f : ℕ → Bool) (a n : ℕ) → find f (range_with_len a n) ≡ None → (j : ℕ) → a ≤ j → j < a + n → f j ≡ false
none_found f a zero is j low high = absurd (omega arith)
none_found f a (suc n) is j low high =
    ⊎_elim
    (λ (here : f a ≡ true). cc (ap (λ b. cond b (Some a) (find f (range_with_len (a + 1) n))) (sym here) ∙ is))
    (λ (not : f a ≡ false).
    ⊎_elim
    (λ (same : j ≡ a). ap f same ∙ not)
    (λ (ne : j ≢ a). none_found f (a + 1) n (ap (λ b. cond b (Some a) (find f (range_with_len (a + 1) n))) (sym not) ∙ is) j (omega arith) (omega arith))
    (cases_eq j a))
    (cases_Bool (f a))

-- one of a list passes
pub any_there : {X : Type 0} (f : X → Bool) (xs : List X) (d : X) → list_any f xs ≡ true → (i : ℕ) × (i < length xs) × (f (get_or xs i d) ≡ true)
any_there f [] d is = cc
any_there f (x ∷ xs) d is =
    ⊎_elim
    (λ (here : f x ≡ true). (0, omega arith, here))
    (λ (not : f x ≡ false).
    let rest = any_there f xs d (sym (ap (λ b. b || list_any f xs) not) ∙ is) in
    (suc rest.0, (let lt = rest.1 in omega arith), rest.2))
    (cases_Bool (f x))

-- or none does
pub any_none : {X : Type 0} (f : X → Bool) (xs : List X) (d : X) → list_any f xs ≡ false → (i : ℕ) → i < length xs → f (get_or xs i d) ≡ false
any_none f [] d is i lt = absurd (omega arith)
any_none f (x ∷ xs) d is zero lt = (or_parts _ _ is).0
any_none f (x ∷ xs) d is (suc i) lt = any_none f xs d (or_parts _ _ is).1 i (omega arith)

-- ---- the four slots

any_four : (f : ℕ → Bool) (p : ℕ) → p < 4 → f p ≡ true → list_any f slot_numbers ≡ true
any_four f zero lt is = list_any_at f slot_numbers 0 0 (omega arith) is
any_four f (suc zero) lt is = list_any_at f slot_numbers 1 0 (omega arith) is
any_four f (suc (suc zero)) lt is = list_any_at f slot_numbers 2 0 (omega arith) is
any_four f (suc (suc (suc zero))) lt is = list_any_at f slot_numbers 3 0 (omega arith) is
any_four f (suc (suc (suc (suc p)))) lt is = absurd (omega arith)

-- those that pass stand in a list that rises
module _ (f : ℕ → Bool) (ps : List ℕ) (up : (i j : ℕ) → i < j → j < length ps → get_or ps i 0 < get_or ps j 0) (four : (i : ℕ) → i < length ps
    → get_or ps i 0 < 4) (only : (k : ℕ) → f k ≡ true → (i : ℕ) × (i < length ps) × (get_or ps i 0 ≡ k)) where
  fails_all : ((i : ℕ) → i < length ps → f (get_or ps i 0) ≡ false) → (k : ℕ) → f k ≡ false
  fails_all none k =
      ⊎_elim
      (λ (passes : f k ≡ true). let x = only k passes in absurd (false≢true (sym (none x.0 x.1) ∙ ap f x.2 ∙ passes)))
      (λ (fails : f k ≡ false). fails)
      (cases_Bool (f k))

  pub any_is : (i : ℕ) → i < length ps → f (get_or ps i 0) ≡ true → list_any f slot_numbers ≡ true
  any_is i lt is = any_four f (get_or ps i 0) (four i lt) is

  pub any_fails : ((i : ℕ) → i < length ps → f (get_or ps i 0) ≡ false) → list_any f slot_numbers ≡ false
  any_fails none =
      let fails = fails_all none in
      rw (fails 0, fails 1, fails 2, fails 3) refl
