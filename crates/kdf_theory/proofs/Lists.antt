-- Lists that are mapped, and lists that are looked through for a number.
use Rattle.std.specs.Prelude.{find}
use Rattle.std.specs.Option.{option_map}
use Rattle.std.proofs.Common.{◌≡◌, ◌≢◌, ℕ, zero, suc, ◌<◌, Bool, true, false, List, [], ◌∷◌, length, get_or, map, Some, None, is_some, cond, refl, sym, ap, ◌∙◌}
use Rattle.std.proofs.Common.{⊎_elim, arith}
use Rattle.std.proofs.lemmas.Bool.{cases_eq, eq-eqb, ne_eqb}
use Rattle.kdf_transfer.specs.Slots.{Slot}
use Rattle.kdf_processor.specs.State.{State}
use Rattle.kdf_theory.specs.MachineView.{state_in}
use Rattle.std.specs.List.{list_any}
use Rattle.std.proofs.Common.{◌||◌}

-- ---- the first of a list that passes a test

pub find_map : {X Y : Type 0} (f : X → Y) (t : Y → Bool) (xs : List X) → find t (map f xs) ≡ option_map f (find (λ x. t (f x)) xs)
find_map f t [] = refl
find_map f t (x ∷ xs) = at_test (t (f x)) (find_map f t xs)
  where
    at_test : (b : Bool) → find t (map f xs) ≡ option_map f (find (λ y. t (f y)) xs)
        → cond b (Some (f x)) (find t (map f xs)) ≡ option_map f (cond b (Some x) (find (λ y. t (f y)) xs))
    at_test true rest = refl
    at_test false rest = rest

-- where it stands
pub find_at : {X : Type 0} (t : X → Bool) (xs : List X) (x d : X) → find t xs ≡ Some x → (i : ℕ) × (i < length xs) × (get_or xs i d ≡ x) × (t x ≡ true)
find_at t [] x d is = cc
find_at t (y ∷ xs) x d is = at_test (t y) refl is (find_at t xs x d)
  where
    at_test : (b : Bool) → t y ≡ b → cond b (Some y) (find t xs) ≡ Some x
        → (find t xs ≡ Some x → (i : ℕ) × (i < length xs) × (get_or xs i d ≡ x) × (t x ≡ true))
        → (i : ℕ) × (i < length (y ∷ xs)) × (get_or (y ∷ xs) i d ≡ x) × (t x ≡ true)
    at_test true passes found later =
        let same : y ≡ x = cc in
        (0, omega arith, same, ap t (sym same) ∙ passes)
    at_test false fails found later =
        let rest = later found in
        (suc rest.0, (let lt = rest.1 in omega arith), rest.2, rest.3)

-- and none of them passes
pub find_none : {X : Type 0} (t : X → Bool) (xs : List X) (d : X) → find t xs ≡ None → (i : ℕ) → i < length xs → t (get_or xs i d) ≡ false
find_none t [] d is i lt = absurd (omega arith)
find_none t (y ∷ xs) d is zero lt = at_test (t y) refl is
  where
    at_test : (b : Bool) → t y ≡ b → cond b (Some y) (find t xs) ≡ None → t y ≡ false
    at_test true passes found = cc
    at_test false fails found = fails
find_none t (y ∷ xs) d is (suc i) lt = find_none t xs d (at_test (t y) is) i (omega arith)
  where
    at_test : (b : Bool) → cond b (Some y) (find t xs) ≡ None → find t xs ≡ None
    at_test true found = cc
    at_test false found = found

-- ---- the state of the program in a slot

pub state_in_at : (slots : List Slot) (states : List State) (p i : ℕ) (x : Slot) (d : State) → i < length slots → i < length states → (get_or slots i x).p ≡ p
    → ((j : ℕ) → j < i → (get_or slots j x).p ≢ p) → state_in slots states p ≡ Some (get_or states i d)
state_in_at [] states p i x d lt lt' is first = absurd (omega arith)
state_in_at (s ∷ slots) [] p i x d lt lt' is first = absurd (omega arith)
state_in_at (s ∷ slots) (y ∷ states) p zero x d lt lt' is first = ap (λ b. cond b (Some y) (state_in slots states p)) (eq-eqb s.p p is)
state_in_at (s ∷ slots) (y ∷ states) p (suc i) x d lt lt' is first =
    ap (λ b. cond b (Some y) (state_in slots states p)) (ne_eqb s.p p (first 0 (omega arith)))
    ∙ state_in_at slots states p i x d (omega arith) (omega arith) is (λ j low. first (suc j) (omega arith))

pub state_in_some : (slots : List Slot) (states : List State) (p : ℕ) (x : Slot) → is_some (state_in slots states p) ≡ true → (i : ℕ) × (i < length slots)
    × (i < length states) × ((get_or slots i x).p ≡ p)
state_in_some [] states p x is = cc
state_in_some (s ∷ slots) [] p x is = cc
state_in_some (s ∷ slots) (y ∷ states) p x is =
    ⊎_elim
    (λ (same : s.p ≡ p). (0, omega arith, omega arith, same))
    (λ (ne : s.p ≢ p).
    let rest = state_in_some slots states p x (sym (ap (λ b. is_some (cond b (Some y) (state_in slots states p))) (ne_eqb s.p p ne)) ∙ is) in
    (suc rest.0, (let lt = rest.1 in omega arith), (let lt = rest.2 in omega arith), rest.3))
    (cases_eq s.p p)

-- ---- lists that are mapped

pub map_twice : {X Y Z : Type 0} (f : Y → Z) (g : X → Y) (xs : List X) → map f (map g xs) ≡ map (λ x. f (g x)) xs
map_twice f g [] = refl
map_twice f g (x ∷ xs) = ap (λ ys. f (g x) ∷ ys) (map_twice f g xs)

pub any_map : {X Y : Type 0} (h : X → Y) (f : Y → Bool) (xs : List X) → list_any (λ x. f (h x)) xs ≡ list_any f (map h xs)
any_map h f [] = refl
any_map h f (x ∷ xs) = ap (λ b. f (h x) || b) (any_map h f xs)
