-- The least of some faults is found piece by piece, in any order.
use Rattle.std.proofs.Common.{Bool, ◌≡◌, ℕ, true, false, cond, eqb, ltb, ◌&&◌, ◌||◌, List, [], ◌∷◌, ◌++◌, Option, Some, None, refl, sym, ap, ◌∙◌, arith, inl}
use Rattle.std.proofs.Common.{inr}
use Rattle.std.proofs.lemmas.Bool.Decides.{nat_tests}
use Rattle.kdf_fault.specs.declared.found.Found.{Found}
use Rattle.kdf_fault.specs.Faults.{before, lesser, least, IsOneOf, NoneBefore, IsFirst}

-- ---- two places with their numbers, one before the other

-- (p, m) comes before (q, n)
abbrev earlier : ℕ → ℕ → ℕ → ℕ → Bool
earlier p m q n = ltb p q || (eqb p q && ltb m n)

earlier-turned : (p m q n : ℕ) → earlier p m q n ≡ true → earlier q n p m ≡ false
earlier-turned p m q n e = grind (arith, nat_tests)

earlier-itself : (p m : ℕ) → earlier p m p m ≡ false
earlier-itself p m = grind (arith, nat_tests)

earlier-through : (p m q n r o : ℕ) → earlier p m q n ≡ false → earlier q n r o ≡ false
    → earlier p m r o ≡ false
earlier-through p m q n r o a b = grind (arith, nat_tests)

earlier-neither : (p m q n : ℕ) → earlier p m q n ≡ false → earlier q n p m ≡ false → (p ≡ q) × (m ≡ n)
earlier-neither p m q n a b = (grind (arith, nat_tests), grind (arith, nat_tests))

-- ---- two faults

before-turned : {F : Type 0} (number : F → ℕ) (x y : Found F) → before number x y ≡ true
    → before number y x ≡ false
before-turned number x y e = earlier-turned x.place (number x.fault) y.place (number y.fault) e

before-itself : {F : Type 0} (number : F → ℕ) (x : Found F) → before number x x ≡ false
before-itself number x = earlier-itself x.place (number x.fault)

before-through : {F : Type 0} (number : F → ℕ) (x y z : Found F) → before number x y ≡ false
    → before number y z ≡ false → before number x z ≡ false
before-through number x y z a b =
    earlier-through x.place (number x.fault) y.place (number y.fault) z.place (number z.fault) a b

same-found : {F : Type 0} (x y : Found F) → x.fault ≡ y.fault → x.place ≡ y.place → x ≡ y
same-found {F = F} x y f p =
    let made : F → ℕ → Found F = λ a b. record { fault = a; place = b } in
    ap (λ a. made a x.place) f ∙ ap (made y.fault) p

-- two faults of which neither comes before the other are one
before-neither : {F : Type 0} (number : F → ℕ) (apart : (x y : F) → number x ≡ number y → x ≡ y) (x y : Found F)
    → before number x y ≡ false → before number y x ≡ false → x ≡ y
before-neither number apart x y a b =
    let h = earlier-neither x.place (number x.fault) y.place (number y.fault) a b in
    same-found x y (apart x.fault y.fault h.1) h.0

-- ---- lists

pub lesser-assoc : {F : Type 0} (number : F → ℕ) (a b c : Option (Found F))
    → lesser number (lesser number a b) c ≡ lesser number a (lesser number b c)
lesser-assoc number None b c = refl
lesser-assoc number (Some x) None c = refl
lesser-assoc number (Some x) (Some y) None = grind arith
lesser-assoc number (Some x) (Some y) (Some z) = grind (arith, nat_tests)

pub lesser-comm : {F : Type 0} (number : F → ℕ) (apart : (x y : F) → number x ≡ number y → x ≡ y) (a b : Option (Found F))
    → lesser number a b ≡ lesser number b a
lesser-comm number apart None None = refl
lesser-comm number apart None (Some y) = refl
lesser-comm number apart (Some x) None = refl
lesser-comm number apart (Some x) (Some y) =
    let same = before-neither number apart x y in
    let turned = before-turned number x y in
    elim (before number y x) as (λ b. before number y x ≡ b → cond b (Some y) (Some x) ≡ cond (before number x y) (Some x) (Some y)) [
      | true ↦ λ e. rw (before-turned number y x e) refl
      | false ↦ λ e. elim (before number x y) as (λ b. before number x y ≡ b → Some x ≡ cond b (Some x) (Some y))
          [ true ↦ λ t. refl | false ↦ λ t. ap (λ w. Some w) (same t e) ] refl
    ] refl

pub lesser-none : {F : Type 0} (number : F → ℕ) (a : Option (Found F)) → lesser number a None ≡ a
lesser-none number None = refl
lesser-none number (Some x) = refl

-- where one was found before, there is one
pub some-stays : {F : Type 0} (number : F → ℕ) (x : Found F) (later : Option (Found F))
    → (z : Found F) × (lesser number (Some x) later ≡ Some z)
some-stays number x None = (x, refl)
some-stays {F =
    F} number x (Some y) = elim (before number y x) as (λ b. (z : Found F) × (cond b (Some y) (Some x) ≡ Some z)) [ true ↦ (y, refl) | false ↦ (x, refl) ]

pub none-before : {F : Type 0} (number : F → ℕ) (a b : Option (Found F)) → lesser number a b ≡ None
    → a ≡ None
none-before number None b e = refl
none-before number (Some x) b e = let z = some-stays number x b in absurd cc

pub none-behind : {F : Type 0} (number : F → ℕ) (a b : Option (Found F)) → lesser number a b ≡ None
    → b ≡ None
none-behind number None b e = e
none-behind number (Some x) b e = let z = some-stays number x b in absurd cc

pub least-append : {F : Type 0} (number : F → ℕ) (xs ys : List (Found F))
    → least number (xs ++ ys) ≡ lesser number (least number xs) (least number ys)
least-append number [] ys = refl
least-append number (x ∷ xs) ys =
    ap (lesser number (Some x)) (least-append number xs ys) ∙ sym (lesser-assoc number (Some x) (least number xs) (least number ys))

-- where there is no least fault there is none
pub least-none : {F : Type 0} (number : F → ℕ) (fs : List (Found F)) → least number fs ≡ None → fs ≡ []
least-none number [] e = refl
least-none number (f ∷ fs) e = let z = some-stays number f (least number fs) in absurd cc

-- What was found last may be taken before what is found later.
pub least-front : {F : Type 0} (number : F → ℕ) (best : Option (Found F)) (here later : List (Found F))
    → lesser number (lesser number best (least number here)) (least number later) ≡ lesser number best (least number (here ++ later))
least-front number best here later =
    lesser-assoc number best (least number here) (least number later) ∙ ap (lesser number best) (sym (least-append number here later))

-- What is found in the midst may be taken before all that stands in front of it.
pub least-between : {F : Type 0} (number : F → ℕ) (apart : (x y : F) → number x ≡ number y → x ≡ y) (best : Option (Found F))
    (front here later : List (Found F))
    → lesser number (lesser number best (least number here)) (least number (front ++ later)) ≡ lesser number best (least number (front ++ (here ++ later)))
least-between number apart best front here later =
    lesser-assoc number best (least number here) (least number (front ++ later))
    ∙ ap (lesser number best) (
    ap (lesser number (least number here)) (least-append number front later)
    ∙ sym (lesser-assoc number (least number here) (least number front) (least number later))
    ∙ ap (λ o. lesser number o (least number later)) (lesser-comm number apart (least number here) (least number front))
    ∙ lesser-assoc number (least number front) (least number here) (least number later)
    ∙ ap (lesser number (least number front)) (sym (least-append number here later))
    ∙ sym (least-append number front (here ++ later)))

-- ---- the least is the first

none-through : {F : Type 0} (number : F → ℕ) (y x : Found F) (gs : List (Found F))
    → before number y x ≡ false → NoneBefore number y gs → NoneBefore number x gs
none-through number y x [] b h = tt
none-through number y x (g ∷ gs) b h = (before-through number g y x h.0 b, none-through number y x gs b h.1)

first-of : {F : Type 0} (number : F → ℕ) (x y : Found F) (xs : List (Found F)) (b : Bool)
    → before number y x ≡ b → IsOneOf y xs × NoneBefore number y xs
    → IsFirst number (cond b (Some y) (Some x)) (x ∷ xs)
first-of number x y xs true e h = (inr h.0, (before-turned number y x e, h.1))
first-of number x y xs false e h = (inl refl, (before-itself number x, none-through number y x xs e h.1))

first-step : {F : Type 0} (number : F → ℕ) (x : Found F) (xs : List (Found F)) (o : Option (Found F))
    → IsFirst number o xs → IsFirst number (lesser number (Some x) o) (x ∷ xs)
first-step number x xs None e = rw e (inl refl, (before-itself number x, tt))
first-step number x xs (Some y) h = first-of number x y xs (before number y x) refl h

-- the least fault is one of them, and none comes before it
pub least-first : {F : Type 0} (number : F → ℕ) (fs : List (Found F)) → IsFirst number (least number fs) fs
least-first number [] = refl
least-first number (x ∷ xs) = first-step number x xs (least number xs) (least-first number xs)
