-- Calls up to one after which they stop.
use Rattle.std.proofs.Common.{◌≡◌, ℕ, zero, suc, ◌+◌, ◌-◌, ◌≤◌, true, false, ◌⊎◌, inl, inr, refl, sym, ◌∙◌, subst, arith}
use Rattle.kdf_director.specs.declared.halt.Halt.{Halt}
use Rattle.kdf_director.specs.declared.halt.Halt.TheVariants.{Never, Each, At}
use Rattle.kdf_director.specs.declared.machine.Progress.{Progress}
use Rattle.kdf_director.specs.declared.machine.Progress.TheVariants as progress
use Rattle.kdf_director.specs.Halts.{halt_inside, stops, ArePassed, HasMadeButTo, HasMadeSomePast, HasMadeTo, HasPassed, HasPassedButFewer}
use Rattle.kdf_director.specs.Orders.{HasMade}
use Rattle.kdf_director.specs.Progressed.{found_live}
use Rattle.kdf_director.specs.Runs.{HasMadeAtMost, HasMadeButFewer, HasMadeOn, HasMadeSome}
use Rattle.kdf_theory.specs.MachineView.{MachineView, ShowsSeen}
use Rattle.kdf_director.proofs.Calls.CallsAfterCalls.{made_one, made_then}
use Rattle.kdf_director.proofs.Calls.CallsInTurn.{some_more}

pub at_may : (p at : ℕ) → At p at ≡ Never → ⊥
at_may p at same = cc

module _ (answers : ℕ → ℕ → Type 0) where
  -- no call is none
  at_once : (k : ℕ) → k ≡ 0 → (old new : MachineView) → HasMade answers k old new → new ≡ old
  at_once zero none old new made = made
  at_once (suc k) none old new made = absurd cc

  behind : (k i : ℕ) → k ≡ 0 → k + i ≡ i
  behind k i none = omega (arith, none)

  pub passed_none : (halt : Halt) (m : MachineView) → ArePassed answers halt 0 m m
  passed_none Never m = tt
  passed_none Each m = refl
  passed_none (At p at) m = refl

  -- some after others
  both_passed : (halt : Halt) (i k : ℕ) (old m new : MachineView) → HasPassed answers halt i old m → HasPassed answers halt k m new
      → HasPassed answers halt (k + i) old new
  both_passed halt i zero old m new p same =
      let all : i ≡ zero + i = omega arith in
      subst (λ j. HasPassed answers halt j old new) all (subst (HasPassed answers halt i old) (sym same) p)
  both_passed halt i (suc k) old m new p (between, q, last) =
      let all : suc (k + i) ≡ suc k + i = omega arith in
      subst (λ j. HasPassed answers halt j old new) all (between, both_passed halt i k old m between p q, last)

  -- the last of some calls by itself
  last_one : (k : ℕ) (m new : MachineView) (r : Progress) → (x : HasMadeSome answers k m new r) → HasMadeSome answers 1 x.between new r
  last_one k m new r x =
      made_one answers x.between new r x.earlier.legal x.last x.answered
      (λ found. let all = x.all_on found in (all.legal, all.slots ∙ sym x.earlier.slots, all.room ∙ sym x.earlier.room))

  module _ (old : MachineView) (i : ℕ) (m : MachineView) where
    -- the calls before the last of one run more
    pub before : (halt : Halt) (k : ℕ) (new : MachineView) (r : Progress) → ArePassed answers halt i old m → (halt ≡ Each → k ≡ 1)
        → (x : HasMadeSome answers k m new r) → ArePassed answers (halt_inside halt) x.before m x.between → ArePassed answers halt (x.before + i) old x.between
    before Never k new r p singly x inside = tt
    before Each k new r p singly x inside =
        let none : x.before ≡ 0 = omega (arith, x.count, singly refl) in
        subst (λ w. HasPassed answers Each (x.before + i) old w) (sym (at_once x.before none m x.between x.earlier.made))
        (subst (λ j. HasPassed answers Each j old m) (sym (behind x.before i none)) p)
    before (At q at) k new r p singly x inside = both_passed (At q at) i x.before old m x.between p inside

    -- and all of it, where they don't stop after the last
    pub passed_more : (halt : Halt) (k : ℕ) (new : MachineView) (r : Progress) → ArePassed answers halt i old m → (halt ≡ Each → k ≡ 1)
        → (x : HasMadeSome answers k m new r) → ArePassed answers (halt_inside halt) x.before m x.between → found_live r ≡ true → stops halt new r ≡ false
        → ShowsSeen new → ArePassed answers halt (k + i) old new
    passed_more Never k new r p singly x inside live on seen = tt
    passed_more Each k new r p singly x inside live on seen =
        let all : suc (x.before + i) ≡ k + i = omega (arith, x.count) in
        subst (λ j. HasPassed answers Each j old new) all
        (x.between, before Each k new r p singly x inside, record { progress = r; made = last_one k m new r x; live = live; goes_on = on; seen = seen })
    passed_more (At q at) k new r p singly x inside live on seen =
        let all : suc (x.before + i) ≡ k + i = omega (arith, x.count) in
        subst (λ j. HasPassed answers (At q at) j old new) all
        (x.between, before (At q at) k new r p singly x inside, record { progress = r; made = last_one k m new r x; live = live; goes_on = on; seen = seen })

    -- they came to an end
    pub made_to : (halt : Halt) (left rest k : ℕ) (new : MachineView) (r : Progress) → HasMadeOn answers i old m → ArePassed answers halt i old m
        → (halt ≡ Each → k ≡ 1) → HasMadeSomePast answers (halt_inside halt) k m new r → k + i + rest ≡ left
        → (rest ≡ 0) ⊎ ((found_live r ≡ false) ⊎ (stops halt new r ≡ true)) → HasMadeTo answers halt left rest old new r
    unfolding some_more
    made_to halt left rest k new r h p singly x count whole =
        record {
          made = k + i;
          some = some_more answers old i m h k new r x.some;
          count = count;
          passed = before halt k new r p singly x.some x.passed;
          whole =
              whole;
        }

    -- a call without memory, after k of a run
    none_passed : (halt : Halt) (k : ℕ) (new : MachineView) → ArePassed answers halt i old m → (halt ≡ Each → k ≡ 0) → HasMadeOn answers k m new
        → ArePassed answers (halt_inside halt) k m new → ArePassed answers halt (k + i) old new
    none_passed Never k new p singly on inside = tt
    none_passed Each k new p singly on inside =
        let none : k ≡ 0 = singly refl in
        subst (λ w. HasPassed answers Each (k + i) old w) (sym (at_once k none m new on.made))
        (subst (λ j. HasPassed answers Each j old m) (sym (behind k i none)) p)
    none_passed (At q at) k new p singly on inside = both_passed (At q at) i k old m new p inside

    pub but_to : (halt : Halt) (left rest most : ℕ) (new : MachineView) → HasMadeOn answers i old m → ArePassed answers halt i old m → most ≤ rest
        → (halt ≡ Each → most ≡ 1) → i + rest ≡ left → (x : HasPassedButFewer answers (halt_inside halt) most m new)
        → HasMadeButTo answers halt left (rest - x.made) old new
    but_to halt left rest most new h p few singly count x =
        let lt = x.fewer in
        record {
          made = x.made + i;
          on = made_then answers i x.made old m new h x.on;
          fewer = omega (arith, few, count);
          count = λ may. omega (arith, count, few);
          passed = none_passed halt x.made new p (λ may. let one = singly may in omega arith) x.on x.passed;
        }

  -- where they never stop
  never : (m : MachineView) (r : Progress) → stops Never m r ≡ true → ⊥
  never m (progress.Ran p) is = cc
  never m (progress.Held p need) is = cc
  never m progress.Idle is = cc
  never m progress.AllEnded is = cc

  module _ (old : MachineView) (left rest : ℕ) (new : MachineView) where
    pub at_most_of : (r : Progress) → HasMadeTo answers Never left rest old new r → HasMadeAtMost answers left old new r
    at_most_of r x = let count = x.count in record { made = x.made; some = x.some; within = omega arith; whole = ends x.whole }
      where
        ends : (rest ≡ 0) ⊎ ((found_live r ≡ false) ⊎ (stops Never new r ≡ true)) → (x.made ≡ left) ⊎ (found_live r ≡ false)
        ends (inl none) = let count = x.count in inl (omega (arith, none))
        ends (inr (inl dead)) = inr dead
        ends (inr (inr is)) = absurd (never new r is)

    pub but_fewer_of : HasMadeButTo answers Never left rest old new → HasMadeButFewer answers left old new
    but_fewer_of x = (x.made, x.fewer, x.on)
