-- What calls in turn come to.
use Rattle.std.specs.Prelude.{replicate}
use Rattle.std.proofs.Common.{◌≡◌, ℕ, ◌+◌, ◌≤◌, Bool, true, false, ◌⊎◌, inl, inr, refl, sym, subst, arith}
use Rattle.kdf_journal.specs.Steps.{steps}
use Rattle.kdf_schedule.specs.Calls.{AnOrder}
use Rattle.kdf_course.specs.Follows.{Reaches}
use Rattle.kdf_director.specs.declared.machine.Progress.{Progress}
use Rattle.kdf_director.specs.declared.machine.Progress.TheVariants as progress
use Rattle.kdf_theory.specs.Next.{lone_dispatched}
use Rattle.kdf_director.specs.Orders.{HasMadeAll, HasMadeFewer}
use Rattle.kdf_director.specs.Progressed.{found_live}
use Rattle.kdf_director.specs.Runs.{HasMadeAtMost, HasMadeButFewer, HasMadeOn, HasMadeSome}
use Rattle.kdf_theory.specs.MachineView.{MachineView}
use Rattle.kdf_director.proofs.Calls.FoundLive.{rested_at}
use Rattle.kdf_director.proofs.Calls.CallsAfterCalls.{made_reaches, made_then}

module _ (answers : ℕ → ℕ → Type 0) (old : MachineView) where
  -- after i calls
  module _ (i : ℕ) (m : MachineView) (h : HasMadeOn answers i old m) where
    -- some more were made
    unfoldable pub some_more : (k : ℕ) (new : MachineView) (r : Progress) → HasMadeSome answers k m new r → HasMadeSome answers (k + i) old new r
    some_more k new r x =
        let before = x.before in
        let count = x.count in
        record {
          before = before + i;
          between = x.between;
          earlier = made_then answers i before old m x.between h x.earlier;
          last = x.last;
          answered = x.answered;
          count = omega arith;
          all_on = λ found. made_then answers i k old m new h (x.all_on found);
        }

  pub only_made : (n : ℕ) (new : MachineView) → HasMadeButFewer answers n old new → HasMadeFewer answers n old new
  only_made n new x = (x.0, x.1, x.2.made)

  -- after the last of them
  module _ (k : ℕ) (new : MachineView) where
    -- as many found a live program
    pub lived : (r : Progress) → HasMadeSome answers k old new r → (j : ℕ) × (j ≤ k) × HasMadeOn answers j old new
    lived (progress.Ran p) x = (k, omega arith, x.all_on refl)
    lived (progress.Held p need) x = (k, omega arith, x.all_on refl)
    lived progress.Idle x = (k, omega arith, x.all_on refl)
    lived progress.AllEnded x = let count = x.count in (x.before, omega arith, subst (HasMadeOn answers x.before old) (sym x.last.advance.1) x.earlier)

    module _ (n : ℕ) (r : Progress) (x : HasMadeSome answers k old new r) (within : k ≤ n) (whole : (k ≡ n) ⊎ (found_live r ≡ false)) where
      ends : (k ≡ n) ⊎ (found_live r ≡ false) → (x.before + 1 ≡ n) ⊎ (found_live r ≡ false)
      ends (inl all) = inl (omega (arith, all, x.count))
      ends (inr dead) = inr dead

      pub made_all : HasMadeAll answers n old new r
      made_all =
          let count = x.count in
          record { before = x.before; between = x.between; made = x.earlier.made; last = x.last; within = omega (arith, within); whole = ends whole }

      pub reached_all : Reaches (lone_dispatched old.slots) (steps old.journal) (replicate n AnOrder) (steps new.journal)
      reached_all = by whole (found_live r) refl
        where
          over : found_live r ≡ false → Reaches (lone_dispatched old.slots) (steps old.journal) (replicate n AnOrder) (steps new.journal)
          over dead =
              let count = x.count in
              rested_at old.slots (steps old.journal) x.before n x.last.heard x.between new r x.earlier.legal x.earlier.slots
              (made_reaches answers x.before old x.between x.earlier) x.last.advance dead (omega (arith, within))

          by : (k ≡ n) ⊎ (found_live r ≡ false) → (b : Bool) → found_live r ≡ b → Reaches (lone_dispatched old.slots) (steps old.journal) (replicate n AnOrder)
              (steps new.journal)
          by (inr dead) b is = over dead
          by (inl all) false dead = over dead
          by (inl all) true live = subst (λ i. Reaches (lone_dispatched old.slots) (steps old.journal) (replicate i AnOrder) (steps new.journal)) all
              (made_reaches answers k old new (x.all_on live))

  -- the same of those that are one fact
  module _ (n : ℕ) (new : MachineView) (r : Progress) (x : HasMadeAtMost answers n old new r) where
    pub all_of : HasMadeAll answers n old new r
    all_of = made_all x.made new n r x.some x.within x.whole

    pub reached_of : Reaches (lone_dispatched old.slots) (steps old.journal) (replicate n AnOrder) (steps new.journal)
    reached_of = reached_all x.made new n r x.some x.within x.whole

    pub lived_of : (j : ℕ) × (j ≤ n) × HasMadeOn answers j old new
    lived_of = let l = lived x.made new r x.some in (l.0, omega (arith, l.1, x.within), l.2)
