-- What calls come to where at most one is to be made.
use Rattle.std.proofs.Common.{◌≡◌, ℕ, inl, ap, subst, arith}
use Rattle.kdf_director.specs.declared.machine.Progress.{Progress}
use Rattle.kdf_director.specs.Advance.{AdvanceWith}
use Rattle.kdf_director.specs.Orders.{HasMade}
use Rattle.kdf_director.specs.Runs.{HasMadeAtMost, HasMadeButFewer}
use Rattle.kdf_theory.specs.Served.{IsAnswered}
use Rattle.kdf_theory.specs.MachineView.{MachineView}

module _ (answers : ℕ → ℕ → Type 0) (old new : MachineView) where
  -- none was made before it
  module _ (r : Progress) (x : HasMadeAtMost answers 1 old new r) where
    none : x.some.before ≡ 0
    none = omega (arith, x.within, x.some.count)

    still : x.some.between ≡ old
    still = subst (λ n. HasMade answers n old x.some.between) none x.some.earlier.made

    pub only_call : AdvanceWith answers old new r
    only_call = subst (λ (m : MachineView). AdvanceWith answers m new r) still x.some.last

    pub only_answered : IsAnswered answers old.slots old.journal new.journal
    only_answered = subst (λ (m : MachineView). IsAnswered answers m.slots m.journal new.journal) still x.some.answered

  -- and where it had no memory, none was made at all
  pub not_made : HasMadeButFewer answers 1 old new → new ≡ old
  not_made x = let none : x.0 ≡ 0 = omega (arith, x.1) in subst (λ n. HasMade answers n old new) none x.2.made

  pub not_answered : HasMadeButFewer answers 1 old new → IsAnswered answers old.slots old.journal new.journal
  not_answered x = inl (ap (λ (m : MachineView). m.journal) (not_made x))
