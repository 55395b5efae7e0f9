-- What calls of a machine in turn come to.
use Rattle.std.specs.Prelude.{◌≡◌, ◌<◌, ◌+◌, ◌⊎◌, ℕ, zero, suc, true, false}
use Rattle.kdf_director.specs.declared.machine.Progress.{Progress}
use Rattle.kdf_director.specs.Advance.{AdvanceWith}
use Rattle.kdf_director.specs.Progressed.{found_live}
use Rattle.kdf_theory.specs.MachineView.{MachineView}

-- the machine after so many calls with a service, each of which found a live program
abbrev pub HasMade : (answers : ℕ → ℕ → Type 0) → ℕ → MachineView → MachineView → Type 0
HasMade answers zero old new = new ≡ old
HasMade answers (suc n) old new =
    (between : MachineView) × (progress : Progress) × HasMade answers n old between
    × AdvanceWith answers between new progress × (found_live progress ≡ true)

-- the machine after n calls with a service, of which the last answers so; or after fewer, where the last found no live
-- program
pub record HasMadeAll (answers : ℕ → ℕ → Type 0) (n : ℕ) (old new : MachineView) (progress : Progress) : Type 0 where
  pub before : ℕ
  pub between : MachineView
  pub made : HasMade answers before old between
  pub last : AdvanceWith answers between new progress
  pub within : before < n
  pub whole : (before + 1 ≡ n) ⊎ (found_live progress ≡ false)

-- the machine after some of n calls, and not after the last
abbrev pub HasMadeFewer : (answers : ℕ → ℕ → Type 0) → ℕ → MachineView → MachineView → Type 0
HasMadeFewer answers n old new = (k : ℕ) × (k < n) × HasMade answers k old new
