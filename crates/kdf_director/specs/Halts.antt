-- Where calls of a machine stop before all are made.
use Rattle.std.specs.Prelude.{◌≡◌, ◌==◌, ◌&&◌, ◌<◌, ◌+◌, ◌⊎◌, ℕ, zero, suc, Bool, true, false, Option, Some, None, if◌then◌else◌}
use Rattle.kdf_journal.specs.Counts.{calls}
use Rattle.std.specs.Option.{option_map}
use Rattle.kdf_processor.specs.declared.registers.Registers.{Registers}
use Rattle.kdf_processor.specs.State.{State}
use Rattle.kdf_director.specs.declared.halt.Halt.{Halt}
use Rattle.kdf_director.specs.declared.halt.Halt.TheVariants.{Never, Each, At}
use Rattle.kdf_director.specs.declared.machine.Progress.{Progress}
use Rattle.kdf_director.specs.declared.machine.Progress.TheVariants as progress
use Rattle.kdf_director.specs.Progressed.{found_live}
use Rattle.kdf_director.specs.Runs.{HasMadeOn, HasMadeSome}
use Rattle.kdf_theory.specs.MachineView.{MachineView, ShowsSeen, state_of}

-- whether calls stop where program p, whose registers are these now, has obeyed an order; `at` is the place of its next one
abbrev pub halts : Halt → ℕ → Option Registers → Bool
halts Never p r = false
halts Each p r = true
halts (At k at) p None = false
halts (At k at) p (Some r) = p == k && r.at == at

-- the place at which they stop where program p comes to it, if there is one
abbrev pub place_for : Halt → ℕ → Option ℕ
place_for Never p = None
place_for Each p = None
place_for (At k at) p = if p == k then Some at else None

-- where the calls of one run stop before its end: nowhere, where each run is one call
abbrev pub halt_inside : Halt → Halt
halt_inside Never = Never
halt_inside Each = Never
halt_inside (At p at) = At p at

-- whether they stop after a call that answers so
abbrev pub stops : Halt → MachineView → Progress → Bool
stops halt m (progress.Ran p) = halts halt p (option_map (λ (s : State). s.registers) (state_of m p))
stops halt m (progress.Held p need) = false
stops halt m progress.Idle = false
stops halt m progress.AllEnded = false

-- a call with a service that found a live program, and after which they don't stop
pub record IsPassed (answers : ℕ → ℕ → Type 0) (halt : Halt) (old new : MachineView) : Type 0 where
  pub progress : Progress
  pub made : HasMadeSome answers 1 old new progress
  pub live : found_live progress ≡ true
  pub goes_on : stops halt new progress ≡ false
  pub seen : ShowsSeen new

-- so many of them
abbrev pub HasPassed : (answers : ℕ → ℕ → Type 0) → Halt → ℕ → MachineView → MachineView → Type 0
HasPassed answers halt zero old new = new ≡ old
HasPassed answers halt (suc n) old new =
    (between : MachineView) × HasPassed answers halt n old between × IsPassed answers halt between new

-- so they were made where they may stop at all
abbrev pub ArePassed : (answers : ℕ → ℕ → Type 0) → Halt → ℕ → MachineView → MachineView → Type 0
ArePassed answers Never n old new = Unit {0}
ArePassed answers Each n old new = HasPassed answers Each n old new
ArePassed answers (At p at) n old new = HasPassed answers (At p at) n old new

-- so many calls in one run, of which the last answers so, and those before it were passed
pub record HasMadeSomePast (answers : ℕ → ℕ → Type 0) (halt : Halt) (n : ℕ) (old new : MachineView)
    (progress : Progress) : Type 0 where
  pub some : HasMadeSome answers n old new progress
  pub passed : ArePassed answers halt some.before old some.between

-- or fewer, each of them passed, since the next one had no memory; the journal counts them
pub record HasPassedButFewer (answers : ℕ → ℕ → Type 0) (halt : Halt) (n : ℕ) (old new : MachineView) : Type 0 where
  pub made : ℕ
  pub on : HasMadeOn answers made old new
  pub fewer : made < n
  pub count : calls new.journal ≡ calls old.journal + made
  pub passed : ArePassed answers halt made old new

-- of the calls that were left, those were made that aren't now; the last answers so, and where some are left still, it
-- found no live program, or they stop there
pub record HasMadeTo (answers : ℕ → ℕ → Type 0) (halt : Halt) (left rest : ℕ) (old new : MachineView)
    (progress : Progress) : Type 0 where
  pub made : ℕ
  pub some : HasMadeSome answers made old new progress
  pub count : made + rest ≡ left
  pub passed : ArePassed answers halt some.before old some.between
  pub whole : (rest ≡ 0) ⊎ ((found_live progress ≡ false) ⊎ (stops halt new progress ≡ true))

-- or fewer were made than were left, since the next one had no memory; how many is known where they may stop
pub record HasMadeButTo (answers : ℕ → ℕ → Type 0) (halt : Halt) (left rest : ℕ) (old new : MachineView) : Type 0 where
  pub made : ℕ
  pub on : HasMadeOn answers made old new
  pub fewer : made < left
  pub count : (halt ≡ Never → ⊥) → made + rest ≡ left
  pub passed : ArePassed answers halt made old new
