-- What calls of a machine in turn come to where several are made at once.
use Rattle.std.specs.Prelude.{◌≡◌, ◌<◌, ◌≤◌, ◌+◌, ◌++◌, ◌⊎◌, ℕ, zero, suc, true, false, List, Option, None, Result, Ok, Err, replicate}
use Rattle.kdf_journal.specs.declared.entry.Entry.{Entry}
use Rattle.kdf_journal.specs.Counts.{calls, clock}
use Rattle.kdf_journal.specs.Steps.{JournalStep, added, steps}
use Rattle.kdf_journal.specs.declared.need.Need.{Need}
use Rattle.kdf_processor.specs.declared.step.Step.{Step}
use Rattle.kdf_schedule.specs.Calls.{AnOrder}
use Rattle.kdf_course.specs.Follows.{EachLive, answered}
use Rattle.kdf_director.specs.declared.machine.Progress.{Progress}
use Rattle.kdf_yard.specs.declared.remark.Remark.{Remark}
use Rattle.kdf_director.specs.Advance.{AdvanceWith}
use Rattle.kdf_theory.specs.Legal.{IsLegal}
use Rattle.kdf_theory.specs.Next.{lone_dispatched}
use Rattle.kdf_director.specs.Orders.{HasMade}
use Rattle.kdf_director.specs.Progressed.{found_live}
use Rattle.kdf_theory.specs.Served.{IsAnswered, IsTrueFor}
use Rattle.kdf_theory.specs.MachineView.{MachineView}
use Rattle.kdf_theory.specs.InARow.{ran_on}
use Rattle.kdf_theory.specs.World.{hold_left}
use Rattle.kdf_director.specs.Fields.TurnTaken.{progress_of, step_told}

-- what holds a program after so many orders of which nothing is noted
abbrev pub held_after : ℕ → Option Need → Option Need
held_after zero hold = hold
held_after (suc n) hold = None

-- what is entered of so many orders of program p of which nothing is noted, and of the turn after them, which ended so:
-- in all it makes so many calls
pub record IsEntered (J : List Entry) (p quiet ran : ℕ) (ended : Step) (noted : Remark) (K : List Entry)
    (held : Option Need) (made : ℕ) (progress : Progress) : Type 0 where
  pub entries : K ≡ added (ran_on J p quiet) (step_told p ran ended noted)
  pub hold : held ≡ hold_left ended
  pub count : made ≡ quiet + 1
  pub answer : progress ≡ progress_of p ended

-- and where the turn after them had no memory, of these orders alone
abbrev pub HasEntered : {E F : Type 0} → List Entry → (p quiet ran : ℕ) → (hold : Option Need) → Result (Step × Remark) E
    → List Entry → (held : Option Need) → Result (ℕ × Progress) F → Type 0
HasEntered J p quiet ran hold (Ok tried) K held (Ok x) = IsEntered J p quiet ran tried.0 tried.1 K held x.0 x.1
HasEntered J p quiet ran hold (Err e) K held (Err f) = (K ≡ ran_on J p quiet) × (held ≡ held_after quiet hold)
HasEntered J p quiet ran hold _ K held _ = ⊥

-- so many calls with a service, each of which found a live program, and what they made of the journal
pub record HasMadeOn (answers : ℕ → ℕ → Type 0) (n : ℕ) (old new : MachineView) : Type 0 where
  pub made : HasMade answers n old new
  pub more : List JournalStep
  pub goes_on : steps new.journal ≡ more ++ steps old.journal
  pub in_order : answered more ≡ replicate n AnOrder
  pub lived : EachLive (lone_dispatched old.slots) (steps old.journal)
      → EachLive (lone_dispatched old.slots) (steps new.journal)
  pub truthful : IsTrueFor answers old.slots old.journal → IsTrueFor answers new.slots new.journal
  pub legal : IsLegal new.slots new.journal
  pub few : calls new.journal ≤ calls old.journal + n
  pub time : clock new.journal ≡ clock old.journal
  pub slots : new.slots ≡ old.slots
  pub room : new.room ≡ old.room

-- so many calls, of which the last answers so: where it found a live program, all did
pub record HasMadeSome (answers : ℕ → ℕ → Type 0) (n : ℕ) (old new : MachineView) (progress : Progress) : Type 0 where
  pub before : ℕ
  pub between : MachineView
  pub earlier : HasMadeOn answers before old between
  pub last : AdvanceWith answers between new progress
  pub answered : IsAnswered answers between.slots between.journal new.journal
  pub count : before + 1 ≡ n
  pub all_on : found_live progress ≡ true → HasMadeOn answers n old new

-- so many calls at most, of which the last answers so: fewer only where that found no live program
pub record HasMadeAtMost (answers : ℕ → ℕ → Type 0) (n : ℕ) (old new : MachineView) (progress : Progress) : Type 0 where
  pub made : ℕ
  pub some : HasMadeSome answers made old new progress
  pub within : made ≤ n
  pub whole : (made ≡ n) ⊎ (found_live progress ≡ false)

-- some of so many calls, and not the last
abbrev pub HasMadeButFewer : (answers : ℕ → ℕ → Type 0) → ℕ → MachineView → MachineView → Type 0
HasMadeButFewer answers n old new = (k : ℕ) × (k < n) × HasMadeOn answers k old new
