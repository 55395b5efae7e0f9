-- Orders that are tried one after the other, where nothing is noted of any but the last. What a try does to a program,
-- or to all of them, and to what is shared is a relation.
use Rattle.std.specs.Prelude.{◌≡◌, ℕ, zero, suc, false, List, Option}
use Rattle.kdf_processor.specs.declared.registers.Registers.{Registers}
use Rattle.kdf_processor.specs.declared.step.Step.{Step}
use Rattle.kdf_processor.specs.declared.step.Step.TheVariants.{Done}
use Rattle.kdf_yard.specs.declared.moment.Moment.{Moment}
use Rattle.kdf_yard.specs.declared.remark.Remark.{Remark}
use Rattle.kdf_yard.specs.declared.remark.Remark.TheVariants.{Quiet}
use Rattle.kdf_yard.specs.Fields.Parts.{Reach, Seat}
use Rattle.kdf_places.specs.Shared.{Shared}
use Rattle.kdf_yard.specs.Fields.Running.{seat_at, IsRunning}
use Rattle.kdf_yard.specs.Fields.Turned.{HasTriedAt, HasTurned}
use Rattle.std.specs.Prelude.{◌==◌, Bool, Some, None}

-- so many orders were obeyed, of which nothing is noted
abbrev pub AreQuiet : {X : Type 0} → (tries : X → Shared → X → Shared → Step → Remark → Type 0) → ℕ
    → X → Shared → X → Shared → Type 0
AreQuiet tries zero before s after left = (after ≡ before) × (left ≡ s)
AreQuiet {X} tries (suc n) before s after left =
    (mid : X) × (between : Shared) × AreQuiet tries n before s mid between × tries mid between after left Done Quiet

-- the registers of a program, and those of program i of all
abbrev pub of_seat : Seat → Registers
of_seat x = x.registers

abbrev pub of_seats : ℕ → List Seat → Registers
of_seats i xs = (seat_at xs i).registers

-- whether a program with these registers is at a place
abbrev pub is_at : Option ℕ → Registers → Bool
is_at None r = false
is_at (Some at) r = r.at == at

-- a try after which the program isn't at a place
abbrev pub Passes : {X : Type 0} → (registers : X → Registers) → Option ℕ
    → (tries : X → Shared → X → Shared → Step → Remark → Type 0) → X → Shared → X → Shared → Step → Remark → Type 0
Passes registers place tries before s after left ended noted =
    tries before s after left ended noted × (is_at place (registers after) ≡ false)

-- so many orders were obeyed, of which nothing is noted and after none of which the program is at a place, and after
-- them one more was tried
pub record HasBatch {X : Type 0} (registers : X → Registers) (place : Option ℕ)
    (tries : X → Shared → X → Shared → Step → Remark → Type 0) (quiet : ℕ)
    (before : X) (s : Shared) (after : X) (left : Shared) (ended : Step) (noted : Remark) : Type 0 where
  pub mid : X
  pub between : Shared
  pub earlier : AreQuiet (Passes registers place tries) quiet before s mid between
  pub last : tries mid between after left ended noted

-- program i of all tried its next order, and the programs are over what they share as before
abbrev pub HasTurnedOn : List Reach → Moment → ℕ → List Seat → Shared → List Seat → Shared
    → Step → Remark → Type 0
HasTurnedOn reaches m i before s after left ended noted =
    HasTurned reaches m i before s after left ended noted × IsRunning reaches after left

-- and at this time, at which the service was heard where the order asked it
abbrev pub HasTriedOn : (answers : ℕ → ℕ → Type 0) → List Reach → (time i : ℕ)
    → List Seat → Shared → List Seat → Shared → Step → Remark → Type 0
HasTriedOn answers reaches time i before s after left ended noted =
    HasTriedAt answers reaches time i before s after left ended noted × IsRunning reaches after left
