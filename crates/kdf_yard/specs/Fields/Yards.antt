-- What is said of a yard by how things stand in it.
use Rattle.std.specs.Prelude.{ℕ, ◌<◌, Bool, List, length, Option}
use Rattle.std.specs.List.{list_any}
use Rattle.kdf_processor.specs.Lone.{is_live}
use Rattle.kdf_processor.specs.declared.registers.Registers.{Registers}
use Rattle.kdf_journal.specs.declared.need.Need.{Need}
use Rattle.kdf_processor.specs.declared.step.Step.{Step}
use Rattle.kdf_journal.specs.declared.entry.Entry.{Entry}
use Rattle.kdf_yard.specs.declared.moment.Moment.{Moment}
use Rattle.kdf_yard.specs.declared.remark.Remark.{Remark}
use Rattle.kdf_yard.specs.Fields.Running.{AreLent, reach_at, seat_at}
use Rattle.kdf_yard.specs.Fields.Batches.{of_seats, AreQuiet, HasBatch, HasTriedOn, HasTurnedOn, Passes}
use Rattle.kdf_yard.specs.Fields.Going.{first_going, goes_at, AreNearHolds}
use Rattle.kdf_yard.specs.Fields.Going as going
use Rattle.kdf_yard.specs.Fields.Parts.{Seat}
use Rattle.kdf_yard.specs.Fields.Standing.{Standing}
use Rattle.kdf_yard.specs.Fields.Turned.{word_over}

-- the number, the registers and the hold of program i
abbrev pub number_in : Standing → ℕ → ℕ
number_in y i = (seat_at y.seats i).p

abbrev pub registers_in : Standing → ℕ → Registers
registers_in y i = (seat_at y.seats i).registers

abbrev pub hold_in : Standing → ℕ → Option Need
hold_in y i = going.hold_at y.holds i

-- program i goes on
abbrev pub goes_in : Standing → ℕ → Bool
goes_in y i = goes_at y.reaches y.seats y.holds y.shared i

-- the first of these slots whose program goes on
abbrev pub first_in : Standing → List ℕ → Option ℕ
first_in y order = first_going y.reaches y.seats y.holds y.shared order

-- one of the programs is live
abbrev pub any_in : Standing → Bool
any_in y = list_any (λ (x : Seat). is_live x.registers.state) y.seats

-- each group that held a program is one of its store
abbrev pub AreNear : Standing → Type 0
AreNear y = AreNearHolds y.reaches y.holds

-- each device of the pool is whose the journal tells
abbrev pub AreLentIn : Standing → List Entry → Type 0
AreLentIn y J = AreLent J y.reaches y.seats

-- each program is in one of the four slots
abbrev pub AreOfFour : Standing → Type 0
AreOfFour y = (i : ℕ) → i < length y.seats → number_in y i < 4

-- the word of which the next order of program i asks the service, if it does
abbrev pub word_in : Standing → ℕ → Option ℕ
word_in y i = word_over (seat_at y.seats i) (reach_at y.reaches i) y.shared

-- program i obeyed n orders at a moment of which nothing is noted, past a place, and tried one more, which ended so
abbrev pub HasTurnedIn : Moment → (i n : ℕ) → Option ℕ → (old new : Standing) → Step → Remark → Type 0
HasTurnedIn m i n place old new ended noted =
    HasBatch (of_seats i) place (HasTurnedOn old.reaches m i) n old.seats old.shared new.seats new.shared ended noted

-- and no more
abbrev pub HasTurnedQuietly : Moment → (i n : ℕ) → Option ℕ → (old new : Standing) → Type 0
HasTurnedQuietly m i n place old new =
    AreQuiet (Passes (of_seats i) place (HasTurnedOn old.reaches m i)) n old.seats old.shared new.seats new.shared

-- the same at a time, at which the service was heard where an order asked it
abbrev pub HasTriedIn : (answers : ℕ → ℕ → Type 0) → (time i n : ℕ) → Option ℕ → (old new : Standing) → Step → Remark
    → Type 0
HasTriedIn answers time i n place old new ended noted =
    HasBatch (of_seats i) place (HasTriedOn answers old.reaches time i) n old.seats old.shared new.seats new.shared
    ended noted

abbrev pub HasTriedQuietly : (answers : ℕ → ℕ → Type 0) → (time i n : ℕ) → Option ℕ → (old new : Standing) → Type 0
HasTriedQuietly answers time i n place old new =
    AreQuiet (Passes (of_seats i) place (HasTriedOn answers old.reaches time i)) n old.seats old.shared
    new.seats new.shared
