-- The one course that programs take under a schedule, as a function, where a function says the notes.
use Rattle.std.specs.Prelude.{ℕ, List, [], ◌∷◌, Option, Some, None, if◌then◌else◌}
use Rattle.kdf_journal.specs.declared.need.Need.{Need}
use Rattle.kdf_journal.specs.declared.entry.Entry.{Entry}
use Rattle.kdf_journal.specs.Steps.{Note, JournalStep, Obeys, Holds, Waits, Moves, Ends, Sets, Swaps, journal_of}
use Rattle.kdf_schedule.specs.Calls.{Call, AnOrder, AMove, AnEnd, AClock, ASwap}
use Rattle.kdf_course.specs.World.{Dispatch, next, any_live}

-- the step in which it is the turn of program p, which this holds up
abbrev pub turn_step : (ℕ → Note) → ℕ → Option Need → JournalStep
turn_step note p None = Obeys p (note p)
turn_step note p (Some by) = Holds p by

-- the step in which it is the turn of the program that is next, if one is
abbrev pub turn_step_of : Dispatch → (ℕ → Note) → Option ℕ → JournalStep
turn_step_of w note None = Waits
turn_step_of w note (Some p) = turn_step note p (w.held p)

-- the step that a call makes in this world, after the journal J, where a program is live
abbrev pub step_at : Dispatch → (ℕ → Note) → List Entry → Call → JournalStep
step_at w note J AnOrder = turn_step_of w note (next w J)
step_at w note J (AMove d n) = Moves d n
step_at w note J (AnEnd d) = Ends d
step_at w note J (AClock t) = Sets t
step_at w note J (ASwap p q) = Swaps p q

-- the step that a call makes in the world of the journal J, where a program is live
abbrev pub step_after : (List Entry → Dispatch) → (List Entry → ℕ → Note) → List Entry → Call → JournalStep
step_after W note J c = step_at (W J) (note J) J c

-- the steps, the newest first, with those that these calls make; where no program is live, they make none
abbrev pub course : (List Entry → Dispatch) → (List Entry → ℕ → Note) → List JournalStep → List Call → List JournalStep
course W note P [] = P
course W note P (c ∷ cs) =
    if any_live (W (journal_of P)).there (journal_of P)
    then course W note (step_after W note (journal_of P) c ∷ P) cs else P
