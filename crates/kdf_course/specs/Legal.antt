-- What makes a journal legal.
use Rattle.std.specs.Prelude.{◌≡◌, ℕ, ◌<◌, ◌≤◌, List, [], ◌∷◌, true, Some, None}
use Rattle.kdf_journal.specs.declared.entry.Entry.{Entry}
use Rattle.kdf_journal.specs.Counts.{clock}
use Rattle.kdf_journal.specs.Steps.{Note, JournalStep, Obeys, Holds, Waits, Moves, Ends, Sets, Swaps, journal_of, steps}
use Rattle.kdf_course.specs.World.{Dispatch, next, any_live}

-- The step is as the rules have it in this world, after the journal J. A program that is next obeys, with a note that is
-- admitted, or is held by the first of its needs that is pending; a call finds all held where none is next; no time is set
-- back; and only slots exchange their priorities.
abbrev pub Meets : Dispatch → (ℕ → Note → Type 0) → List Entry → JournalStep → Type 0
Meets w admits J (Obeys p note) = (next w J ≡ Some p) × (w.held p ≡ None) × admits p note
Meets w admits J (Holds p by) = (next w J ≡ Some p) × (w.held p ≡ Some by)
Meets w admits J Waits = (any_live w.there J ≡ true) × (next w J ≡ None)
Meets w admits J (Moves d n) = Unit {0}
Meets w admits J (Ends d) = Unit {0}
Meets w admits J (Sets t) = clock J ≤ t
Meets w admits J (Swaps p q) = (p < 4) × (q < 4)

-- each step is so in the world of its journal
abbrev pub EachMeets : (List Entry → Dispatch) → (List Entry → ℕ → Note → Type 0) → List JournalStep → Type 0
EachMeets W admits [] = Unit {0}
EachMeets W admits (s ∷ P) =
    EachMeets W admits P × Meets (W (journal_of P)) (admits (journal_of P)) (journal_of P) s

-- The journal is that of its steps, and each step meets the rules. The first alone guards the form: that entries which
-- could be one are joined, that each number of orders and of idle calls is at least 1, and that a note stands directly
-- after an order, with the order's program, and nowhere else.
pub record IsLegal (W : List Entry → Dispatch) (admits : List Entry → ℕ → Note → Type 0) (J : List Entry) : Type 0 where
  pub in_form : journal_of (steps J) ≡ J
  pub each : EachMeets W admits (steps J)

-- ---- notes by themselves

-- the note of the step, if it has one, is admitted
abbrev pub Noted : (ℕ → Note → Type 0) → JournalStep → Type 0
Noted admits (Obeys p note) = admits p note
Noted admits s = Unit {0}

-- whatever else the steps are, each note is admitted
abbrev pub EachNoted : (List Entry → ℕ → Note → Type 0) → List JournalStep → Type 0
EachNoted admits [] = Unit {0}
EachNoted admits (s ∷ P) = EachNoted admits P × Noted (admits (journal_of P)) s

-- the note is this one
abbrev pub is_note : (List Entry → ℕ → Note) → List Entry → ℕ → Note → Type 0
is_note note J p n = n ≡ note J p

-- it is one of these, each of which comes of an answer
abbrev pub one_of : (List Entry → ℕ → ℕ → Note) → List Entry → ℕ → Note → Type 0
one_of notes J p n = (v : ℕ) × (n ≡ notes J p v)

-- the note is admitted by both
abbrev pub both : (List Entry → ℕ → Note → Type 0) → (List Entry → ℕ → Note → Type 0) → List Entry → ℕ → Note → Type 0
both admits more J p n = admits J p n × more J p n

-- at most one note is admitted
abbrev pub IsOne : (List Entry → ℕ → Note → Type 0) → Type 0
IsOne admits = (J : List Entry) (p : ℕ) (n m : Note) → admits J p n → admits J p m → n ≡ m

-- what the one admits the other does
abbrev pub IsWithin : (admits more : List Entry → ℕ → Note → Type 0) → Type 0
IsWithin admits more = (J : List Entry) (p : ℕ) (n : Note) → admits J p n → more J p n
