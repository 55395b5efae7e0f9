-- What makes a journal legal, and what makes it true.
use Rattle.std.specs.Prelude.{◌≡◌, ℕ, List, true}
use Rattle.kdf_processor.specs.declared.step.Step.{Step}
use Rattle.kdf_processor.specs.declared.step.Step.TheVariants as ending
use Rattle.kdf_processor.specs.Effect.{Act, Starts, Asks, Releases, Effect, Asking, Question, FreeOf}
use Rattle.kdf_processor.specs.Needs.{next_effect}
use Rattle.kdf_processor.specs.Outcome.{Outcome}
use Rattle.kdf_transfer.specs.Slots.{Slot}
use Rattle.kdf_processor.specs.State.{State}
use Rattle.kdf_processor.specs.Row.{next_of}
use Rattle.kdf_journal.specs.declared.entry.Entry.{Entry}
use Rattle.kdf_journal.specs.Steps.{Note, Quiet, Began, Answered, Took, Gave, Failed, Finished, JournalStep, steps}
use Rattle.kdf_course.specs.Legal as course
use Rattle.kdf_theory.specs.Next.{dispatched, lone_dispatched}
use Rattle.kdf_theory.specs.ByJournal.{lone_world, own}
use Rattle.kdf_theory.specs.True.{truth}
use Rattle.kdf_theory.specs.World.{World}

-- ---- the note of an order

-- the note of what own order k of a program did
abbrev pub note_of_act : ℕ → Act → Note
note_of_act k (Starts d o first last) = Began d k
note_of_act k (Asks (FreeOf kind) answer) = Took answer
note_of_act k (Asks question answer) = Answered answer
note_of_act k (Releases true d) = Gave d
note_of_act k _ = Quiet

-- the note of own order k, which ended so
abbrev pub note_for : ℕ → Step → Act → Note
note_for k (ending.Fails kind) act = Failed kind
note_for k ending.Ends act = Finished
note_for k _ act = note_of_act k act

-- the note of an order that came out so
abbrev pub note_of_outcome : Outcome → Note
note_of_outcome o = note_for o.registers.ran o.step o.act

-- the note of the next order of a program in this state, which is answered so, if it asks
abbrev pub note_of : State → (Question → ℕ) → Note
note_of s answer = note_of_outcome (next_of s answer)

-- ---- legal

-- the notes with which the next order of program p, run alone, may come out: one for each answer
abbrev pub notes : List Slot → List Entry → ℕ → ℕ → Note
notes slots J p v = note_of (own slots J p) (λ _. v)

-- each of them is admitted: an order that asks may have any answer
abbrev pub any_answer : List Slot → List Entry → ℕ → Note → Type 0
any_answer slots = course.one_of (notes slots)

-- each step is as the rules have it in the world of lone runs, whatever the orders that asked were answered
abbrev pub EachMeets : List Slot → List JournalStep → Type 0
EachMeets slots P = course.EachMeets (lone_dispatched slots) (any_answer slots) P

abbrev pub IsLegal : List Slot → List Entry → Type 0
IsLegal slots J = course.IsLegal (lone_dispatched slots) (any_answer slots) J

-- ---- true

-- v is an answer to what the order of this effect asks, if it asks, where `fits` says which answers a question may have
abbrev pub IsAnswer : Effect → (fits : Question → ℕ → Type 0) → ℕ → Type 0
IsAnswer (Asking question after) fits v = fits question v
IsAnswer e fits v = Unit {0}

-- where the note is an answer, it is such a one; and so is the device that an order took from the pool
abbrev pub answers_by : List Slot → (List Entry → ℕ → Question → ℕ → Type 0) → List Entry → ℕ → Note → Type 0
answers_by slots fits J p (Answered v) = IsAnswer (next_effect (own slots J p)) (fits J p) v
answers_by slots fits J p (Took d) = IsAnswer (next_effect (own slots J p)) (fits J p) d
answers_by slots fits J p note = Unit {0}

-- v is what is truly answered, where v is what was heard of the service: the true answer, and any answer to what the
-- service is asked
abbrev pub is_truth : List Slot → List Entry → ℕ → Question → ℕ → Type 0
is_truth slots J p question v = v ≡ truth (lone_world slots J) J p v question

abbrev pub is_true : List Slot → List Entry → ℕ → Note → Type 0
is_true slots = answers_by slots (is_truth slots)

-- each answer that the journal has is the true one; what the service answered is whatever it is
abbrev pub IsTrue : List Slot → List Entry → Type 0
IsTrue slots J = course.EachNoted (is_true slots) (steps J)

-- ---- legal and true

-- the note with which the next order of program p comes out where it is truly answered, and this was heard of the
-- service
abbrev pub true_note : World → List Entry → (heard : ℕ) → ℕ → Note
true_note w J heard p = note_of (w.state p) (truth w J p heard)

abbrev pub lone_note : List Slot → (heard : ℕ) → List Entry → ℕ → Note
lone_note slots heard J p = true_note (lone_world slots J) J heard p

-- the step is as the rules have it in this world, and its note tells the truth, where this was heard of the service
abbrev pub Meets : World → List Slot → List Entry → (heard : ℕ) → JournalStep → Type 0
Meets w slots J heard s = course.Meets (dispatched slots w) (λ p note. note ≡ true_note w J heard p) J s
