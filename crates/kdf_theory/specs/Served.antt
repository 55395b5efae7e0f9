-- What it is for a journal to be true for a service, of which `answers n a` says that a is one of its answers to n.
use Rattle.std.specs.Prelude.{◌≡◌, ◌⊎◌, ℕ, ◌<◌, ◌^◌, List}
use Rattle.kdf_processor.specs.Effect.{Question, OfService}
use Rattle.kdf_transfer.specs.Slots.{Slot}
use Rattle.kdf_journal.specs.declared.entry.Entry.{Entry}
use Rattle.kdf_journal.specs.Steps.{Note, JournalStep, added, steps}
use Rattle.kdf_schedule.specs.declared.event.Event.{Event}
use Rattle.kdf_schedule.specs.Calls.{calls_made}
use Rattle.kdf_course.specs.Legal as course
use Rattle.kdf_theory.specs.Follows.{IsWhole}
use Rattle.kdf_theory.specs.Legal.{answers_by, is_truth, IsLegal}

-- what the service is asked is answered as it answers, and any other answer is the true one
abbrev pub is_served : (answers : ℕ → ℕ → Type 0) → List Slot → List Entry → ℕ → Question → ℕ → Type 0
is_served answers slots J p (OfService word) v = (word < 2 ^ 48) × answers word v
is_served answers slots J p question v = is_truth slots J p question v

abbrev pub is_true_for : (answers : ℕ → ℕ → Type 0) → List Slot → List Entry → ℕ → Note → Type 0
is_true_for answers slots = answers_by slots (is_served answers slots)

-- each answer that the journal has is such a one
abbrev pub IsTrueFor : (answers : ℕ → ℕ → Type 0) → List Slot → List Entry → Type 0
IsTrueFor answers slots J = course.EachNoted (is_true_for answers slots) (steps J)

-- the journal is that of the slots under the schedule, with this service
pub record IsJournalFor (answers : ℕ → ℕ → Type 0) (slots : List Slot) (events : List Event) (J : List Entry)
    : Type 0 where
  pub legal : IsLegal slots J
  pub truly : IsTrueFor answers slots J
  pub whole : IsWhole slots (calls_made events) J

-- a service that answers nothing: a journal is true for it where no order asked the service
abbrev pub unasked : ℕ → ℕ → Type 0
unasked word answer = ⊥

-- the journal K is J, or J with a step more, whose answer, if it has one, is one of the service's or the true one
abbrev pub IsAnswered : (answers : ℕ → ℕ → Type 0) → List Slot → (J K : List Entry) → Type 0
IsAnswered answers slots J K = (K ≡ J) ⊎ ((s : JournalStep) × (K ≡ added J s) × course.Noted (is_true_for answers slots J) s)
