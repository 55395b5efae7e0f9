-- What one call of a machine does.
use Rattle.std.specs.Prelude.{◌≡◌, ℕ, ◌==◌, List, ◌∷◌, Some, None, true, false, if◌then◌else◌}
use Rattle.kdf_journal.specs.Counts.{pending}
use Rattle.kdf_journal.specs.Steps.{Note, Quiet, Began, Answered, Took, Gave, Failed, Finished, JournalStep, Obeys, Holds, Waits, added}
use Rattle.kdf_processor.specs.Effect.{Question}
use Rattle.kdf_transfer.specs.Slots.{Slot}
use Rattle.kdf_processor.specs.State.{State}
use Rattle.kdf_journal.specs.declared.need.Need.{Need}
use Rattle.kdf_processor.specs.declared.step.Step.{Step}
use Rattle.kdf_processor.specs.declared.step.Step.TheVariants as ending
use Rattle.kdf_director.specs.declared.machine.Progress.{Progress}
use Rattle.kdf_director.specs.declared.machine.Progress.TheVariants as progress
use Rattle.kdf_yard.specs.declared.remark.Remark.{Remark}
use Rattle.kdf_yard.specs.declared.remark.Remark.TheVariants as noted
use Rattle.kdf_theory.specs.Legal.{note_of}
use Rattle.kdf_theory.specs.Next.{any_live, next}
use Rattle.kdf_theory.specs.Seen.{begun_row}
use Rattle.kdf_theory.specs.MachineView.{MachineView, entered, state_at, state_of, world_of}
use Rattle.kdf_theory.specs.ByJournal.{is_of}
use Rattle.kdf_theory.specs.True.{truth}
use Rattle.kdf_theory.specs.World.{first_need}
use Rattle.kdf_theory.specs.Asked.{IsHeard}

-- the states after program p obeyed its next order, by which a transfer only begins, and which was answered so, if it
-- asked
abbrev pub states_after : List Slot → List State → ℕ → (Question → ℕ) → List State
states_after (slot ∷ slots) (state ∷ states) p answer =
    if slot.p == p
    then begun_row state answer ∷ states
    else state ∷ states_after slots states p answer
states_after _ states p answer = states

-- program p, which is next and which nothing holds up, obeyed its next order, truly answered where this was heard of
-- the service, and the journal tells how that came out
pub record Obeyed (heard : ℕ) (old new : MachineView) (p : ℕ) : Type 0 where
  pub was_next : next (world_of old) old.slots old.journal ≡ Some p
  pub free : first_need (world_of old) p ≡ None
  pub states : new.states ≡ states_after old.slots old.states p (truth (world_of old) old.journal p heard)
  pub journal : new.journal
      ≡ added old.journal (Obeys p (note_of (state_at old p) (truth (world_of old) old.journal p heard)))

-- program p, which is next, is held by the first of its needs that is pending, and nothing else changes
pub record HeldUp (old new : MachineView) (p : ℕ) (need : Need) : Type 0 where
  pub was_next : next (world_of old) old.slots old.journal ≡ Some p
  pub held : first_need (world_of old) p ≡ Some need
  pub states : new.states ≡ old.states
  pub journal : new.journal ≡ added old.journal (Holds p need)

-- no program that is live can go on, and nothing else changes
pub record Waited (old new : MachineView) : Type 0 where
  pub live : any_live old.slots old.journal ≡ true
  pub none_next : next (world_of old) old.slots old.journal ≡ None
  pub states : new.states ≡ old.states
  pub journal : new.journal ≡ added old.journal Waits

-- the machine after a call that answers so, where this was heard of the service
abbrev pub Advance : (heard : ℕ) → MachineView → MachineView → Progress → Type 0
Advance heard old new (progress.Ran p) = Obeyed heard old new p
Advance heard old new (progress.Held p need) = HeldUp old new p need
Advance heard old new progress.Idle = Waited old new
Advance heard old new progress.AllEnded = (any_live old.slots old.journal ≡ false) × (new ≡ old)

-- where a call obeyed an order that asks the service of a word, this is one of its answers to the word
abbrev pub HasHeard : (answers : ℕ → ℕ → Type 0) → MachineView → (heard : ℕ) → Progress → Type 0
HasHeard answers old heard (progress.Ran p) = IsHeard answers (state_at old p) heard
HasHeard answers old heard other = Unit {0}

-- the machine after a call with a service, of which `answers n a` says that a is one of its answers to n
pub record AdvanceWith (answers : ℕ → ℕ → Type 0) (old new : MachineView) (progress : Progress) : Type 0 where
  pub heard : ℕ
  pub is_heard : HasHeard answers old heard progress
  pub advance : Advance heard old new progress

-- a machine in which an event was entered
abbrev pub Enters : MachineView → MachineView → JournalStep → Type 0
Enters old new s = new ≡ entered old s

-- each program that has no transfer on the device is as it was
abbrev pub OthersStay : MachineView → MachineView → ℕ → Type 0
OthersStay old new d = (p : ℕ) → is_of p (pending d old.journal) ≡ false → state_of new p ≡ state_of old p

-- the note of own order k, which ended so, and of which this was noted beside
abbrev pub note_beside : ℕ → Remark → Note
note_beside k noted.Quiet = Quiet
note_beside k (noted.Began d) = Began d k
note_beside k (noted.Told answer) = Answered answer
note_beside k (noted.Took d) = Took d
note_beside k (noted.Gave d) = Gave d

abbrev pub note_told : ℕ → Step → Remark → Note
note_told k (ending.Fails kind) beside = Failed kind
note_told k ending.Ends beside = Finished
note_told k _ beside = note_beside k beside
