-- What is entered of a turn is its step.
use Rattle.std.proofs.Common.{◌≡◌, ◌+◌, ℕ, List, Option, None, true, false, refl}
use Rattle.kdf_journal.specs.declared.entry.Entry.{Entry}
use Rattle.kdf_journal.specs.Steps.{Obeys, Holds, added}
use Rattle.kdf_journal.specs.declared.need.Need.{Need}
use Rattle.kdf_journal.specs.declared.need.Need.TheVariants.{Group, Device, Pool}
use Rattle.kdf_processor.specs.declared.step.Step.TheVariants.{Held}
use Rattle.kdf_processor.specs.Effect.{Act, Nothing, Writes, Starts, Asks, Acquires, Releases, Spools}
use Rattle.kdf_processor.specs.Effect.{Question, IsBusy, IsOut, Time, FreeOf, OfService}
use Rattle.kdf_processor.specs.Effect.{Effect, Failing, Ending, Changing, Fetching, Keeping, Testing, Starting, Asking, Claiming, Returning, Spooling}
use Rattle.kdf_processor.specs.Needs.{next_effect}
use Rattle.kdf_processor.specs.Row.{done_by, next_of}
use Rattle.kdf_processor.specs.State.{State}
use Rattle.kdf_theory.specs.Legal.{note_of, note_of_outcome}
use Rattle.kdf_theory.specs.World.{hold_left}
use Rattle.kdf_check.specs.CheckPort.{entry_after}
use Rattle.kdf_check.specs.Entered.{entered, IsNote}

-- an order that is obeyed, by what it does
effect_entered : (J : List Entry) (p : ℕ) (answer : Question → ℕ) (e : Effect) (s : State)
    → entered J p (done_by answer e s).step (entry_after p (s.registers.ran + 1) (done_by answer e s).act None)
    ≡ added J (Obeys p (note_of_outcome (done_by answer e s)))
effect_entered J p answer (Failing kind) s = refl
effect_entered J p answer (Ending after) s = refl
effect_entered J p answer (Changing after) s = refl
effect_entered J p answer (Fetching a after) s = refl
effect_entered J p answer (Keeping a word after) s = refl
effect_entered J p answer (Testing d what after) s = refl
effect_entered J p answer (Starting d o first last after) s = refl
effect_entered J p answer (Asking (IsBusy d) after) s = refl
effect_entered J p answer (Asking (IsOut first last) after) s = refl
effect_entered J p answer (Asking Time after) s = refl
effect_entered J p answer (Asking (FreeOf kind) after) s = refl
effect_entered J p answer (Asking (OfService word) after) s = refl
effect_entered J p answer (Claiming d after) s = refl
effect_entered J p answer (Returning true d after) s = refl
effect_entered J p answer (Returning false d after) s = refl
effect_entered J p answer (Spooling stream first last after) s = refl

pub obeyed-entered : (J : List Entry) (p : ℕ) (answer : Question → ℕ) (s : State)
    → entered J p (next_of s answer).step (entry_after p (s.registers.ran + 1) (next_of s answer).act None) ≡ added J (Obeys p (note_of s answer))
obeyed-entered J p answer s = effect_entered J p answer (next_effect s) s

-- it holds the program no more
effect_free : (answer : Question → ℕ) (e : Effect) (s : State) → hold_left (done_by answer e s).step ≡ None
effect_free answer (Failing kind) s = refl
effect_free answer (Ending after) s = refl
effect_free answer (Changing after) s = refl
effect_free answer (Fetching a after) s = refl
effect_free answer (Keeping a word after) s = refl
effect_free answer (Testing d what after) s = refl
effect_free answer (Starting d o first last after) s = refl
effect_free answer (Asking q after) s = refl
effect_free answer (Claiming d after) s = refl
effect_free answer (Returning pooled d after) s = refl
effect_free answer (Spooling stream first last after) s = refl

pub obeyed-free : (answer : Question → ℕ) (s : State) → hold_left (next_of s answer).step ≡ None
obeyed-free answer s = effect_free answer (next_effect s) s

-- a program that is held
pub held-entered : (J : List Entry) (p : ℕ) (need : Need) (entry : Option Entry) → entered J p (Held need) entry ≡ added J (Holds p need)
held-entered J p (Group g) entry = refl
held-entered J p (Device d) entry = refl
held-entered J p (Pool kind) entry = refl

-- the entry of an act counts nothing
pub note_is : (p k : ℕ) (act : Act) → IsNote (entry_after p k act None)
note_is p k Nothing = tt
note_is p k (Writes a w) = tt
note_is p k (Starts d o first last) = (refl, refl)
note_is p k (Asks (IsBusy d) answer) = (refl, refl)
note_is p k (Asks (IsOut first last) answer) = (refl, refl)
note_is p k (Asks Time answer) = (refl, refl)
note_is p k (Asks (FreeOf kind) answer) = (refl, refl)
note_is p k (Asks (OfService word) answer) = (refl, refl)
note_is p k (Acquires d) = tt
note_is p k (Releases true d) = (refl, refl)
note_is p k (Releases false d) = tt
note_is p k (Spools stream first last) = tt
