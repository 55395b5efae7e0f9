-- A live program's next order, by itself: what its note tells.
use Rattle.std.proofs.Common.{◌≡◌, ℕ, ◌+◌, List, [], ◌∷◌, ◌++◌, length, get_or, Bool, true, false, Option, Some, None, refl, add-one}
use Rattle.std.proofs.Math.Seq.{get_or-append_seam}
use Rattle.kdf_processor.specs.Effect.{Question, Effect, Failing, Ending, Asking, FreeOf, Returning}
use Rattle.kdf_processor.specs.Lone.{is_live, lone_step, lone}
use Rattle.kdf_processor.specs.Needs.{next_effect}
use Rattle.kdf_processor.specs.Row.{done_by, next_of, perform, row}
use Rattle.kdf_processor.specs.State.{State}
use Rattle.kdf_processor.proofs.ByItself.{IsSameAnswer, question_of}
use Rattle.kdf_processor.proofs.RowFacts.{asks}
use Rattle.kdf_journal.specs.Steps.{Note, Quiet, Began, Answered, Took, Gave, Failed, Finished}
use Rattle.kdf_journal.proofs.Added.{answer_in_note}
use Rattle.kdf_theory.specs.Legal.{note_of_outcome, note_of}

-- whether a program goes on after an order with this note
abbrev pub goes_on : Note → Bool
goes_on Quiet = true
goes_on (Began d k) = true
goes_on (Answered v) = true
goes_on (Took d) = true
goes_on (Gave d) = true
goes_on (Failed kind) = false
goes_on Finished = false

life_done : (answer : Question → ℕ) (e : Effect) (s : State) → is_live s.registers.state ≡ true
    → is_live (perform answer e s).registers.state ≡ goes_on (note_of_outcome (done_by answer e s))
life_done answer (Failing kind) s live = refl
life_done answer (Ending after) s live = refl
life_done answer (Asking (FreeOf kind) after) s live = live
life_done answer (Returning true d after) s live = live
life_done answer (Returning false d after) s live = live
life_done answer e s live = live

-- a program is live after its order exactly where the note doesn't say otherwise
pub live_row : (s : State) (answer : Question → ℕ) → is_live s.registers.state ≡ true → is_live (row s answer).registers.state ≡ goes_on (note_of s answer)
live_row s answer live = life_done answer (next_effect s) s live

answers_done : (answer : Question → ℕ) (e : Effect) (s : State) → asks (done_by answer e s).act ≡ length (answer_in_note (note_of_outcome (done_by answer e s)))
answers_done answer (Failing kind) s = refl
answers_done answer (Asking (FreeOf kind) after) s = refl
answers_done answer (Returning true d after) s = refl
answers_done answer (Returning false d after) s = refl
answers_done answer e s = refl

-- the note tells as many answers as the order takes
pub answers_noted : (s : State) (answer : Question → ℕ) → asks (next_of s answer).act ≡ length (answer_in_note (note_of s answer))
answers_noted s answer = answers_done answer (next_effect s) s

behind : (given : List ℕ) (n v : ℕ) → n ≡ length given → get_or (given ++ v ∷ []) n 0 ≡ v
behind given n v last = rw last (get_or-append_seam given v [] 0)

told_done : (answer : Question → ℕ) (given : List ℕ) (n : ℕ) (e : Effect) (s : State) → n ≡ length given
    → IsSameAnswer (λ _. get_or (given ++ answer_in_note (note_of_outcome (done_by answer e s))) n 0) answer (question_of e)
told_done answer given n (Asking (FreeOf kind) after) s last = behind given n (answer (FreeOf kind)) last
told_done answer given n (Asking question after) s last = behind given n (answer question) last
told_done answer given n e s last = tt

-- after the answers that were given, the note tells the one that the order takes
pub told_next : (answer : Question → ℕ) (given : List ℕ) (s : State) → s.stock.asked ≡ length given
    → IsSameAnswer (λ _. get_or (given ++ answer_in_note (note_of s answer)) s.stock.asked 0) answer (question_of (next_effect s))
told_next answer given s last = told_done answer given s.stock.asked (next_effect s) s last

same_at : (answer other : Question → ℕ) → ((q : Question) → answer q ≡ other q) → (o : Option Question) → IsSameAnswer answer other o
same_at answer other same None = tt
same_at answer other same (Some q) = same q

pub lone-more : (start : State) (answers : List ℕ) (n : ℕ) → lone start answers (n + 1) ≡ lone_step answers (lone start answers n)
lone-more start answers n = rw add-one refl
