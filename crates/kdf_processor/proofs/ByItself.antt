-- A program by itself is never held up, so the outcome of its next order is its row; what a port shows of a program's state;
-- and which answer an order takes.
use Rattle.std.proofs.Common.{◌≡◌, ◌≢◌, ℕ, Bool, Option, Some, None, List, [], ◌∷◌, refl, ap, ◌∙◌}
use Rattle.std.specs.Prelude.{find}
use Rattle.kdf_journal.specs.declared.kind.Kind.{Kind}
use Rattle.kdf_journal.specs.declared.need.Need.{Need}
use Rattle.kdf_journal.specs.declared.need.Need.TheVariants.{Group, Device, Pool}
use Rattle.kdf_processor.specs.declared.registers.Registers.{Registers}
use Rattle.kdf_processor.specs.declared.step.Step.TheVariants.{Held}
use Rattle.kdf_processor.specs.Effect.{Act, Asks, Question, Effect, Failing, Ending, Changing, Fetching, Keeping, Testing, Starting, Asking, Claiming}
use Rattle.kdf_processor.specs.Effect.{Returning, Spooling}
use Rattle.kdf_processor.specs.Needs.{needs_at, next_effect}
use Rattle.kdf_processor.specs.Outcome.{Outcome, outcome, held_or, went}
use Rattle.kdf_processor.specs.Row.{at_once, taken, next_of, done_by, row}
use Rattle.kdf_processor.specs.State.{Stock, State}
use Rattle.kdf_processor.specs.View.{View, first_pending, by_itself}

abbrev pub state : Registers → Stock → State
state r k = record { registers = r; stock = k }

-- nothing is pending
pub first_pending_alone : (k : Stock) (answer : Question → ℕ) (ns : List Need) → first_pending (by_itself answer k) ns ≡ None
first_pending_alone k answer [] = refl
first_pending_alone k answer (Group g ∷ ns) = first_pending_alone k answer ns
first_pending_alone k answer (Device d ∷ ns) = first_pending_alone k answer ns
first_pending_alone k answer (Pool kind ∷ ns) = first_pending_alone k answer ns

-- no group is out, and no device is busy
pub none_out : (k : Stock) (answer : Question → ℕ) (gs : List ℕ) → find (by_itself answer k).is_out gs ≡ None
none_out k answer [] = refl
none_out k answer (g ∷ gs) = none_out k answer gs

pub none_busy : (k : Stock) (answer : Question → ℕ) (ds : List ℕ) → find (by_itself answer k).is_busy ds ≡ None
none_busy k answer [] = refl
none_busy k answer (d ∷ ds) = none_busy k answer ds

-- so the next order is never held
pub outcome_alone : (k : Stock) (answer : Question → ℕ) (r : Registers) → outcome (by_itself answer k) r ≡ next_of (state r k) answer
outcome_alone k answer r =
    ap (λ n. held_or r n (next_of (state r k) answer)) (first_pending_alone k answer (needs_at k.claims (by_itself answer k).word r []))

done_not_held : (answer : Question → ℕ) (e : Effect) (s : State) (need : Need) → (done_by answer e s).step ≢ Held need
done_not_held answer (Failing kind) s need h = cc
done_not_held answer (Ending after) s need h = cc
done_not_held answer (Changing after) s need h = cc
done_not_held answer (Fetching a after) s need h = cc
done_not_held answer (Keeping a w after) s need h = cc
done_not_held answer (Testing d what after) s need h = cc
done_not_held answer (Starting d o first last after) s need h = cc
done_not_held answer (Asking question after) s need h = cc
done_not_held answer (Claiming d after) s need h = cc
done_not_held answer (Returning pooled d after) s need h = cc
done_not_held answer (Spooling stream first last after) s need h = cc

pub never_held : (answer : Question → ℕ) (s : State) (need : Need) → (next_of s answer).step ≢ Held need
never_held answer s need = done_not_held answer (next_effect s) s need

-- and the registers and the stock that it leaves are those of the row
pub row_alone : (k k' : Stock) (answer : Question → ℕ) (r r' : Registers) → r' ≡ (outcome (by_itself answer k) r).registers
    → k' ≡ at_once (outcome (by_itself answer k) r).act k → state r' k' ≡ row (state r k) answer
row_alone k k' answer r r' registers stock =
    let o = outcome_alone k answer r in
    ap (λ x. state x k') (registers ∙ ap (λ (x : Outcome). x.registers) o)
    ∙ ap (state (next_of (state r k) answer).registers) (stock ∙ ap (λ (x : Outcome). at_once x.act k) o)

-- what a port shows that shows this stock, some of it pending
abbrev pub among : Stock → (Question → ℕ) → (out busy : ℕ → Bool) → (taken : Kind → Bool) → List ℕ → View
among k answer out busy taken mine = record (by_itself answer k) { is_out = out; is_busy = busy; is_taken = taken; mine = mine }

-- ---- answers

-- what an effect asks
abbrev pub question_of : Effect → Option Question
question_of (Asking question after) = Some question
question_of e = None

-- the same answer to a question, if there is one
abbrev pub IsSameAnswer : (answer other : Question → ℕ) → Option Question → Type 0
IsSameAnswer answer other None = Unit {0}
IsSameAnswer answer other (Some question) = answer question ≡ other question

done_same : (answer other : Question → ℕ) (e : Effect) (s : State) → IsSameAnswer answer other (question_of e) → done_by answer e s ≡ done_by other e s
done_same answer other (Asking question after) s same = ap (λ a. went s.registers (after a) (Asks question a)) same
done_same answer other e s same = refl

-- only the answer to the question that the next order asks counts
pub next_same : (answer other : Question → ℕ) (s : State) → IsSameAnswer answer other (question_of (next_effect s)) → next_of s answer ≡ next_of s other
next_same answer other s same = done_same answer other (next_effect s) s same

pub row_same : (answer other : Question → ℕ) (s : State) → IsSameAnswer answer other (question_of (next_effect s)) → row s answer ≡ row s other
row_same answer other s same = ap (λ o. taken o s) (next_same answer other s same)

-- what an act asks, and the answer that it took
abbrev pub asked_in : Act → Option Question
asked_in (Asks question a) = Some question
asked_in act = None

abbrev pub told_in : Act → ℕ
told_in (Asks question a) = a
told_in act = 0

done_asks : (answer : Question → ℕ) (e : Effect) (s : State) → asked_in (done_by answer e s).act ≡ question_of e
done_asks answer (Asking question after) s = refl
done_asks answer e s = refl

told_same : (answer : Question → ℕ) (e : Effect) (s : State) → IsSameAnswer answer (λ _. told_in (done_by answer e s).act) (question_of e)
told_same answer (Asking question after) s = refl
told_same answer e s = tt

-- and the answer that it took is all that counts
pub next_told : (answer : Question → ℕ) (s : State) → next_of s answer ≡ next_of s (λ _. told_in (next_of s answer).act)
next_told answer s = next_same answer (λ _. told_in (next_of s answer).act) s (told_same answer (next_effect s) s)
