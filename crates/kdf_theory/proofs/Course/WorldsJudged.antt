-- What dispatching reads of a world, and what makes a legal journal a true one.
use Rattle.std.proofs.Common.{◌≡◌, ℕ, ◌+◌, List, [], ◌∷◌, Option, Some, None, refl, sym, ◌∙◌, ap, subst}
use Rattle.kdf_processor.specs.Effect.{Question, IsBusy, IsOut, Time, FreeOf, OfService, Asks, Effect, Asking}
use Rattle.kdf_processor.specs.Needs.{next_effect}
use Rattle.kdf_processor.specs.Row.{done_by}
use Rattle.kdf_transfer.specs.Slots.{Slot}
use Rattle.kdf_processor.specs.State.{State}
use Rattle.kdf_journal.specs.declared.entry.Entry.{Entry}
use Rattle.kdf_journal.specs.Steps.{Note, Quiet, Began, Answered, Took, Gave, Failed, Finished, JournalStep, Obeys, Holds, Waits, Moves, Ends, Sets, Swaps}
use Rattle.kdf_journal.specs.Steps.{added}
use Rattle.kdf_journal.specs.Steps.{journal_of}
use Rattle.kdf_course.specs.Legal as course
use Rattle.kdf_course.specs.Cut.{cut}
use Rattle.kdf_course.proofs.Steps.{meets-noted, meets-within, noted-added, noted-nil, noted-within, legal-added, legal-before, legal-nil}
use Rattle.kdf_course.proofs.Cuts.{legal-cut}
use Rattle.kdf_theory.specs.Legal.{any_answer, lone_note, note_of_act, note_of_outcome, is_true, is_truth, IsLegal, IsTrue, IsAnswer, answers_by, Meets}
use Rattle.kdf_theory.specs.Next.{lone_dispatched}
use Rattle.kdf_theory.specs.ByJournal.{lone_world, own}
use Rattle.kdf_theory.specs.True.{truth}

-- ---- legal and true

-- each answer that an order is given is one that it may be given
some_note : (answer : Question → ℕ) (e : Effect) (s : State) → (v : ℕ) × (note_of_outcome (done_by answer e s) ≡ note_of_outcome (done_by (λ _. v) e s))
some_note answer (Asking question after) s = (answer question, refl)
some_note answer e s = (0, refl)

pub within_any : (slots : List Slot) (heard : ℕ) → course.IsWithin (course.is_note (lone_note slots heard)) (any_answer slots)
within_any slots heard J p n is =
    let v = some_note (truth (lone_world slots J) J p heard) (next_effect (own slots J p)) (own slots J p) in
    (v.0, is ∙ v.1)

-- the answer that a note tells
abbrev answer_in : Note → Option ℕ
answer_in (Answered v) = Some v
answer_in (Took d) = Some d
answer_in note = None

number_same : (v w : ℕ) → Some v ≡ Some w → v ≡ w
number_same v w e = cc

-- an order that asks has a note that tells its answer
told : (k : ℕ) (q : Question) (v : ℕ) → answer_in (note_of_act k (Asks q v)) ≡ Some v
told k (IsBusy d) v = refl
told k (IsOut first last) v = refl
told k Time v = refl
told k (FreeOf kind) v = refl
told k (OfService word) v = refl

module _ (slots : List Slot) (fits : List Entry → ℕ → Question → ℕ → Type 0) (J : List Entry) (p : ℕ) where
  answer_fits : (n : Note) → answers_by slots fits J p n → (v : ℕ) → answer_in n ≡ Some v → IsAnswer (next_effect (own slots J p)) (fits J p) v
  answer_fits Quiet truly v is = cc
  answer_fits (Began d k) truly v is = cc
  answer_fits (Answered w) truly v is = subst (IsAnswer (next_effect (own slots J p)) (fits J p)) (number_same w v is) truly
  answer_fits (Took d) truly v is = subst (IsAnswer (next_effect (own slots J p)) (fits J p)) (number_same d v is) truly
  answer_fits (Gave d) truly v is = cc
  answer_fits (Failed kind) truly v is = cc
  answer_fits Finished truly v is = cc

  pub fits_note : (n : Note) → ((v : ℕ) → answer_in n ≡ Some v → IsAnswer (next_effect (own slots J p)) (fits J p) v) → answers_by slots fits J p n
  fits_note Quiet each = tt
  fits_note (Began d k) each = tt
  fits_note (Answered v) each = each v refl
  fits_note (Took d) each = each d refl
  fits_note (Gave d) each = tt
  fits_note (Failed kind) each = tt
  fits_note Finished each = tt

-- the note of an order that is answered so tells that answer, and no other
pub true_to : (answer : Question → ℕ) (e : Effect) (s : State) (v : ℕ) → answer_in (note_of_outcome (done_by answer e s)) ≡ Some v
    → IsAnswer e (λ q x. x ≡ answer q) v
true_to answer (Asking question after) s v is = number_same v (answer question) (sym is ∙ told (s.registers.ran + 1) question (answer question))
true_to answer e s v is = tt

-- what is true where something else was heard of the service is true where v was, if v is the answer
again : (slots : List Slot) (J : List Entry) (p heard : ℕ) (e : Effect) (v : ℕ) → IsAnswer e (λ q x. x ≡ truth (lone_world slots J) J p heard q) v
    → IsAnswer e (is_truth slots J p) v
again slots J p heard (Asking (IsBusy d) after) v is = is
again slots J p heard (Asking (IsOut first last) after) v is = is
again slots J p heard (Asking Time after) v is = is
again slots J p heard (Asking (FreeOf kind) after) v is = is
again slots J p heard (Asking (OfService word) after) v is = refl
again slots J p heard e v is = tt

pub within_true : (slots : List Slot) (heard : ℕ) → course.IsWithin (course.is_note (lone_note slots heard)) (is_true slots)
within_true slots heard J p n is =
    fits_note slots (is_truth slots) J p n
    (λ v e. again slots J p heard (next_effect (own slots J p)) v
    (true_to (truth (lone_world slots J) J p heard) (next_effect (own slots J p)) (own slots J p) v (ap answer_in (sym is) ∙ e)))

-- ---- at most one note, where a question has at most one answer
same_note : (fits : Question → ℕ → Type 0) (one : (q : Question) (v w : ℕ) → fits q v → fits q w → v ≡ w) (e : Effect) (s : State) (v w : ℕ)
    → ((x : ℕ) → answer_in (note_of_outcome (done_by (λ _. v) e s)) ≡ Some x → IsAnswer e fits x)
    → ((x : ℕ) → answer_in (note_of_outcome (done_by (λ _. w) e s)) ≡ Some x → IsAnswer e fits x)
    → note_of_outcome (done_by (λ _. v) e s) ≡ note_of_outcome (done_by (λ _. w) e s)
same_note fits one (Asking question after) s v w a b =
    ap (λ (x : ℕ). note_of_act (s.registers.ran + 1) (Asks question x))
    (one question v w (a v (told (s.registers.ran + 1) question v)) (b w (told (s.registers.ran + 1) question w)))
same_note fits one e s v w a b = refl

pub one_answer : (slots : List Slot) (fits : List Entry → ℕ → Question → ℕ → Type 0)
    → ((J : List Entry) (p : ℕ) (q : Question) (v w : ℕ) → fits J p q v → fits J p q w → v ≡ w)
    → course.IsOne (course.both (any_answer slots) (answers_by slots fits))
one_answer slots fits one J p n m a b =
    a.0.1
    ∙ same_note (fits J p) (one J p) (next_effect (own slots J p)) (own slots J p) a.0.0 b.0.0
    (λ x e. answer_fits slots fits J p n a.1 x (ap answer_in a.0.1 ∙ e))
    (λ x e. answer_fits slots fits J p m b.1 x (ap answer_in b.0.1 ∙ e))
    ∙ sym b.0.1

-- ---- one step more, and fewer steps

-- the note of an answer that is true where it was heard itself
true_noted : (slots : List Slot) (J : List Entry) (p : ℕ) (e : Effect) (s : State) (v : ℕ)
    → ((x : ℕ) → answer_in (note_of_outcome (done_by (λ _. v) e s)) ≡ Some x → IsAnswer e (is_truth slots J p) x)
    → note_of_outcome (done_by (λ _. v) e s) ≡ note_of_outcome (done_by (truth (lone_world slots J) J p v) e s)
true_noted slots J p (Asking question after) s v is = ap (λ (x : ℕ). note_of_act (s.registers.ran + 1) (Asks question x))
    (is v (told (s.registers.ran + 1) question v))
true_noted slots J p e s v is = refl

-- a step that meets the rules, and whose answer is the true one, truly meets them where some number was heard of the
-- service
pub meets_truly : (slots : List Slot) (J : List Entry) (s : JournalStep) → course.Meets (lone_dispatched slots J) (any_answer slots J) J s
    → course.Noted (is_true slots J) s → (heard : ℕ) × Meets (lone_world slots J) slots J heard s
meets_truly slots J (Obeys p n) m truly =
    let v = m.2.0 in
    let is : n ≡ note_of_outcome (done_by (λ _. v) (next_effect (own slots J p)) (own slots J p)) = m.2.1 in
    let same : n ≡ lone_note slots v J p = is ∙ true_noted slots J p (next_effect (own slots J p)) (own slots J p) v
    (λ x e. answer_fits slots (is_truth slots) J p n truly x (ap answer_in is ∙ e)) in
    let met : Meets (lone_world slots J) slots J v (Obeys p n) = (m.0, m.1, same) in
    (v, met)
meets_truly slots J (Holds p by) m truly = (0, m)
meets_truly slots J Waits m truly = (0, m)
meets_truly slots J (Moves d n) m truly = (0, m)
meets_truly slots J (Ends d) m truly = (0, m)
meets_truly slots J (Sets t) m truly = (0, m)
meets_truly slots J (Swaps p q) m truly = (0, m)

-- a step that meets the rules truly meets them, and its answer is the true one
pub meets_any : (slots : List Slot) (J : List Entry) (heard : ℕ) (s : JournalStep) → Meets (lone_world slots J) slots J heard s
    → course.Meets (lone_dispatched slots J) (any_answer slots J) J s
meets_any slots J heard s m = meets-within (lone_dispatched slots J) (course.is_note (lone_note slots heard) J) (any_answer slots J) (within_any slots heard J)
    J s m

pub meets_true : (slots : List Slot) (J : List Entry) (heard : ℕ) (s : JournalStep) → Meets (lone_world slots J) slots J heard s
    → course.Noted (is_true slots J) s
meets_true slots J heard s m = noted-within (course.is_note (lone_note slots heard) J) (is_true slots J) (within_true slots heard J) s
    (meets-noted (lone_dispatched slots J) (course.is_note (lone_note slots heard) J) J s m)

pub legal_nil : (slots : List Slot) → IsLegal slots []
legal_nil slots = legal-nil (lone_dispatched slots) (any_answer slots)

pub true_nil : (slots : List Slot) → IsTrue slots []
true_nil slots = noted-nil (is_true slots)

pub legal_added : (slots : List Slot) (J : List Entry) (heard : ℕ) (s : JournalStep) → IsLegal slots J → Meets (lone_world slots J) slots J heard s
    → IsLegal slots (added J s)
legal_added slots J heard s l m = legal-added (lone_dispatched slots) (any_answer slots) J s l (meets_any slots J heard s m)

pub true_added : (slots : List Slot) (J : List Entry) (heard : ℕ) (s : JournalStep) → IsLegal slots J → IsTrue slots J
    → Meets (lone_world slots J) slots J heard s
    → IsTrue slots (added J s)
true_added slots J heard s l truly m = noted-added (is_true slots) J s l.in_form truly (meets_true slots J heard s m)

pub legal_before : (slots : List Slot) (s : JournalStep) (P : List JournalStep) → IsLegal slots (journal_of (s ∷ P)) → IsLegal slots (journal_of P)
legal_before slots s P l = legal-before (lone_dispatched slots) (any_answer slots) s P l

pub legal_cut : (slots : List Slot) (n : ℕ) (J : List Entry) → IsLegal slots J → IsLegal slots (cut n J)
legal_cut slots n J l = legal-cut (lone_dispatched slots) (any_answer slots) n J l
