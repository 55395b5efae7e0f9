-- What one step makes of each program's own state.
use Rattle.std.proofs.Common.{◌≡◌, ℕ, ◌+◌, ◌≤◌, arith, List, [], ◌++◌, length, Option, Some, None, true, eqb, refl, ap, ◌∙◌, add-zero, append-nil}
use Rattle.std.proofs.lemmas.Bool.{eq-eqb}
use Rattle.std.proofs.lemmas.List.{length-append}
use Rattle.kdf_processor.specs.Effect.{Question}
use Rattle.kdf_processor.specs.Lone.{is_live, lone_step}
use Rattle.kdf_processor.specs.Row.{next_of, row}
use Rattle.kdf_transfer.specs.Slots.{Slot}
use Rattle.kdf_processor.specs.State.{State}
use Rattle.kdf_processor.proofs.ByItself.{row_same}
use Rattle.kdf_processor.proofs.LoneLemmas.{longer}
use Rattle.kdf_processor.proofs.RowFacts.{asks, asked_row, live_step, next_answer, ran_live}
use Rattle.kdf_journal.specs.declared.entry.Entry.{Entry}
use Rattle.kdf_journal.specs.Counts.{ran, answers}
use Rattle.kdf_journal.specs.Steps.{Note, JournalStep, Obeys, added}
use Rattle.kdf_journal.proofs.Added.{ran_by, ran-added, answer_in_note, answers_by, answers-added}
use Rattle.kdf_theory.specs.Slots.{slot_of, start_of, start}
use Rattle.kdf_theory.specs.ByJournal.{own}
use Rattle.kdf_theory.specs.Legal.{note_of}
use Rattle.kdf_theory.proofs.Course.LoneRuns.{lone-more, told_next, answers_noted}

pub own-nil : (slots : List Slot) (p : ℕ) → own slots [] p ≡ start slots p
unfolding own
own-nil slots p = refl

live_at : (o : Option Slot) → is_live (start_of o).registers.state ≡ true
live_at None = refl
live_at (Some s) = refl

-- each program is live at its start
pub live-start : (slots : List Slot) (p : ℕ) → is_live (start slots p).registers.state ≡ true
live-start slots p = live_at (slot_of slots p)

none_ran : (o : Option Slot) → (start_of o).registers.ran ≡ 0
none_ran None = refl
none_ran (Some s) = refl

-- a live program has obeyed as many orders as the journal counts
pub own-ran : (slots : List Slot) (J : List Entry) (p : ℕ) → is_live (own slots J p).registers.state ≡ true → (own slots J p).registers.ran ≡ ran p J
unfolding own
own-ran slots J p live = ran_live (start slots p) (answers p J) (ran p J) live ∙ rw (none_ran (slot_of slots p)) (omega arith)

none_asked : (o : Option Slot) → (start_of o).stock.asked ≡ 0
none_asked None = refl
none_asked (Some s) = refl

-- each program has taken no answer at its start
pub asked-start : (slots : List Slot) (p : ℕ) → (start slots p).stock.asked ≡ 0
asked-start slots p = none_asked (slot_of slots p)

-- a program that a step neither runs nor answers stays
pub own-same : (slots : List Slot) (J : List Entry) (s : JournalStep) (q : ℕ) → ran_by q s ≡ 0 → answers_by q s ≡ [] → own slots (added J s) q ≡ own slots J q
unfolding own
own-same slots J s q r a = rw (ran-added q J s, answers-added q J s, r, a, add-zero, append-nil)

own-more : (slots : List Slot) (J : List Entry) (s : JournalStep) (q : ℕ) (given : List ℕ) → ran_by q s ≡ 1 → answers_by q s ≡ given
    → (own slots J q).stock.asked ≤ length (answers q J)
    → own slots (added J s) q ≡ lone_step (answers q J ++ given) (own slots J q)
unfolding own
own-more slots J s q given r a enough =
    rw (ran-added q J s, answers-added q J s, r, a)
    (lone-more (start slots q) (answers q J ++ given) (ran q J)
    ∙ ap (lone_step (answers q J ++ given)) (longer (start slots q) (answers q J) given (ran q J) enough (ran q J) (omega arith)))

-- the program that obeys makes a row of its next order, and takes the answer that its note tells
pub own-obeys : (slots : List Slot) (J : List Entry) (p : ℕ) (answer : Question → ℕ) → (own slots J p).stock.asked ≡ length (answers p J)
    → is_live (own slots J p).registers.state ≡ true
    → own slots (added J (Obeys p (note_of (own slots J p) answer))) p ≡ row (own slots J p) answer
own-obeys slots J p answer asked live =
    let same : eqb p p ≡ true = eq-eqb p p refl in
    let s : State = own slots J p in
    let given : List ℕ = answer_in_note (note_of s answer) in
    own-more slots J (Obeys p (note_of s answer)) p given (rw same refl) (rw same refl) (omega (arith, asked))
    ∙ (live_step (answers p J ++ given) s live
    ∙ row_same (next_answer (answers p J ++ given) s) answer s (told_next answer (answers p J) s asked))

-- and it has taken all of its answers
pub asked-obeys : (slots : List Slot) (J : List Entry) (p : ℕ) (answer : Question → ℕ) → (own slots J p).stock.asked ≡ length (answers p J)
    → is_live (own slots J p).registers.state ≡ true
    → (own slots (added J (Obeys p (note_of (own slots J p) answer))) p).stock.asked ≡ length (answers p (added J (Obeys p (note_of (own slots J p) answer))))
asked-obeys slots J p answer asked live =
    let same : eqb p p ≡ true = eq-eqb p p refl in
    let s : State = own slots J p in
    let note : Note = note_of s answer in
    let more : answers p (added J (Obeys p note)) ≡ answers p J ++ answer_in_note note = answers-added p J (Obeys p note) ∙ rw same refl in
    let taken : (own slots (added J (Obeys p note)) p).stock.asked ≡ s.stock.asked + asks (next_of s answer).act =
    ap (λ (t : State). t.stock.asked) (own-obeys slots J p answer asked live) ∙ asked_row answer s in
    omega (arith, asked, taken, answers_noted s answer, ap length more, length-append (answers p J) (answer_in_note note))
