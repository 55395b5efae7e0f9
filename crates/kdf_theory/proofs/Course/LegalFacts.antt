-- What a legal journal says of each program.
use Rattle.std.proofs.Common.{◌≡◌, ℕ, List, [], ◌∷◌, Bool, true, false, ◌||◌, not, eqb, length, inl, inr, refl, sym, ◌∙◌, append-nil}
use Rattle.std.proofs.lemmas.Bool.{cases_eq, eq-eqb, ne_eqb}
use Rattle.kdf_processor.specs.Effect.{Question}
use Rattle.kdf_processor.specs.Lone.{is_live}
use Rattle.kdf_transfer.specs.Slots.{Slot}
use Rattle.kdf_journal.specs.declared.entry.Entry.{Entry}
use Rattle.kdf_journal.specs.Counts.{answers, over}
use Rattle.kdf_journal.specs.Steps.{Note, Quiet, Began, Answered, Took, Gave, Failed, Finished, JournalStep, Obeys, Holds, Waits, Moves, Ends, Sets, Swaps}
use Rattle.kdf_journal.specs.Steps.{added}
use Rattle.kdf_journal.specs.Steps.{journal_of, steps}
use Rattle.kdf_journal.proofs.Added.{ran_by, answers_by, answers-added, ends_by, over-added}
use Rattle.kdf_theory.specs.ByJournal.{own, lone_world}
use Rattle.kdf_course.specs.Legal as course
use Rattle.kdf_theory.specs.Legal.{any_answer, note_of, EachMeets, IsLegal}
use Rattle.kdf_theory.specs.Next.{lone_dispatched}
use Rattle.kdf_theory.proofs.Course.LoneRuns.{goes_on, live_row}
use Rattle.kdf_theory.proofs.Course.OwnSteps.{own-nil, live-start, asked-start, own-same, own-obeys, asked-obeys}
use Rattle.kdf_theory.proofs.Course.Worlds.{next_on}

-- a program is live until it has ended or failed by the journal, and took the answers that the journal has of it
pub record IsKept (slots : List Slot) (J : List Entry) (q : ℕ) : Type 0 where
  pub alive : is_live (own slots J q).registers.state ≡ not (over q J)
  pub asked : (own slots J q).stock.asked ≡ length (answers q J)

ends : (p : ℕ) (note : Note) (was_over : Bool) → not was_over ≡ true → goes_on note ≡ not (ends_by p (Obeys p note) || was_over)
ends p Quiet was_over on = sym on
ends p (Began d k) was_over on = sym on
ends p (Answered v) was_over on = sym on
ends p (Took d) was_over on = sym on
ends p (Gave d) was_over on = sym on
ends p (Failed kind) was_over on = rw (eq-eqb p p refl) refl
ends p Finished was_over on = rw (eq-eqb p p refl) refl

pub ends_not : (p q : ℕ) (note : Note) → eqb p q ≡ false → ends_by q (Obeys p note) ≡ false
ends_not p q Quiet apart = refl
ends_not p q (Began d k) apart = refl
ends_not p q (Answered v) apart = refl
ends_not p q (Took d) apart = refl
ends_not p q (Gave d) apart = refl
ends_not p q (Failed kind) apart = apart
ends_not p q Finished apart = apart

-- a program that a step neither runs nor answers stays
kept-stays : (slots : List Slot) (J : List Entry) (s : JournalStep) (q : ℕ) → ran_by q s ≡ 0 → answers_by q s ≡ [] → ends_by q s ≡ false → IsKept slots J q
    → IsKept slots (added J s) q
kept-stays slots J s q none silent on kept = record {
  alive = rw (own-same slots J s q none silent, over-added q J s, on) kept.alive;
  asked = rw (own-same slots J s q none silent, answers-added q J s, silent, append-nil) kept.asked;
}

kept-obeys : (slots : List Slot) (J : List Entry) (p : ℕ) (answer : Question → ℕ) → not (over p J) ≡ true → IsKept slots J p
    → IsKept slots (added J (Obeys p (note_of (own slots J p) answer))) p
kept-obeys slots J p answer on kept =
    let live : is_live (own slots J p).registers.state ≡ true = kept.alive ∙ on in
    let note : Note = note_of (own slots J p) answer in
    record {
      alive = rw (own-obeys slots J p answer kept.asked live, over-added p J (Obeys p note)) (live_row (own slots J p) answer live ∙ ends p note (over p J) on);
      asked = asked-obeys slots J p answer kept.asked live;
    }

kept-turn : (slots : List Slot) (J : List Entry) (p : ℕ) (answer : Question → ℕ) → not (over p J) ≡ true → ((q : ℕ) → IsKept slots J q) → (q : ℕ)
    → IsKept slots (added J (Obeys p (note_of (own slots J p) answer))) q
kept-turn slots J p answer on kept q =
    let note : Note = note_of (own slots J p) answer in
    elim (cases_eq p q) [
      | inl same ↦ rw (← same) (kept-obeys slots J p answer on (kept p))
      | inr differ ↦ let other : eqb p q ≡ false = ne_eqb p q differ in
          kept-stays slots J (Obeys p note) q (rw other refl) (rw other refl) (ends_not p q note other) (kept q)
    ]

kept-added : (slots : List Slot) (J : List Entry) (s : JournalStep) → course.Meets (lone_dispatched slots J) (any_answer slots J) J s
    → ((q : ℕ) → IsKept slots J q)
    → (q : ℕ) → IsKept slots (added J s) q
kept-added slots J (Obeys p note) m kept q = rw m.2.1 (kept-turn slots J p (λ _. m.2.0) (next_on (lone_world slots J) slots J p m.0) kept q)
kept-added slots J (Holds p by) m kept q = kept-stays slots J (Holds p by) q refl refl refl (kept q)
kept-added slots J Waits m kept q = kept-stays slots J Waits q refl refl refl (kept q)
kept-added slots J (Moves d n) m kept q = kept-stays slots J (Moves d n) q refl refl refl (kept q)
kept-added slots J (Ends d) m kept q = kept-stays slots J (Ends d) q refl refl refl (kept q)
kept-added slots J (Sets t) m kept q = kept-stays slots J (Sets t) q refl refl refl (kept q)
kept-added slots J (Swaps p r) m kept q = kept-stays slots J (Swaps p r) q refl refl refl (kept q)

pub kept_of : (slots : List Slot) (P : List JournalStep) → EachMeets slots P → (q : ℕ) → IsKept slots (journal_of P) q
kept_of slots [] m q = record { alive = rw (own-nil slots q) (live-start slots q); asked = rw (own-nil slots q) (asked-start slots q) }
kept_of slots (s ∷ P) m q = kept-added slots (journal_of P) s m.1 (kept_of slots P m.0) q

legal_kept : (slots : List Slot) (J : List Entry) → IsLegal slots J → (q : ℕ) → IsKept slots J q
legal_kept slots J l q = rw l.in_form at (kept_of slots (steps J) l.each q)

pub legal_alive : (slots : List Slot) (J : List Entry) → IsLegal slots J → (q : ℕ) → is_live (own slots J q).registers.state ≡ not (over q J)
legal_alive slots J l q = (legal_kept slots J l q).alive

pub legal_asked : (slots : List Slot) (J : List Entry) → IsLegal slots J → (q : ℕ) → (own slots J q).stock.asked ≡ length (answers q J)
legal_asked slots J l q = (legal_kept slots J l q).asked
