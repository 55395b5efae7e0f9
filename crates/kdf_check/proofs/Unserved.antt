-- Where no slot is served, the verdict is the same for every service.
use Rattle.std.proofs.Common.{◌≡◌, ℕ, ◌+◌, ◌≤◌, ◌⊎◌, inl, inr, Bool, true, false, List, None, Option, length}
use Rattle.kdf_journal.specs.declared.entry.Entry.{Entry}
use Rattle.kdf_journal.specs.Steps.{Answered, Took, steps}
use Rattle.kdf_transfer.specs.Slots.{Slot}
use Rattle.kdf_schedule.specs.declared.event.Event.{Event}
use Rattle.kdf_course.specs.Legal as course
use Rattle.kdf_course.proofs.Steps.{each-noted-within}
use Rattle.kdf_processor.specs.Ahead.{word_asked}
use Rattle.kdf_processor.specs.Effect.{Effect, Asking, IsBusy, IsOut, Time, FreeOf, OfService}
use Rattle.kdf_processor.specs.Needs.{next_effect}
use Rattle.kdf_text.specs.Lines.{is_text, line}
use Rattle.kdf_text.specs.Lines as in_text
use Rattle.kdf_theory.specs.Legal.{IsAnswer}
use Rattle.kdf_theory.specs.Served.{is_served, is_true_for, IsJournalFor}
use Rattle.kdf_theory.specs.Slots.{NoneServed}
use Rattle.kdf_theory.specs.ByJournal.{own}
use Rattle.kdf_theory.proofs.Course.OneJournal.{own_unserved}
use Rattle.kdf_theory.proofs.Course.HeardWords.{none_asked}
use Rattle.kdf_check.specs.declared.verdict.Verdict.{Verdict}
use Rattle.kdf_check.specs.declared.verdict.Verdict.TheVariants.{Yes, No}
use Rattle.kdf_check.specs.Report.{head_line, told_lines, IsCheck, IsJudged}
use Rattle.kdf_check.specs.Verdict.{CanGoOn, IsVerdict}

-- what an order that doesn't ask the service is answered
same_answer : (answers more : ℕ → ℕ → Type 0) (slots : List Slot) (J : List Entry) (p : ℕ) (e : Effect) (v : ℕ) → word_asked e ≡ None
    → IsAnswer e (is_served answers slots J p) v → IsAnswer e (is_served more slots J p) v
same_answer answers more slots J p (Asking (IsBusy d) after) v none is = is
same_answer answers more slots J p (Asking (IsOut first last) after) v none is = is
same_answer answers more slots J p (Asking Time after) v none is = is
same_answer answers more slots J p (Asking (FreeOf kind) after) v none is = is
same_answer answers more slots J p (Asking (OfService word) after) v none is = cc
same_answer answers more slots J p e v none is = tt

same_note : (answers more : ℕ → ℕ → Type 0) (slots : List Slot) → NoneServed slots → course.IsWithin (is_true_for answers slots) (is_true_for more slots)
same_note answers more slots none J p (Answered v) is = same_answer answers more slots J p (next_effect (own slots J p)) v
    (none_asked (own slots J p) (own_unserved slots none J p)) is
same_note answers more slots none J p (Took d) is = same_answer answers more slots J p (next_effect (own slots J p)) d
    (none_asked (own slots J p) (own_unserved slots none J p)) is
same_note answers more slots none J p n is = tt

same_journal : (answers more : ℕ → ℕ → Type 0) (slots : List Slot) → NoneServed slots → (events : List Event) (J : List Entry)
    → IsJournalFor answers slots events J → IsJournalFor more slots events J
same_journal answers more slots none events J j = record {
  legal = j.legal;
  truly = each-noted-within (is_true_for answers slots) (is_true_for more slots) (same_note answers more slots none) (steps J) j.truly;
  whole = j.whole;
}

module _ (answers more : ℕ → ℕ → Type 0) (slots : List Slot) (none : NoneServed slots) (events : List Event) where
  on : (lines : List (Option Entry)) (k : ℕ) → CanGoOn answers slots events lines k → CanGoOn more slots events lines k
  on lines k g = (g.0, same_journal answers more slots none events g.0 g.1, g.2)

  back : (lines : List (Option Entry)) (k : ℕ) → CanGoOn more slots events lines k → CanGoOn answers slots events lines k
  back lines k g = (g.0, same_journal more answers slots none events g.0 g.1, g.2)

  here : (lines : List (Option Entry)) (k : ℕ) → (k ≡ length lines + 1) ⊎ ((k ≤ length lines) × (CanGoOn answers slots events lines k → ⊥))
      → (k ≡ length lines + 1) ⊎ ((k ≤ length lines) × (CanGoOn more slots events lines k → ⊥))
  here lines k (inl e) = inl e
  here lines k (inr w) = inr (w.0, λ g. w.1 (back lines k g))

  verdict-same : (lines : List (Option Entry)) (v : Verdict) → IsVerdict answers slots events lines v → IsVerdict more slots events lines v
  verdict-same lines Yes t = (t.0, same_journal answers more slots none events t.0 t.1, t.2)
  verdict-same lines (No k) w = (
    λ t. w.0 (t.0, same_journal more answers slots none events t.0 t.1, t.2),
    record {
      counted = w.1.counted;
      before = λ j some below. (let at = w.1.before j some below in (at.0, on lines j at.1));
      here = here lines k w.1.here;
    },
  )

  judged-same : (b : Bool) (lines : List (Option Entry)) (v : Verdict) → IsJudged b (IsVerdict answers slots events lines v) v
      → IsJudged b (IsVerdict more slots events lines v) v
  judged-same true lines v is = verdict-same lines v is
  judged-same false lines v is = is

  pub check-same : (bytes : List ℕ) (v : Verdict) → IsCheck answers slots events bytes v → IsCheck more slots events bytes v
  check-same bytes v is = judged-same (is_text head_line (line (in_text.lines bytes) 1)) (told_lines (in_text.lines bytes)) v is
