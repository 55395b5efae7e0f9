-- Where no order asked the service, a journal that is true for one service is true for each.
use Rattle.std.proofs.Common.{◌≡◌, ℕ, List, [], ◌∷◌, None}
use Rattle.kdf_journal.specs.declared.entry.Entry.{Entry}
use Rattle.kdf_journal.specs.Steps.{Note, Answered, Took, JournalStep, Obeys, journal_of, steps}
use Rattle.kdf_transfer.specs.Slots.{Slot}
use Rattle.kdf_processor.specs.Ahead.{word_asked}
use Rattle.kdf_processor.specs.Effect.{IsBusy, IsOut, Time, FreeOf, OfService, Effect, Asking}
use Rattle.kdf_processor.specs.Needs.{next_effect}
use Rattle.kdf_course.specs.Legal as course
use Rattle.kdf_theory.specs.ByJournal.{own}
use Rattle.kdf_theory.specs.Legal.{IsAnswer}
use Rattle.kdf_theory.specs.Served.{is_served, is_true_for, IsTrueFor}
use Rattle.kdf_theory.specs.Slots.{NoneServed}
use Rattle.kdf_theory.specs.Unasked.{asks_none, AsksNone}
use Rattle.kdf_theory.proofs.Course.OneJournal.{own_unserved}
use Rattle.kdf_theory.proofs.Course.HeardWords.{none_asked}

module _ (answers more : ℕ → ℕ → Type 0) (slots : List Slot) where
  by_effect : (J : List Entry) (p : ℕ) (e : Effect) (v : ℕ) → word_asked e ≡ None → IsAnswer e (is_served answers slots J p) v
      → IsAnswer e (is_served more slots J p) v
  by_effect J p (Asking (IsBusy d) after) v none is = is
  by_effect J p (Asking (IsOut first last) after) v none is = is
  by_effect J p (Asking Time after) v none is = is
  by_effect J p (Asking (FreeOf kind) after) v none is = is
  by_effect J p (Asking (OfService word) after) v none is = cc
  by_effect J p e v none is = tt

  by_note : (J : List Entry) (p : ℕ) (note : Note) → asks_none slots J p note → is_true_for answers slots J p note → is_true_for more slots J p note
  by_note J p (Answered v) none is = by_effect J p (next_effect (own slots J p)) v none is
  by_note J p (Took d) none is = by_effect J p (next_effect (own slots J p)) d none is
  by_note J p note none is = tt

  by_step : (J : List Entry) (s : JournalStep) → course.Noted (asks_none slots J) s → course.Noted (is_true_for answers slots J) s
      → course.Noted (is_true_for more slots J) s
  by_step J (Obeys p note) none is = by_note J p note none is
  by_step J s none is = tt

  each : (P : List JournalStep) → course.EachNoted (asks_none slots) P → course.EachNoted (is_true_for answers slots) P
      → course.EachNoted (is_true_for more slots) P
  each [] none truly = tt
  each (s ∷ P) none truly = (each P none.0 truly.0, by_step (journal_of P) s none.1 truly.1)

  pub true_for_each : (J : List Entry) → AsksNone slots J → IsTrueFor answers slots J → IsTrueFor more slots J
  true_for_each J none truly = each (steps J) none truly

-- and none of an unserved program does
module _ (slots : List Slot) (unserved : NoneServed slots) where
  step_unserved : (J : List Entry) (s : JournalStep) → course.Noted (asks_none slots J) s
  step_unserved J (Obeys p note) = none_asked (own slots J p) (own_unserved slots unserved J p)
  step_unserved J s = tt

  each_unserved : (P : List JournalStep) → course.EachNoted (asks_none slots) P
  each_unserved [] = tt
  each_unserved (s ∷ P) = (each_unserved P, step_unserved (journal_of P) s)

  pub none_unserved : (J : List Entry) → AsksNone slots J
  none_unserved J = each_unserved (steps J)
