-- For one service, the slots have one journal under a schedule; and one that is cut. Slots of which none is served have
-- one for each.
use Rattle.std.specs.Prelude.{IfSome}
use Rattle.std.proofs.Common.{◌≡◌, ℕ, ◌<◌, ◌^◌, inl, inr, Bool, true, false, cond, eqb, List, [], ◌∷◌, ◌++◌, length, Option, Some, None, refl, sym, ◌∙◌, subst}
use Rattle.std.proofs.lemmas.List.Elements.{All-head, All-tail}
use Rattle.kdf_processor.specs.Effect.{Question, IsBusy, IsOut, Time, FreeOf, OfService, Effect, Asking}
use Rattle.kdf_transfer.specs.Slots.{Slot}
use Rattle.kdf_journal.specs.declared.entry.Entry.{Entry}
use Rattle.kdf_journal.specs.Steps.{Note, JournalStep, added, steps, Answered, Took}
use Rattle.kdf_schedule.specs.declared.event.Event.{Event}
use Rattle.kdf_schedule.specs.Calls.{Call, calls_made}
use Rattle.kdf_course.specs.Cut.{cut}
use Rattle.kdf_course.specs.Follows as any
use Rattle.kdf_course.specs.Legal as course
use Rattle.kdf_course.proofs.Cuts.{journal-cut, noted-cut, whole-cut}
use Rattle.kdf_course.proofs.Fronts.{one_journal_lem, resumed_lem, stopped_lem}
use Rattle.kdf_course.proofs.Steps.{each-noted-within, legal-both, legal-noted, legal-within, noted-added, noted-nil, noted-within}
use Rattle.kdf_theory.specs.Follows.{Follows, IsWhole, IsRising}
use Rattle.kdf_theory.specs.Legal.{any_answer, IsLegal, answers_by, is_true, is_truth, lone_note, IsAnswer, IsTrue}
use Rattle.kdf_theory.specs.Next.{lone_dispatched}
use Rattle.kdf_theory.specs.Served.{is_served, is_true_for, IsTrueFor, IsJournalFor, IsAnswered}
use Rattle.kdf_theory.proofs.Course.WorldsJudged.{one_answer, fits_note, true_to, within_any}
use Rattle.kdf_processor.specs.Ahead.{word_asked}
use Rattle.kdf_processor.specs.Needs.{next_effect}
use Rattle.kdf_processor.proofs.RowFacts.{served_lone}
use Rattle.kdf_journal.specs.Counts.{answers, ran}
use Rattle.kdf_theory.specs.Asked.{IsHeard}
use Rattle.kdf_theory.specs.Slots.{NoneServed, slot_of, start, start_of}
use Rattle.kdf_theory.specs.ByJournal.{lone_world, own}
use Rattle.kdf_theory.specs.True.{truth}
use Rattle.kdf_theory.proofs.Course.HeardWords.{none_heard, none_asked}
use Rattle.kdf_course.proofs.OneJournal.{a_journal_lem}

-- a program that isn't served at its start never is
unserved_one : (b : Bool) (x : Slot) (rest : Option Slot) → x.served ≡ false → (start_of rest).stock.claims.served ≡ false
    → (start_of (cond b (Some x) rest)).stock.claims.served ≡ false
unserved_one true x rest this others = this
unserved_one false x rest this others = others

start_unserved : (slots : List Slot) → NoneServed slots → (p : ℕ) → (start slots p).stock.claims.served ≡ false
start_unserved [] none p = refl
start_unserved (x ∷ slots) none p =
    unserved_one (eqb x.p p) x (slot_of slots p) (All-head (λ (s : Slot). s.served ≡ false) x slots none)
    (start_unserved slots (All-tail (λ (s : Slot). s.served ≡ false) x slots none) p)

pub own_unserved : (slots : List Slot) → NoneServed slots → (J : List Entry) (p : ℕ) → (own slots J p).stock.claims.served ≡ false
unfolding own
own_unserved slots none J p = served_lone (start slots p) (answers p J) (ran p J) ∙ start_unserved slots none p

-- what fits each question with one relation does with another
answer_within : (fits more : Question → ℕ → Type 0) → ((q : Question) (v : ℕ) → fits q v → more q v) → (e : Effect) (v : ℕ) → IsAnswer e fits v
    → IsAnswer e more v
answer_within fits more part (Asking question after) v is = part question v is
answer_within fits more part e v is = tt

noted_within : (slots : List Slot) (fits more : List Entry → ℕ → Question → ℕ → Type 0)
    → ((J : List Entry) (p : ℕ) (q : Question) (v : ℕ) → fits J p q v → more J p q v) → course.IsWithin (answers_by slots fits) (answers_by slots more)
noted_within slots fits more part J p (Answered v) is = answer_within (fits J p) (more J p) (part J p) (next_effect (own slots J p)) v is
noted_within slots fits more part J p (Took d) is = answer_within (fits J p) (more J p) (part J p) (next_effect (own slots J p)) d is
noted_within slots fits more part J p n is = tt

module _ (answers more : ℕ → ℕ → Type 0) (part : (word answer : ℕ) → answers word answer → more word answer) (slots : List Slot) where
  served_within : (J : List Entry) (p : ℕ) (q : Question) (v : ℕ) → is_served answers slots J p q v → is_served more slots J p q v
  served_within J p (IsBusy d) v is = is
  served_within J p (IsOut first last) v is = is
  served_within J p Time v is = is
  served_within J p (FreeOf kind) v is = is
  served_within J p (OfService word) v is = (is.0, part word v is.1)

  pub true_for_more : (J : List Entry) → IsTrueFor answers slots J → IsTrueFor more slots J
  true_for_more J truly = each-noted-within (is_true_for answers slots) (is_true_for more slots)
      (noted_within slots (is_served answers slots) (is_served more slots) served_within) (steps J) truly

  pub answered_more : (J K : List Entry) → IsAnswered answers slots J K → IsAnswered more slots J K
  answered_more J K (inl same) = inl same
  answered_more J K (inr x) = inr (
    x.0,
    x.1,
    noted-within (is_true_for answers slots J) (is_true_for more slots J)
        (noted_within slots (is_served answers slots) (is_served more slots) served_within J) x.0 x.2,
  )

-- where none is served, what is true for one service is true for each
unserved_by : (answers more : ℕ → ℕ → Type 0) (slots : List Slot) (J : List Entry) (p : ℕ) (e : Effect) (v : ℕ) → word_asked e ≡ None
    → IsAnswer e (is_served answers slots J p) v → IsAnswer e (is_served more slots J p) v
unserved_by answers more slots J p (Asking (IsBusy d) after) v none is = is
unserved_by answers more slots J p (Asking (IsOut first last) after) v none is = is
unserved_by answers more slots J p (Asking Time after) v none is = is
unserved_by answers more slots J p (Asking (FreeOf kind) after) v none is = is
unserved_by answers more slots J p (Asking (OfService word) after) v none is = cc
unserved_by answers more slots J p e v none is = tt

unserved_within : (answers more : ℕ → ℕ → Type 0) (slots : List Slot) → NoneServed slots → course.IsWithin (is_true_for answers slots) (is_true_for more slots)
unserved_within answers more slots none J p (Answered v) is = unserved_by answers more slots J p (next_effect (own slots J p)) v
    (none_asked (own slots J p) (own_unserved slots none J p)) is
unserved_within answers more slots none J p (Took d) is = unserved_by answers more slots J p (next_effect (own slots J p)) d
    (none_asked (own slots J p) (own_unserved slots none J p)) is
unserved_within answers more slots none J p n is = tt

pub answered_unserved : (answers more : ℕ → ℕ → Type 0) (slots : List Slot) → NoneServed slots → (J K : List Entry) → IsAnswered answers slots J K
    → IsAnswered more slots J K
answered_unserved answers more slots none J K (inl same) = inl same
answered_unserved answers more slots none J K (inr x) =
    inr (x.0, x.1, noted-within (is_true_for answers slots J) (is_true_for more slots J) (unserved_within answers more slots none J) x.0 x.2)

-- a journal that is true for a service is true
truth_within : (answers : ℕ → ℕ → Type 0) (slots : List Slot) (J : List Entry) (p : ℕ) (q : Question) (v : ℕ) → is_served answers slots J p q v
    → is_truth slots J p q v
truth_within answers slots J p (IsBusy d) v is = is
truth_within answers slots J p (IsOut first last) v is = is
truth_within answers slots J p Time v is = is
truth_within answers slots J p (FreeOf kind) v is = is
truth_within answers slots J p (OfService word) v is = refl

pub true_of_for : (answers : ℕ → ℕ → Type 0) (slots : List Slot) (J : List Entry) → IsTrueFor answers slots J → IsTrue slots J
true_of_for answers slots J truly = each-noted-within (is_true_for answers slots) (is_true slots)
    (noted_within slots (is_served answers slots) (is_truth slots) (truth_within answers slots)) (steps J) truly

module _ (answers : ℕ → ℕ → Type 0) (slots : List Slot) where
  -- what is admitted of a journal that is legal, and true for the service
  abbrev admitted : List Entry → ℕ → Note → Type 0
  admitted = course.both (any_answer slots) (is_true_for answers slots)

  abbrev IsOf : List Event → List Entry → Type 0
  IsOf = IsJournalFor answers slots

  to_any : (events : List Event) (J : List Entry) → IsOf events J → any.IsJournal (lone_dispatched slots) admitted events J
  to_any events J j = record { legal = legal-both (lone_dispatched slots) (any_answer slots) (is_true_for answers slots) J j.legal j.truly; whole = j.whole }

  from_any : (events : List Event) (J : List Entry) → any.IsJournal (lone_dispatched slots) admitted events J → IsOf events J
  from_any events J j = record {
    legal = legal-within (lone_dispatched slots) admitted (any_answer slots) J (λ K p n is. is.0) j.legal;
    truly = each-noted-within admitted (is_true_for answers slots) (λ K p n is. is.1) (steps J) (legal-noted (lone_dispatched slots) admitted J j.legal);
    whole = j.whole;
  }

  pub true_for_cut : (n : ℕ) (J : List Entry) → IsTrueFor answers slots J → IsTrueFor answers slots (cut n J)
  true_for_cut n J truly = noted-cut (is_true_for answers slots) n J truly

  pub whole_for_cut : (events : List Event) (before later : List Call) (J : List Entry) → IsOf events J → calls_made events ≡ before ++ later
      → IsWhole slots before (cut (length before) J)
  whole_for_cut events before later J j is = whole-cut (lone_dispatched slots) before later J j.legal.in_form
      (subst (λ (cs : List Call). any.IsWhole (lone_dispatched slots) cs J) is j.whole)

  pub journal_for_cut : (events earlier : List Event) (later : List Call) (J : List Entry) → IsOf events J → calls_made events ≡ calls_made earlier ++ later
      → IsOf earlier (cut (length (calls_made earlier)) J)
  journal_for_cut events earlier later J j is = from_any earlier (cut (length (calls_made earlier)) J)
      (journal-cut (lone_dispatched slots) admitted events earlier later J (to_any events J j) is)

  pub true_for_nil : IsTrueFor answers slots []
  true_for_nil = noted-nil (is_true_for answers slots)

  pub true_for_added : (J : List Entry) (s : JournalStep) → IsLegal slots J → IsTrueFor answers slots J → course.Noted (is_true_for answers slots J) s
      → IsTrueFor answers slots (added J s)
  true_for_added J s l truly noted = noted-added (is_true_for answers slots) J s l.in_form truly noted

  -- the journal after a call of a machine
  pub true_for_answered : (J K : List Entry) → IsLegal slots J → IsTrueFor answers slots J → IsAnswered answers slots J K → IsTrueFor answers slots K
  true_for_answered J K l truly (inl same) = subst (IsTrueFor answers slots) (sym same) truly
  true_for_answered J K l truly (inr more) = subst (IsTrueFor answers slots) (sym more.1) (true_for_added J more.0 l truly more.2)

  -- the note of an order of which the service was heard
  served_by : (J : List Entry) (p heard : ℕ) (e : Effect) (v : ℕ) → IfSome (word_asked e) (λ word. (word < 2 ^ 48) × answers word heard)
      → IsAnswer e (λ q x. x ≡ truth (lone_world slots J) J p heard q) v → IsAnswer e (is_served answers slots J p) v
  served_by J p heard (Asking (IsBusy d) after) v h is = is
  served_by J p heard (Asking (IsOut first last) after) v h is = is
  served_by J p heard (Asking Time after) v h is = is
  served_by J p heard (Asking (FreeOf kind) after) v h is = is
  served_by J p heard (Asking (OfService word) after) v h is = (h.0, subst (answers word) (sym is) h.1)
  served_by J p heard e v h is = tt

  pub heard_note : (J : List Entry) (p heard : ℕ) → IsHeard answers (own slots J p) heard → is_true_for answers slots J p (lone_note slots heard J p)
  heard_note J p heard h =
      fits_note slots (is_served answers slots) J p (lone_note slots heard J p)
      (λ v e. served_by J p heard (next_effect (own slots J p)) v h
      (true_to (truth (lone_world slots J) J p heard) (next_effect (own slots J p)) (own slots J p) v e))

  -- slots of which none is served have a journal
  pub a_journal_for : NoneServed slots → (events : List Event) → IsRising 0 events → (J : List Entry) × IsOf events J
  a_journal_for none events rises =
      let j = a_journal_lem (lone_dispatched slots) admitted (lone_note slots 0)
      (λ J p. (within_any slots 0 J p (lone_note slots 0 J p) refl, heard_note J p 0 (none_heard answers 0 (own slots J p) (own_unserved slots none J p))))
      events rises in
      (j.0, from_any events j.0 j.1)

  -- a question has at most one answer, where any two answers of the service to one word are equal
  module _ (one : (n a b : ℕ) → n < 2 ^ 48 → answers n a → answers n b → a ≡ b) where
    one_served : (J : List Entry) (p : ℕ) (q : Question) (v w : ℕ) → is_served answers slots J p q v → is_served answers slots J p q w → v ≡ w
    one_served J p (IsBusy d) v w a b = a ∙ sym b
    one_served J p (IsOut first last) v w a b = a ∙ sym b
    one_served J p Time v w a b = a ∙ sym b
    one_served J p (FreeOf kind) v w a b = a ∙ sym b
    one_served J p (OfService word) v w a b = one word v w a.0 a.1 b.1

    one_note_for : course.IsOne admitted
    one_note_for = one_answer slots (is_served answers slots) one_served

    pub one_for : (events : List Event) (J K : List Entry) → IsOf events J → IsOf events K → J ≡ K
    one_for events J K j k = one_journal_lem (lone_dispatched slots) admitted events J K one_note_for (to_any events J j) (to_any events K k)

    pub resumed_for : (events further : List Event) (J K : List Entry) → IsOf events J → IsOf (events ++ further) K
        → (Q : List JournalStep) × (steps K ≡ Q ++ steps J)
    resumed_for events further J K j k = resumed_lem (lone_dispatched slots) admitted events further J K one_note_for (to_any events J j)
        (to_any (events ++ further) K k)

    pub stopped_for : (events : List Event) (left : List Call) (J K : List Entry) → IsLegal slots J → IsTrueFor answers slots J
        → Follows slots (calls_made events) left J → IsOf events K → (Q : List JournalStep) × (steps K ≡ Q ++ steps J)
    stopped_for events left J K l truly f k =
        stopped_lem (lone_dispatched slots) admitted events left J K one_note_for
        (legal-both (lone_dispatched slots) (any_answer slots) (is_true_for answers slots) J l truly) f (to_any events K k)
