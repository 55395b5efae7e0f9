-- The entries of a journal that is true for a service fit their types.
use Rattle.std.proofs.Common.{◌≡◌, ℕ, zero, suc, ◌+◌, ◌*◌, ◌<◌, ◌≤◌, ◌^◌, Bool, true, false, cond, eqb, List, [], ◌∷◌, ◌++◌, Option, Some, None, is_some, All}
use Rattle.std.proofs.Common.{refl, sym, ap, ◌∙◌, subst, arith}
use Rattle.std.specs.Prelude.{find, replicate, unwrap_or}
use Rattle.std.specs.List.{list_any, range_with_len}
use Rattle.std.proofs.lemmas.Bool.{eq-eqb, eqb-true}
use Rattle.std.proofs.lemmas.List.Sums.{sum_by-cons}
use Rattle.kdf_journal.specs.declared.kind.Kind.{Kind}
use Rattle.kdf_journal.specs.declared.entry.Entry.{Entry}
use Rattle.kdf_journal.specs.declared.entry.Entry.TheVariants.{Ran}
use Rattle.kdf_journal.specs.Counts.{calls, calls_in, last_hold, ran, ran_in}
use Rattle.kdf_journal.specs.Counts as counts
use Rattle.kdf_journal.specs.Printed.{IsEntry}
use Rattle.kdf_journal.specs.Steps.{Note, Quiet, Began, Answered, Took, Gave, Failed, Finished, JournalStep, Obeys, Holds, Waits, Moves, Ends, Sets, Swaps}
use Rattle.kdf_journal.specs.Steps.{added}
use Rattle.kdf_journal.specs.Steps.{journal_of, steps}
use Rattle.kdf_journal.proofs.Added.{calls-added, last_hold-added}
use Rattle.kdf_schedule.specs.declared.event.Event.{Event}
use Rattle.kdf_schedule.specs.declared.event.Event.TheVariants.{Orders, Move, End, Clock, Swap}
use Rattle.kdf_schedule.specs.Calls.{Call, AnOrder, AMove, AnEnd, AClock, ASwap, calls_made, calls_of, order_count}
use Rattle.kdf_schedule.specs.Events.{IsInRange}
use Rattle.kdf_schedule.proofs.Schedules.{calls_made-nil}
use Rattle.kdf_course.specs.Follows.{answered, call_of}
use Rattle.kdf_course.specs.Legal as course
use Rattle.kdf_course.proofs.OneJournal.{calls-after}
use Rattle.kdf_course.proofs.Steps.{legal-journal_of}
use Rattle.kdf_transfer.specs.ByNumber.{device_count}
use Rattle.kdf_transfer.specs.Slots.{Slot}
use Rattle.kdf_journal.specs.declared.need.Need.TheVariants.{Group, Device, Pool}
use Rattle.kdf_processor.specs.Effect.{IsBusy, IsOut, Time, FreeOf, OfService, Effect, Failing, Ending, Changing, Fetching, Keeping, Testing, Starting, Asking}
use Rattle.kdf_processor.specs.Effect.{Claiming, Returning, Spooling}
use Rattle.kdf_processor.specs.Needs.{needs, next_effect}
use Rattle.kdf_processor.specs.Row.{done_by}
use Rattle.kdf_processor.specs.State.{State, word_at}
use Rattle.kdf_processor.specs.View.{groups_of}
use Rattle.kdf_processor.proofs.Fit.{IsFit, next_fit}
use Rattle.kdf_processor.proofs.RowFacts.{counts_lone}
use Rattle.kdf_job.specs.WellFormed.{IsSchedule}
use Rattle.kdf_theory.specs.ByJournal.{free_after, is_free_after, is_pending_after, lone_world, mine_after, own}
use Rattle.kdf_theory.specs.Legal.{EachMeets, IsAnswer, IsLegal, any_answer, note_of_outcome}
use Rattle.kdf_theory.specs.Next.{lone_dispatched}
use Rattle.kdf_theory.specs.Served.{IsJournalFor, is_served, is_true_for}
use Rattle.kdf_theory.specs.Slots.{AreSlots, slot_of, start, start_of}
use Rattle.kdf_theory.specs.True.{one_if}
use Rattle.kdf_theory.specs.World.{first_need}
use Rattle.kdf_yard.specs.Fields.Going.{IsNearHold}
use Rattle.kdf_theory.proofs.Course.CountsBounded.{few-calls}
use Rattle.kdf_theory.proofs.Course.DevicesHeld.{IsFixed, fixed}
use Rattle.kdf_director.proofs.Course.HoldsInside.{legal-near, size_of}
use Rattle.kdf_theory.proofs.Course.Worlds.{find_true, next_slot}
use Rattle.kdf_theory.proofs.Seen.TransfersChecked.{IsChecked, claim_small, next_checked}
use Rattle.kdf_snapshot.proofs.SmallEntries.{AreSmall, IsSmallNote, IsSmallStep, added_small, clock_small, entries_fit, pending_small}

-- ---- the calls of a schedule

abbrev FitsCall : Call → Type 0
FitsCall AnOrder = Unit {0}
FitsCall (AMove d n) = (d < 2 ^ 8) × (n < 2 ^ 16)
FitsCall (AnEnd d) = d < 2 ^ 8
FitsCall (AClock t) = t < 2 ^ 64
FitsCall (ASwap p q) = (p < 2 ^ 8) × (q < 2 ^ 8)

abbrev FitCalls : List Call → Type 0
FitCalls [] = Unit {0}
FitCalls (c ∷ cs) = FitsCall c × FitCalls cs

calls_append : (cs ds : List Call) → FitCalls cs → FitCalls ds → FitCalls (cs ++ ds)
calls_append [] ds first others = others
calls_append (c ∷ cs) ds first others = (first.0, calls_append cs ds first.1 others)

calls_front : (cs ds : List Call) → FitCalls (cs ++ ds) → FitCalls cs
calls_front [] ds fit = tt
calls_front (c ∷ cs) ds fit = (fit.0, calls_front cs ds fit.1)

calls_last : (cs : List Call) (c : Call) → FitCalls (cs ++ c ∷ []) → FitsCall c
calls_last [] c fit = fit.0
calls_last (x ∷ cs) c fit = calls_last cs c fit.1

orders_fit : (n : ℕ) → FitCalls (replicate n AnOrder)
orders_fit zero = tt
orders_fit (suc n) = (tt, orders_fit n)

event_fits : (e : Event) → IsInRange e → FitCalls (calls_of e)
event_fits (Orders n) range = orders_fit n
event_fits (Move d n) range = ((omega (arith, range.0), omega (arith, range.2)), tt)
event_fits (End d) range = (omega (arith, range), tt)
event_fits (Clock t) range = (omega (arith, range), tt)
event_fits (Swap p q) range = ((omega (arith, range.0), omega (arith, range.1)), tt)

events_fit : (es : List Event) → All IsInRange es → FitCalls (calls_made es)
events_fit [] each = subst FitCalls (sym calls_made-nil) tt
events_fit (e ∷ es) each =
    subst FitCalls (sym (calls-after e es))
    (calls_append (calls_of e) (calls_made es) (event_fits e (each 0 e (omega arith))) (events_fit es (λ k d lt. each (suc k) d (omega arith))))

-- ---- what an order counts

ran_call : (p : ℕ) (e : Entry) → ran_in p e ≤ calls_in e
ran_call p (Ran q n) = by (eqb q p)
  where
    by : (b : Bool) → cond b n 0 ≤ n
    by true = omega arith
    by false = omega arith
ran_call p e = omega arith

ran_calls : (p : ℕ) (J : List Entry) → ran p J ≤ calls J
ran_calls p [] = omega arith
ran_calls p (e ∷ J) = omega (arith, sum_by-cons (ran_in p) e J, sum_by-cons calls_in e J, ran_call p e, ran_calls p J)

none_ran : (o : Option Slot) → (start_of o).registers.ran ≡ 0
none_ran None = refl
none_ran (Some s) = refl

own_ran : (slots : List Slot) (J : List Entry) (p : ℕ) → (own slots J p).registers.ran ≤ calls J
unfolding own
own_ran slots J p = omega (arith, (counts_lone (start slots p) (counts.answers p J) (ran p J)).0, none_ran (slot_of slots p), ran_calls p J)

few_devices : device_count ≤ 16
unfolding device_count
few_devices = omega arith

-- ---- what is answered

bit_small : (b : Bool) → one_if b < 2 ^ 64
bit_small true = omega arith
bit_small false = omega arith

one_small : (b : Bool) (a : ℕ) (rest : Option ℕ) → a < 2 ^ 8 → unwrap_or rest 0 < 2 ^ 8 → unwrap_or (cond b (Some a) rest) 0 < 2 ^ 8
one_small true a rest first others = first
one_small false a rest first others = others

found_small : (f : ℕ → Bool) (a n : ℕ) → a + n ≤ 16 → unwrap_or (find f (range_with_len a n)) 0 < 2 ^ 8
found_small f a zero most = omega arith
found_small f a (suc n) most = one_small (f a) a (find f (range_with_len (a + 1) n)) (omega arith) (found_small f (a + 1) n (omega arith))

module _ (answers : ℕ → ℕ → Type 0) (are_words : (n a : ℕ) → n < 2 ^ 48 → answers n a → a < 2 ^ 48) (slots : List Slot) (are : AreSlots slots)
    (few : (p : ℕ) → is_some (slot_of slots p) ≡ true → p < 4) (small : (p : ℕ) → size_of slots p ≤ 8192) where
  free_small : (J : List Entry) (p : ℕ) (kind : Kind) → unwrap_or (free_after slots J p kind) 0 < 2 ^ 8
  unfolding free_after
  free_small J p kind = found_small (is_free_after slots J p kind) 0 device_count (omega (arith, few_devices))

  module _ (J : List Entry) (p : ℕ) (was : AreSmall J) (count : calls J + 1 < 2 ^ 32) where
    -- what is told of an order of this effect
    abbrev ToldBy : Effect → Note → Type 0
    ToldBy e (Answered v) = IsAnswer e (is_served answers slots J p) v
    ToldBy e (Took d) = IsAnswer e (is_served answers slots J p) d
    ToldBy e note = Unit {0}

    note_small : (e : Effect) (s : State) (v : ℕ) (n : Note) → s.registers.ran ≤ calls J → IsFixed s.stock.claims → IsFit s.stock.claims e
        → IsChecked s.stock.claims e
        → n ≡ note_of_outcome (done_by (λ _. v) e s) → ToldBy e n → IsSmallNote n
    note_small (Starting d o first last after) s v n less fix fit checked is told =
        subst IsSmallNote (sym is) (omega (arith, claim_small s.stock.claims d _ checked.0, few_devices), omega arith)
    note_small (Asking (IsBusy d) after) s v n less fix fit checked is told =
        let answer = subst (ToldBy (Asking (IsBusy d) after)) is told in
        subst IsSmallNote (sym is) (subst (λ x. x < 2 ^ 64) (sym answer) (bit_small (is_pending_after slots J p (Device d))))
    note_small (Asking (IsOut first last) after) s v n less fix fit checked is told =
        let answer = subst (ToldBy (Asking (IsOut first last) after)) is told in
        subst IsSmallNote (sym is) (subst (λ x. x < 2 ^ 64) (sym answer)
        (bit_small (list_any (λ g. is_pending_after slots J p (Group g)) (groups_of first last))))
    note_small (Asking Time after) s v n less fix fit checked is told =
        let answer = subst (ToldBy (Asking Time after)) is told in
        subst IsSmallNote (sym is) (subst (λ x. x < 2 ^ 64) (sym answer) (clock_small J was))
    note_small (Asking (FreeOf kind) after) s v n less fix fit checked is told =
        let answer = subst (ToldBy (Asking (FreeOf kind) after)) is told in
        subst IsSmallNote (sym is) (subst (λ x. x < 2 ^ 8) (sym answer) (free_small J p kind))
    note_small (Asking (OfService word) after) s v n less fix fit checked is told =
        let answer = subst (ToldBy (Asking (OfService word) after)) is told in
        let word_is = are_words word v answer.0 answer.1 in
        subst IsSmallNote (sym is) (omega arith)
    note_small (Returning true d after) s v n less fix fit checked is told =
        let few_pooled = fix.few d (sym fit) in
        subst IsSmallNote (sym is) (omega arith)
    note_small (Returning false d after) s v n less fix fit checked is told = subst IsSmallNote (sym is) tt
    note_small (Failing kind) s v n less fix fit checked is told = subst IsSmallNote (sym is) tt
    note_small (Ending after) s v n less fix fit checked is told = subst IsSmallNote (sym is) tt
    note_small (Changing after) s v n less fix fit checked is told = subst IsSmallNote (sym is) tt
    note_small (Fetching a after) s v n less fix fit checked is told = subst IsSmallNote (sym is) tt
    note_small (Keeping a w after) s v n less fix fit checked is told = subst IsSmallNote (sym is) tt
    note_small (Testing d what after) s v n less fix fit checked is told = subst IsSmallNote (sym is) tt
    note_small (Claiming d after) s v n less fix fit checked is told = subst IsSmallNote (sym is) tt
    note_small (Spooling stream first last after) s v n less fix fit checked is told = subst IsSmallNote (sym is) tt

    -- what is told by a note
    told_by : (note : Note) → is_true_for answers slots J p note → ToldBy (next_effect (own slots J p)) note
    told_by Quiet told = tt
    told_by (Began d k) told = tt
    told_by (Answered v) told = told
    told_by (Took d) told = told
    told_by (Gave d) told = tt
    told_by (Failed kind) told = tt
    told_by Finished told = tt

    order_small : (note : Note) → any_answer slots J p note → is_true_for answers slots J p note → IsSmallNote note
    order_small note any told =
        let s = own slots J p in
        note_small (next_effect s) s any.0 note (own_ran slots J p) (fixed slots J p are) (next_fit s.stock.claims (word_at s) s.registers)
        (next_checked s) any.1 (told_by note told)

    device_small : (d : ℕ) → first_need (lone_world slots J) p ≡ Some (Device d) → d < 2 ^ 8
    unfolding first_need
    device_small d is = pending_small d J was (find_true (is_pending_after slots J p) (needs (own slots J p) (mine_after J p)) (Device d) is)

  group_small : (J : List Entry) (p g : ℕ) → IsLegal slots (added J (Holds p (Group g))) → g < 2 ^ 16
  group_small J p g legal =
      let held : last_hold p (added J (Holds p (Group g))) ≡ Some (Group g) =
      last_hold-added p J (Holds p (Group g)) ∙ ap (λ b. cond b (Some (Group g)) (last_hold p J)) (eq-eqb p p refl) in
      let near : 32 * g < size_of slots p = subst (λ o. IsNearHold (size_of slots p) o) held
      (legal-near slots (added J (Holds p (Group g))) legal p) in
      omega (arith, small p)

  step_small : (J : List Entry) (s : JournalStep) → IsLegal slots (added J s) → AreSmall J → calls J + 1 < 2 ^ 32
      → course.Meets (lone_dispatched slots J) (any_answer slots J) J s → course.Noted (is_true_for answers slots J) s → FitsCall (call_of s) → IsSmallStep s
  step_small J (Obeys p note) legal was count met told fits =
      let one = few p (next_slot (lone_world slots J) slots J p met.0) in
      (omega arith, order_small J p was count note met.2 told)
  step_small J (Holds p (Group g)) legal was count met told fits =
      let one = few p (next_slot (lone_world slots J) slots J p met.0) in
      (omega arith, group_small J p g legal)
  step_small J (Holds p (Device d)) legal was count met told fits =
      let one = few p (next_slot (lone_world slots J) slots J p met.0) in
      (omega arith, device_small J p was count d met.1)
  step_small J (Holds p (Pool kind)) legal was count met told fits =
      let one = few p (next_slot (lone_world slots J) slots J p met.0) in
      (omega arith, tt)
  step_small J Waits legal was count met told fits = tt
  step_small J (Moves d n) legal was count met told fits = fits
  step_small J (Ends d) legal was count met told fits = fits
  step_small J (Sets t) legal was count met told fits = fits
  step_small J (Swaps p q) legal was count met told fits = fits

  journal_small : (P : List JournalStep) → EachMeets slots P → course.EachNoted (is_true_for answers slots) P → FitCalls (answered P)
      → calls (journal_of P) + 1 < 2 ^ 32 → AreSmall (journal_of P)
  journal_small [] each told fit count = tt
  journal_small (s ∷ P) each told fit count =
      let before = calls-added (journal_of P) s in
      let was = journal_small P each.0 told.0 (calls_front (answered P) (call_of s ∷ []) fit) (omega arith) in
      added_small (journal_of P) s was
      (step_small (journal_of P) s (legal-journal_of (lone_dispatched slots) (any_answer slots) (s ∷ P) each) was (omega arith) each.1 told.1
      (calls_last (answered P) (call_of s) fit))

  pub fitting : (events : List Event) (J : List Entry) → All IsInRange events → order_count events ≤ 20000000 → IsJournalFor answers slots events J
      → All IsEntry J
  fitting events J range most j =
      let count = few-calls slots events J j.legal j.whole in
      let fit : FitCalls (answered (steps J)) =
      calls_front (answered (steps J)) j.whole.left (subst FitCalls (sym j.whole.follows.in_order) (events_fit events range)) in
      let same : calls (journal_of (steps J)) ≡ calls J = ap calls j.legal.in_form in
      let are_small = journal_small (steps J) j.legal.each j.truly fit (omega arith) in
      entries_fit J (subst AreSmall j.legal.in_form are_small) (omega arith)

-- ---- slots within their limits

abbrev IsWithin : Slot → Type 0
IsWithin s = (s.p < 4) × (s.size ≤ 8192)

is_number : (b : Bool) (s : Slot) (p : ℕ) (rest : Option Slot) → eqb s.p p ≡ b → s.p < 4 → (is_some rest ≡ true → p < 4)
    → is_some (cond b (Some s) rest) ≡ true → p < 4
is_number true s p rest same few others is = omega (arith, eqb-true s.p p same)
is_number false s p rest same few others is = others is

numbers_few : (slots : List Slot) → All IsWithin slots → (p : ℕ) → is_some (slot_of slots p) ≡ true → p < 4
numbers_few [] all p is = absurd cc
numbers_few (s ∷ slots) all p is =
    is_number (eqb s.p p) s p (slot_of slots p) refl (all 0 s (omega arith)).0 (numbers_few slots (λ k d lt. all (suc k) d (omega arith)) p) is

is_size : (b : Bool) (s : Slot) (rest : Option Slot) → s.size ≤ 8192 → (start_of rest).stock.claims.size ≤ 8192
    → (start_of (cond b (Some s) rest)).stock.claims.size ≤ 8192
is_size true s rest small others = small
is_size false s rest small others = others

sizes_small : (slots : List Slot) → All IsWithin slots → (p : ℕ) → size_of slots p ≤ 8192
sizes_small [] all p = omega arith
sizes_small (s ∷ slots) all p =
    is_size (eqb s.p p) s (slot_of slots p) (all 0 s (omega arith)).1 (sizes_small slots (λ k d lt. all (suc k) d (omega arith)) p)

pub fitting_within : (answers : ℕ → ℕ → Type 0) → ((n a : ℕ) → n < 2 ^ 48 → answers n a → a < 2 ^ 48) → (slots : List Slot) → AreSlots slots
    → All IsWithin slots
    → (events : List Event) → IsSchedule events → (J : List Entry) → IsJournalFor answers slots events J → All IsEntry J
fitting_within answers are_words slots are all events schedule J j =
    fitting answers are_words slots are (numbers_few slots all) (sizes_small slots all) events J schedule.each schedule.few_orders j
