-- The events of a schedule, one after another.
use Rattle.std.proofs.Common.{◌≡◌, ℕ, ◌+◌, ◌-◌, ◌<◌, ◌≤◌, List, [], ◌∷◌, ◌++◌, Bool, true, false, refl, sym, ◌∙◌, ap, length, get_or, take, drop, drop-cons}
use Rattle.std.proofs.Common.{add-one, subst, arith, length-drop, take-add}
use Rattle.std.proofs.lemmas.List.{take_all, take-append-drop, replicate-append-replicate}
use Rattle.std.specs.Prelude.{replicate}
use Rattle.kdf_transfer.specs.Slots.{Slot}
use Rattle.kdf_journal.specs.declared.entry.Entry.{Entry}
use Rattle.kdf_journal.specs.Steps.{JournalStep, journal_of, steps}
use Rattle.kdf_journal.proofs.Steps.{steps-nil}
use Rattle.kdf_schedule.specs.declared.event.Event.{Event}
use Rattle.kdf_schedule.specs.declared.event.Event.TheVariants.{Orders, Move, End, Clock, Swap}
use Rattle.kdf_schedule.specs.Calls.{Call, calls_of, calls_made, order_count, AnOrder}
use Rattle.kdf_schedule.proofs.Schedules.{calls_made-append, calls_made-nil}
use Rattle.kdf_course.specs.Follows.{Reaches}
use Rattle.kdf_course.proofs.Reaching.{reach-append, reach-dead, reach-nil, reach-whole, whole-on}
use Rattle.kdf_theory.specs.Next.{lone_dispatched, any_live}
use Rattle.kdf_theory.specs.Legal.{IsLegal}
use Rattle.kdf_theory.specs.Follows.{IsRising, IsWhole, time_behind}
use Rattle.kdf_theory.proofs.Course.OneJournal.{true_for_nil}
use Rattle.kdf_theory.proofs.Course.WorldsJudged.{legal_nil}
use Rattle.kdf_theory.specs.Served.{IsJournalFor, IsTrueFor}

-- before the first of further events
pub no_calls : (slots : List Slot) (P : List JournalStep) (es : List Event) → Reaches (lone_dispatched slots) P (calls_made (take 0 es)) P
no_calls slots P es = rw calls_made-nil (reach-nil (lone_dispatched slots) P)

-- a journal that goes on after its schedule's first events
pub went-on : (answers : ℕ → ℕ → Type 0) (slots : List Slot) (es : List Event) (i : ℕ) (J K : List Entry) → IsJournalFor answers slots (take i es) J
    → IsLegal slots K → IsTrueFor answers slots K → Reaches (lone_dispatched slots) (steps J) (calls_made (drop i es)) (steps K)
    → IsJournalFor answers slots es K
went-on answers slots es i J K j l truly r = record {
  legal = l;
  truly = truly;
  whole =
      subst (λ (cs : List Call). IsWhole slots cs K)
      (sym (calls_made-append (take i es) (drop i es)) ∙ ap calls_made (take-append-drop i es))
      (whole-on (lone_dispatched slots) (calls_made (take i es)) (calls_made (drop i es)) J K j.legal.in_form l.in_form j.whole r);
}

-- where no event is to follow, the empty journal is that of the slots
pub no-events : (answers : ℕ → ℕ → Type 0) (slots : List Slot) (es : List Event) (J : List Entry) → J ≡ [] → IsJournalFor answers slots (take 0 es) J
no-events answers slots es J fresh =
    subst (λ (K : List Entry). IsJournalFor answers slots [] K) (sym fresh)
    (record {
      legal = legal_nil slots;
      truly = true_for_nil answers slots;
      whole = reach-whole (lone_dispatched slots) (calls_made []) [] (rw steps-nil refl)
          (rw (calls_made-nil, steps-nil) (reach-nil (lone_dispatched slots) []));
    })

module _ (slots0 : List Slot) (P : List JournalStep) (es : List Event) (i : ℕ) where
  module _ (slots : List Slot) (J : List Entry) (l : IsLegal slots J) (same : slots ≡ slots0)
      (taken : Reaches (lone_dispatched slots0) P (calls_made (take i es)) (steps J)) where
    live_here : (b : Bool) → any_live slots J ≡ b → any_live slots0 (journal_of (steps J)) ≡ b
    live_here b is = rw (l.in_form, ← same) is

    -- the events are over before their end, where no program is live
    pub ended_early : any_live slots J ≡ false → Reaches (lone_dispatched slots0) P (calls_made es) (steps J)
    ended_early dead =
        let all : calls_made (take i es) ++ calls_made (drop i es) ≡ calls_made es = sym (calls_made-append (take i es) (drop i es))
        ∙ ap calls_made (take-append-drop i es) in
        subst (λ (cs : List Call). Reaches (lone_dispatched slots0) P cs (steps J)) all
        (reach-dead (lone_dispatched slots0) P (steps J) (calls_made (take i es)) (calls_made (drop i es)) taken (live_here false dead))

    pub ended_late : length es ≤ i → Reaches (lone_dispatched slots0) P (calls_made es) (steps J)
    ended_late le = subst (λ (fs : List Event). Reaches (lone_dispatched slots0) P (calls_made fs) (steps J)) (take_all i es le) taken

    -- calls of an event more, whose calls those of the next events are
    pub some_more : (K : List Entry) (k : ℕ) (e : Event) → calls_made (take k (drop i es)) ≡ calls_of e → any_live slots J ≡ true
        → Reaches (lone_dispatched slots) (steps J) (calls_of e) (steps K) → Reaches (lone_dispatched slots0) P (calls_made (take (i + k) es)) (steps K)
    some_more K k e made live reached =
        let next : calls_made (take (i + k) es) ≡ calls_made (take i es) ++ calls_of e =
        ap calls_made (take-add i k es) ∙ (calls_made-append (take i es) (take k (drop i es)) ∙ ap (λ (cs : List Call). calls_made (take i es) ++ cs) made) in
        let here : Reaches (lone_dispatched slots0) (steps J) (calls_of e) (steps K) =
        subst (λ (S : List Slot). Reaches (lone_dispatched S) (steps J) (calls_of e) (steps K)) same reached in
        subst (λ (cs : List Call). Reaches (lone_dispatched slots0) P cs (steps K)) (sym next)
        (reach-append (lone_dispatched slots0) P (steps J) (steps K) (calls_made (take i es)) (calls_of e) taken (live_here true live) here)

-- the events from one on
pub rest-is : (es : List Event) (i : ℕ) → take (length es - i) (drop i es) ≡ drop i es
rest-is es i = take_all (length es - i) (drop i es) (omega (arith, length-drop i es))

-- how many orders two schedules have together
pub order_count-append : (es fs : List Event) → order_count (es ++ fs) ≡ order_count es + order_count fs
order_count-append [] fs = omega arith
order_count-append (e ∷ es) fs = omega (arith, order_count-append es fs)

-- where the time rises over the events from one on, it rises over that one and those behind it
pub rises-from : (es : List Event) (i : ℕ) (t : ℕ) → i < length es → IsRising t (drop i es) → IsRising t (get_or es i (Orders 0) ∷ drop (i + 1) es)
rises-from es i t lt rises =
    subst (IsRising t) (drop-cons es i (Orders 0) lt ∙ ap (λ (n : ℕ). get_or es i (Orders 0) ∷ drop n es) (sym (add-one i))) rises

-- the time rises over the first event, and behind it
pub rises-first : (t : ℕ) (e : Event) (es : List Event) → IsRising t (e ∷ es) → IsRising t (e ∷ [])
rises-first t (Orders n) es rises = tt
rises-first t (Move d n) es rises = tt
rises-first t (End d) es rises = tt
rises-first t (Clock u) es rises = (rises.0, tt)
rises-first t (Swap p q) es rises = (rises.0, rises.1, tt)

pub rises-rest : (t : ℕ) (e : Event) (es : List Event) → IsRising t (e ∷ es) → IsRising (time_behind t e) es
rises-rest t (Orders n) es rises = rises
rises-rest t (Move d n) es rises = rises
rises-rest t (End d) es rises = rises
rises-rest t (Clock u) es rises = rises.1
rises-rest t (Swap p q) es rises = rises.2

-- the orders are over before their end, where no program is live
pub rested : (slots slots0 : List Slot) (J : List Entry) (P : List JournalStep) (i n : ℕ) → IsLegal slots J → slots ≡ slots0
    → Reaches (lone_dispatched slots0) P (replicate i AnOrder) (steps J) → any_live slots J ≡ false → i ≤ n
    → Reaches (lone_dispatched slots0) P (replicate n AnOrder) (steps J)
rested slots slots0 J P i n l same taken dead le =
    let whole : replicate i AnOrder ++ replicate (n - i) AnOrder ≡ replicate n AnOrder = replicate-append-replicate i (n - i) AnOrder
    ∙ ap (λ (k : ℕ). replicate k AnOrder) (omega arith) in
    let none : any_live slots0 (journal_of (steps J)) ≡ false = rw (l.in_form, ← same) dead in
    subst (λ (cs : List Call). Reaches (lone_dispatched slots0) P cs (steps J)) whole
    (reach-dead (lone_dispatched slots0) P (steps J) (replicate i AnOrder) (replicate (n - i) AnOrder) taken none)
