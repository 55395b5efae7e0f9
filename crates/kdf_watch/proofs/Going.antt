-- The journal follows the events just up to the cursor, one call or event further on.
use Rattle.std.proofs.Common.{◌≡◌, ℕ, ◌+◌, ◌-◌, ◌≤◌, ◌<◌, List, [], ◌∷◌, ◌++◌, true, false, inl, inr, refl, sym, ◌∙◌, ap, subst, arith, append_assoc, length}
use Rattle.std.proofs.Common.{drop}
use Rattle.std.specs.Prelude.{replicate, sum_by}
use Rattle.std.proofs.lemmas.List.Sums.{sum_by-drop_more}
use Rattle.kdf_journal.specs.declared.entry.Entry.{Entry}
use Rattle.kdf_journal.specs.Counts.{calls, clock}
use Rattle.kdf_journal.specs.Steps.{JournalStep, Moves, Ends, Sets, Swaps, added, steps}
use Rattle.kdf_journal.proofs.Added.{calls_by, calls-added, clock_by, clock-added}
use Rattle.kdf_journal.proofs.Steps.{steps-added}
use Rattle.kdf_schedule.specs.declared.event.Event.{Event}
use Rattle.kdf_schedule.specs.declared.event.Event.TheVariants.{Orders, Move, End, Clock, Swap}
use Rattle.kdf_schedule.specs.Calls.{Call, AnOrder, AMove, AnEnd, AClock, ASwap, calls_of, calls_made, orders_in, order_count}
use Rattle.kdf_schedule.specs.Events.{IsInRange}
use Rattle.kdf_schedule.proofs.Schedules.{order_count-drop}
use Rattle.kdf_transfer.specs.Slots.{Slot}
use Rattle.kdf_course.specs.Follows.{call_of, answered, EachLive}
use Rattle.kdf_course.proofs.Reaching.{answered-append}
use Rattle.kdf_director.specs.Advance.{Enters}
use Rattle.kdf_director.specs.Runs.{HasMadeOn}
use Rattle.kdf_theory.specs.Follows.{Follows, IsRising, IsWhole, entries_in, time_behind}
use Rattle.kdf_theory.specs.Legal.{IsLegal}
use Rattle.kdf_theory.specs.Next.{any_live, lone_dispatched}
use Rattle.kdf_theory.specs.MachineView.{MachineView}
use Rattle.kdf_theory.proofs.Course.EventsInTurn.{rises-from, rises-rest}
use Rattle.kdf_watch.specs.declared.cursor.Cursor.{Cursor}
use Rattle.kdf_watch.specs.Called.{HasMoved}
use Rattle.kdf_watch.specs.Cursors.{event_at, calls_left}
use Rattle.kdf_watch.specs.Onward.{IsAt, passed}
use Rattle.kdf_watch.specs.Entered.{HasEntered}
use Rattle.kdf_watch.proofs.Ahead.{left-orders, left-over, left-event, left-none}

-- a call more was answered
pub follows_more : (slots : List Slot) (cs left : List Call) (c : Call) (J : List Entry) (s : JournalStep) → Follows slots cs (c ∷ left) J → call_of s ≡ c
    → IsLegal slots J → any_live slots J ≡ true → Follows slots cs left (added J s)
follows_more slots cs left c J s f is legal live = record {
  in_order = ap (λ (P : List JournalStep). answered P ++ left) (steps-added J s)
      ∙ (append_assoc (answered (steps J)) (call_of s ∷ []) left ∙ (ap (λ (d : Call). answered (steps J) ++ d ∷ left) is ∙ f.in_order));
  lived = subst (EachLive (lone_dispatched slots)) (sym (steps-added J s))
      (f.lived, subst (λ (K : List Entry). any_live slots K ≡ true) (sym legal.in_form) live);
}

module _ (es : List Event) (c : Cursor) (m : MachineView) (at : IsAt es c m) (lt : c.event < length es) where
  orders-here : order_count (drop c.event es) ≡ orders_in (event_at es c.event) + order_count (drop (c.event + 1) es)
  orders-here = order_count-drop es c.event (Orders 0) lt

  entries-here : sum_by entries_in (drop c.event es) ≡ entries_in (event_at es c.event) + sum_by entries_in (drop (c.event + 1) es)
  entries-here = sum_by-drop_more entries_in es c.event (Orders 0) lt

  rises-here : IsRising (clock m.journal) (event_at es c.event ∷ drop (c.event + 1) es)
  rises-here = rises-from es c.event (clock m.journal) lt at.rises

  rises-after : IsRising (time_behind (clock m.journal) (event_at es c.event)) (drop (c.event + 1) es)
  rises-after = rises-rest (clock m.journal) (event_at es c.event) (drop (c.event + 1) es) rises-here

  -- there are calls enough for its ORDERS
  pub fit_calls : (n : ℕ) → n ≡ orders_in (event_at es c.event) → c.calls < n → calls m.journal + (n - c.calls) ≤ 20000000
  fit_calls n is less = omega (arith, at.few, orders-here, is, less)

  -- some calls of its ORDERS
  pub at_made : (answers : ℕ → ℕ → Type 0) (k j : ℕ) (w : MachineView) → HasMadeOn answers k m w → c.calls + k ≡ j → j ≤ orders_in (event_at es c.event)
      → IsAt es (record { event = c.event; calls = j }) w
  at_made answers k j w h is within = record {
    place = at.place;
    within = within;
    follows = record {
      in_order =
          ap (λ (P : List JournalStep). answered P ++ calls_left es (record { event = c.event; calls = j })) h.goes_on
          ∙ (ap (λ (cs : List Call). cs ++ calls_left es (record { event = c.event; calls = j })) (answered-append h.more (steps m.journal)
          ∙ ap (λ (cs : List Call). answered (steps m.journal) ++ cs) h.in_order)
          ∙ (append_assoc (answered (steps m.journal)) (replicate k AnOrder) (calls_left es (record { event = c.event; calls = j }))
          ∙ (ap (λ (cs : List Call). answered (steps m.journal) ++ cs)
          (sym (left-orders es k c lt (omega (arith, is, within))
          ∙ ap (λ (i : ℕ). replicate k AnOrder ++ calls_left es (record { event = c.event; calls = i })) is))
          ∙ at.follows.in_order)));
      lived = subst (λ (S : List Slot). EachLive (lone_dispatched S) (steps w.journal)) (sym h.slots) (h.lived at.follows.lived);
    };
    few = omega (arith, at.few, h.few, is);
    room = omega (arith, at.room, h.room);
    rises = subst (λ (t : ℕ). IsRising t (drop c.event es)) (sym h.time) at.rises;
    time = omega (arith, at.time, h.time);
  }

  pub at_moved : (answers : ℕ → ℕ → Type 0) (j : ℕ) (w : MachineView) → HasMoved answers c.calls j m w → j ≤ orders_in (event_at es c.event)
      → IsAt es (record { event = c.event; calls = j }) w
  at_moved answers j w moved within = at_made answers moved.made j w moved.on moved.count within

  -- the event is passed
  module _ (all : orders_in (event_at es c.event) ≤ c.calls) where
    -- where it is one of orders
    over : (n : ℕ) → event_at es c.event ≡ Orders n → IsAt es (passed c) m
    over n is = record {
      place = omega (arith, lt);
      within = omega arith;
      follows = subst (λ (cs : List Call). Follows m.slots (calls_made es) cs m.journal)
          (left-over es c lt n is (omega (arith, all, at.within, ap orders_in is))) at.follows;
      few = omega (arith, at.few, orders-here, at.within, all);
      room = omega (arith, at.room, entries-here);
      rises = subst (λ (e : Event). IsRising (time_behind (clock m.journal) e) (drop (c.event + 1) es)) is rises-after;
      time = at.time;
    }

    -- where it is another
    other : (w : MachineView) (call : Call) (s : JournalStep) → Enters m w s → calls_of (event_at es c.event) ≡ call ∷ [] → orders_in (event_at es c.event) ≡ 0
        → call_of s ≡ call → calls_by s ≡ 0 → entries_in (event_at es c.event) ≡ 1
        → clock_by (clock m.journal) s ≡ time_behind (clock m.journal) (event_at es c.event) → clock_by (clock m.journal) s ≤ 140737488355327
        → IsLegal m.slots m.journal → any_live m.slots m.journal ≡ true → IsAt es (passed c) w
    other w call s enters calls_is none is no_calls entry time small legal live = subst (IsAt es (passed c)) (sym enters) (record {
      place = omega (arith, lt);
      within = omega arith;
      follows =
          follows_more m.slots (calls_made es) (calls_left es (passed c)) call m.journal s
          (subst (λ (cs : List Call). Follows m.slots (calls_made es) cs m.journal) (left-event es c lt call calls_is (omega (arith, at.within, none)))
          at.follows) is legal live;
      few = omega (arith, at.few, orders-here, at.within, none, calls-added m.journal s, no_calls);
      room = omega (arith, at.room, entries-here, entry);
      rises = subst (λ (t : ℕ). IsRising t (drop (c.event + 1) es)) (sym (clock-added m.journal s ∙ time)) rises-after;
      time = omega (arith, clock-added m.journal s, small);
    })

    by_event : (w : MachineView) (e : Event) → event_at es c.event ≡ e → IsInRange e → HasEntered m w e → IsLegal m.slots m.journal
        → any_live m.slots m.journal ≡ true → IsAt es (passed c) w
    by_event w (Orders n) is range same legal live = subst (IsAt es (passed c)) (sym same) (over n is)
    by_event w (Move d n) is range enters legal live =
        other w (AMove d n) (Moves d n) enters (ap calls_of is) (ap orders_in is) refl refl (ap entries_in is) (sym (ap (time_behind (clock m.journal)) is))
        at.time legal live
    by_event w (End d) is range enters legal live =
        other w (AnEnd d) (Ends d) enters (ap calls_of is) (ap orders_in is) refl refl (ap entries_in is) (sym (ap (time_behind (clock m.journal)) is)) at.time
        legal live
    by_event w (Clock t) is range enters legal live =
        other w (AClock t) (Sets t) enters (ap calls_of is) (ap orders_in is) refl refl (ap entries_in is) (sym (ap (time_behind (clock m.journal)) is)) range
        legal live
    by_event w (Swap p q) is range enters legal live =
        other w (ASwap p q) (Swaps p q) enters (ap calls_of is) (ap orders_in is) refl refl (ap entries_in is) (sym (ap (time_behind (clock m.journal)) is))
        at.time legal live

    pub at_passed : (w : MachineView) → IsInRange (event_at es c.event) → HasEntered m w (event_at es c.event) → IsLegal m.slots m.journal
        → any_live m.slots m.journal ≡ true → IsAt es (passed c) w
    at_passed w = by_event w (event_at es c.event) refl

-- the run is at its end
pub whole_early : (es : List Event) (c : Cursor) (m : MachineView) → IsAt es c m → any_live m.slots m.journal ≡ false
    → IsWhole m.slots (calls_made es) m.journal
whole_early es c m at dead = record { left = calls_left es c; follows = at.follows; at_end = inr dead }

pub whole_late : (es : List Event) (c : Cursor) (m : MachineView) → IsAt es c m → length es ≤ c.event → IsWhole m.slots (calls_made es) m.journal
whole_late es c m at le = record { left = calls_left es c; follows = at.follows; at_end = inl (left-none es c le) }
