-- Where the events keep the limits of a schedule, and the journal follows them just up to the cursor, those that are left keep what the
-- machine asks. For the journal is the whole one of the events before the cursor, with an event of the orders that are done.
use Rattle.std.proofs.Common.{◌≡◌, ℕ, zero, suc, ◌≤◌, List, [], ◌∷◌, ◌++◌, inl, refl, sym, ◌∙◌, ap, subst, arith, take, drop, All, append_assoc, append-nil}
use Rattle.std.specs.Prelude.{replicate}
use Rattle.std.proofs.lemmas.List.{append_cancel_right, take-append-drop}
use Rattle.kdf_journal.specs.Steps.{steps}
use Rattle.kdf_schedule.specs.declared.event.Event.{Event}
use Rattle.kdf_schedule.specs.declared.event.Event.TheVariants.{Orders, Move, End, Clock, Swap}
use Rattle.kdf_schedule.specs.Calls.{Call, AnOrder, calls_made, order_count}
use Rattle.kdf_schedule.specs.Events.{IsInRange}
use Rattle.kdf_schedule.proofs.Schedules.{calls_made-append, calls_made-one}
use Rattle.kdf_course.specs.Follows.{answered}
use Rattle.kdf_theory.specs.Follows.{IsRising, IsWhole}
use Rattle.kdf_theory.specs.Legal.{IsLegal}
use Rattle.kdf_theory.specs.MachineView.{MachineView}
use Rattle.kdf_theory.proofs.Course.CountsBounded.{few-calls, rising-on}
use Rattle.kdf_theory.proofs.Course.EventsInTurn.{order_count-append}
use Rattle.kdf_watch.specs.declared.cursor.Cursor.{Cursor}
use Rattle.kdf_watch.specs.Cursors.{IsUpTo, KeepsLimits, calls_left}
use Rattle.kdf_watch.specs.Onward.{IsAt}
use Rattle.kdf_watch.proofs.Ahead.{rest-here}

-- an event of orders sets no clock back
with_orders : (t k : ℕ) (es fs : List Event) → IsRising t (es ++ fs) → IsRising t (es ++ Orders k ∷ fs)
with_orders t k [] fs rises = rises
with_orders t k (Orders n ∷ es) fs rises = with_orders t k es fs rises
with_orders t k (Move d n ∷ es) fs rises = with_orders t k es fs rises
with_orders t k (End d ∷ es) fs rises = with_orders t k es fs rises
with_orders t k (Clock u ∷ es) fs rises = (rises.0, with_orders u k es fs rises.1)
with_orders t k (Swap p q ∷ es) fs rises = (rises.0, rises.1, with_orders t k es fs rises.2)

-- and none but the first are events that set none back
first_rises : (t : ℕ) (es fs : List Event) → IsRising t (es ++ fs) → IsRising t es
first_rises t [] fs rises = tt
first_rises t (Orders n ∷ es) fs rises = first_rises t es fs rises
first_rises t (Move d n ∷ es) fs rises = first_rises t es fs rises
first_rises t (End d ∷ es) fs rises = first_rises t es fs rises
first_rises t (Clock u ∷ es) fs rises = (rises.0, first_rises u es fs rises.1)
first_rises t (Swap p q ∷ es) fs rises = (rises.0, rises.1, first_rises t es fs rises.2)

-- the latest time comes after all others
latest : (t : ℕ) (es : List Event) → t ≤ 140737488355327 → All IsInRange es → IsRising t es → IsRising t (es ++ Clock 140737488355327 ∷ [])
latest t [] small each rises = (small, tt)
latest t (Orders n ∷ es) small each rises = latest t es small (λ k d lt. each (suc k) d (omega arith)) rises
latest t (Move d n ∷ es) small each rises = latest t es small (λ k x lt. each (suc k) x (omega arith)) rises
latest t (End d ∷ es) small each rises = latest t es small (λ k x lt. each (suc k) x (omega arith)) rises
latest t (Clock u ∷ es) small each rises = (rises.0, latest u es (each 0 (Clock u) (omega arith)) (λ k d lt. each (suc k) d (omega arith)) rises.1)
latest t (Swap p q ∷ es) small each rises = (rises.0, rises.1, latest t es small (λ k d lt. each (suc k) d (omega arith)) rises.2)

one_each : (e : Event) (es fs : List Event) → All IsInRange (e ∷ es) → All IsInRange fs → All IsInRange (e ∷ fs)
one_each e es fs each others zero d lt = each 0 d (omega arith)
one_each e es fs each others (suc k) d lt = others k d (omega arith)

first_each : (i : ℕ) (es : List Event) → All IsInRange es → All IsInRange (take i es)
first_each zero es each = λ k d lt. absurd (omega (arith, lt))
first_each (suc i) [] each = λ k d lt. absurd (omega (arith, lt))
first_each (suc i) (e ∷ es) each = one_each e es (take i es) each (first_each i es (λ j x less. each (suc j) x (omega arith)))

module _ (es : List Event) (c : Cursor) (m : MachineView) (keeps : KeepsLimits es) (legal : IsLegal m.slots m.journal) (up : IsUpTo es c m) where
  abbrev front : List Event
  front = take c.event es ++ Orders c.calls ∷ []

  parts : take c.event es ++ drop c.event es ≡ es
  parts = take-append-drop c.event es

  front-made : calls_made front ≡ calls_made (take c.event es) ++ replicate c.calls AnOrder
  front-made = calls_made-append (take c.event es) (Orders c.calls ∷ [])
      ∙ ap (λ (cs : List Call). calls_made (take c.event es) ++ cs) (calls_made-one (Orders c.calls))

  answered-is : answered (steps m.journal) ≡ calls_made front
  answered-is = append_cancel_right (answered (steps m.journal)) (calls_made front) (calls_left es c)
      (up.follows.in_order
      ∙ sym (ap calls_made parts)
      ∙ calls_made-append (take c.event es) (drop c.event es)
      ∙ ap (λ (cs : List Call). calls_made (take c.event es) ++ cs) (sym (rest-here es c up.within))
      ∙ sym (append_assoc (calls_made (take c.event es)) (replicate c.calls AnOrder) (calls_left es c))
      ∙ sym (ap (λ (cs : List Call). cs ++ calls_left es c) front-made))

  whole : IsWhole m.slots (calls_made front) m.journal
  whole = record {
    left = [];
    follows = record { in_order = append-nil (answered (steps m.journal)) ∙ answered-is; lived = up.follows.lived };
    at_end =
        inl refl;
  }

  rises : IsRising 0 (take c.event es ++ Orders c.calls ∷ drop c.event es)
  rises = with_orders 0 c.calls (take c.event es) (drop c.event es) (subst (IsRising 0) (sym parts) keeps.rises)

  rises_front : IsRising 0 (take c.event es ++ Orders c.calls ∷ Clock 140737488355327 ∷ [])
  rises_front =
      with_orders 0 c.calls (take c.event es) (Clock 140737488355327 ∷ [])
      (latest 0 (take c.event es) (omega arith) (first_each c.event es keeps.in_range)
      (first_rises 0 (take c.event es) (drop c.event es) (subst (IsRising 0) (sym parts) keeps.rises)))

  pub at_from : IsAt es c m
  at_from = record {
    place = up.place;
    within = up.within;
    follows = up.follows;
    few = omega (
      arith,
      keeps.few,
      few-calls m.slots front m.journal legal whole,
      order_count-append (take c.event es) (Orders c.calls ∷ []),
      order_count-append (take c.event es) (drop c.event es),
      ap order_count parts,
    );
    room = up.room;
    rises =
        rising-on m.slots front (drop c.event es) m.journal legal whole
        (subst (IsRising 0) (sym (append_assoc (take c.event es) (Orders c.calls ∷ []) (drop c.event es))) rises);
    time =
        (rising-on m.slots front (Clock 140737488355327 ∷ []) m.journal legal whole
        (subst (IsRising 0) (sym (append_assoc (take c.event es) (Orders c.calls ∷ []) (Clock 140737488355327 ∷ []))) rises_front)).0;
  }

pub up_of : (es : List Event) (c : Cursor) (m : MachineView) → IsAt es c m → IsUpTo es c m
up_of es c m at = record { place = at.place; within = at.within; follows = at.follows; room = at.room }
