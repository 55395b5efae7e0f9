-- What a journal counts is bounded by the schedule that it follows, and the events after it don't set its clock back.
use Rattle.std.proofs.Common.{◌≡◌, ℕ, zero, suc, ◌≤◌, List, [], ◌∷◌, ◌++◌, refl, sym, ◌∙◌, ap, subst, arith, append_assoc}
use Rattle.std.specs.Prelude.{replicate, sum_by}
use Rattle.std.proofs.lemmas.List.Sums.{sum_by-append, sum_by-cons}
use Rattle.kdf_transfer.specs.Slots.{Slot}
use Rattle.kdf_journal.specs.declared.entry.Entry.{Entry}
use Rattle.kdf_journal.specs.Counts.{calls, clock}
use Rattle.kdf_journal.specs.Steps.{JournalStep, Obeys, Holds, Waits, Moves, Ends, Sets, Swaps, journal_of, steps}
use Rattle.kdf_journal.proofs.Added.{calls_by, calls-added, clock_by, clock-added}
use Rattle.kdf_schedule.specs.declared.event.Event.{Event}
use Rattle.kdf_schedule.specs.declared.event.Event.TheVariants.{Orders, Move, End, Clock, Swap}
use Rattle.kdf_schedule.specs.Calls.{Call, AnOrder, AMove, AnEnd, AClock, ASwap, calls_of, calls_made, orders_in, order_count}
use Rattle.kdf_schedule.proofs.Schedules.{calls_made-append, calls_made-nil}
use Rattle.kdf_course.specs.Follows.{answered, call_of}
use Rattle.kdf_course.proofs.OneJournal.{CallsRise, calls-after, calls-rise}
use Rattle.kdf_theory.specs.Follows.{IsRising, IsWhole}
use Rattle.kdf_theory.specs.Legal.{IsLegal}

-- ---- orders

abbrev orders_of : Call → ℕ
orders_of AnOrder = 1
orders_of c = 0

calls-by : (s : JournalStep) → calls_by s ≡ orders_of (call_of s)
calls-by (Obeys p note) = refl
calls-by (Holds p by) = refl
calls-by Waits = refl
calls-by (Moves d n) = refl
calls-by (Ends d) = refl
calls-by (Sets t) = refl
calls-by (Swaps p q) = refl

calls-answered : (P : List JournalStep) → calls (journal_of P) ≡ sum_by orders_of (answered P)
calls-answered [] = refl
calls-answered (s ∷ P) =
    let more = calls-added (journal_of P) s in
    let step = calls-by s in
    let last = sum_by-append orders_of (answered P) (call_of s ∷ []) in
    let one = sum_by-cons orders_of (call_of s) [] in
    omega (arith, calls-answered P, more, step, last, one)

orders-again : (n : ℕ) → sum_by orders_of (replicate n AnOrder) ≡ n
orders-again zero = refl
orders-again (suc n) = let first = sum_by-cons orders_of AnOrder (replicate n AnOrder) in omega (arith, orders-again n, first)

orders-event : (e : Event) → sum_by orders_of (calls_of e) ≡ orders_in e
orders-event (Orders n) = orders-again n
orders-event (Move d n) = refl
orders-event (End d) = refl
orders-event (Clock t) = refl
orders-event (Swap p q) = refl

orders-made : (es : List Event) → sum_by orders_of (calls_made es) ≡ order_count es
orders-made [] = ap (sum_by orders_of) calls_made-nil
orders-made (e ∷ es) =
    let parts = ap (sum_by orders_of) (calls-after e es) in
    let both = sum_by-append orders_of (calls_of e) (calls_made es) in
    omega (arith, parts, both, orders-event e, orders-made es)

-- a journal counts no more calls than its schedule has orders
pub few-calls : (slots : List Slot) (es : List Event) (J : List Entry) → IsLegal slots J → IsWhole slots (calls_made es) J → calls J ≤ order_count es
few-calls slots es J legal whole =
    let front = calls-answered (steps J) ∙ refl in
    let own = ap calls legal.in_form in
    let all = ap (sum_by orders_of) whole.follows.in_order in
    let both = sum_by-append orders_of (answered (steps J)) whole.left in
    omega (arith, front, own, all, both, orders-made es)

-- ---- the clock

earlier : (t u : ℕ) (cs : List Call) → t ≤ u → CallsRise u cs → CallsRise t cs
earlier t u [] le rise = tt
earlier t u (AnOrder ∷ cs) le rise = earlier t u cs le rise
earlier t u (AMove d n ∷ cs) le rise = earlier t u cs le rise
earlier t u (AnEnd d ∷ cs) le rise = earlier t u cs le rise
earlier t u (AClock v ∷ cs) le rise = let at : u ≤ v = rise.0 in (omega arith, rise.1)
earlier t u (ASwap p q ∷ cs) le rise = (rise.0, rise.1, earlier t u cs le rise.2)

-- the calls after some others
rest-rises : (t : ℕ) (cs ds : List Call) → CallsRise t (cs ++ ds) → CallsRise t ds
rest-rises t [] ds rise = rise
rest-rises t (AnOrder ∷ cs) ds rise = rest-rises t cs ds rise
rest-rises t (AMove d n ∷ cs) ds rise = rest-rises t cs ds rise
rest-rises t (AnEnd d ∷ cs) ds rise = rest-rises t cs ds rise
rest-rises t (AClock u ∷ cs) ds rise = earlier t u ds rise.0 (rest-rises u cs ds rise.1)
rest-rises t (ASwap p q ∷ cs) ds rise = rest-rises t cs ds rise.2

rise-step : (t : ℕ) (s : JournalStep) (cs : List Call) → CallsRise t (call_of s ∷ cs) → CallsRise (clock_by t s) cs
rise-step t (Obeys p note) cs rise = rise
rise-step t (Holds p by) cs rise = rise
rise-step t Waits cs rise = rise
rise-step t (Moves d n) cs rise = rise
rise-step t (Ends d) cs rise = rise
rise-step t (Sets u) cs rise = rise.1
rise-step t (Swaps p q) cs rise = rise.2

rise-answered : (P : List JournalStep) (cs : List Call) → CallsRise 0 (answered P ++ cs) → CallsRise (clock (journal_of P)) cs
rise-answered [] cs rise = rise
rise-answered (s ∷ P) cs rise =
    let front : CallsRise 0 (answered P ++ (call_of s ∷ cs)) = subst (CallsRise 0) (append_assoc (answered P) (call_of s ∷ []) cs) rise in
    subst (λ (t : ℕ). CallsRise t cs) (sym (clock-added (journal_of P) s)) (rise-step (clock (journal_of P)) s cs (rise-answered P (call_of s ∷ cs) front))

rises-orders : (t n : ℕ) (cs : List Call) → CallsRise t (replicate n AnOrder ++ cs) → CallsRise t cs
rises-orders t zero cs rise = rise
rises-orders t (suc n) cs rise = rises-orders t n cs rise

-- calls that don't set the clock back are those of events that don't
events-rise : (t : ℕ) (es : List Event) → CallsRise t (calls_made es) → IsRising t es
events-rise t [] rise = tt
events-rise t (Orders n ∷ es) rise = events-rise t es (rises-orders t n (calls_made es) (subst (CallsRise t) (calls-after (Orders n) es) rise))
events-rise t (Move d n ∷ es) rise = events-rise t es (subst (CallsRise t) (calls-after (Move d n) es) rise)
events-rise t (End d ∷ es) rise = events-rise t es (subst (CallsRise t) (calls-after (End d) es) rise)
events-rise t (Clock u ∷ es) rise = let r = subst (CallsRise t) (calls-after (Clock u) es) rise in (r.0, events-rise u es r.1)
events-rise t (Swap p q ∷ es) rise = let r = subst (CallsRise t) (calls-after (Swap p q) es) rise in (r.0, r.1, events-rise t es r.2)

-- the events after those of a journal don't set its clock back
pub rising-on : (slots : List Slot) (es more : List Event) (J : List Entry) → IsLegal slots J → IsWhole slots (calls_made es) J → IsRising 0 (es ++ more)
    → IsRising (clock J) more
rising-on slots es more J legal whole rises =
    let all : CallsRise 0 (calls_made es ++ calls_made more) = subst (CallsRise 0) (calls_made-append es more) (calls-rise 0 (es ++ more) rises) in
    let parts : CallsRise 0 ((answered (steps J) ++ whole.left) ++ calls_made more) = subst (λ (cs : List Call). CallsRise 0 (cs ++ calls_made more))
    (sym whole.follows.in_order) all in
    let front : CallsRise 0 (answered (steps J) ++ (whole.left ++ calls_made more)) =
    subst (CallsRise 0) (append_assoc (answered (steps J)) whole.left (calls_made more)) parts in
    let on : CallsRise (clock (journal_of (steps J))) (whole.left ++ calls_made more) = rise-answered (steps J) (whole.left ++ calls_made more) front in
    let own : CallsRise (clock J) (whole.left ++ calls_made more) = subst (λ (K : List Entry). CallsRise (clock K) (whole.left ++ calls_made more))
    legal.in_form on in
    events-rise (clock J) more (rest-rises (clock J) whole.left (calls_made more) own)
