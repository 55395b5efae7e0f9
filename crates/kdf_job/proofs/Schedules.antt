-- A schedule with an event more.
use Rattle.std.proofs.Common.{◌≡◌, ℕ, ◌+◌, ◌<◌, ◌≤◌, List, [], ◌∷◌, ◌++◌, length, drop, get_or, None, sym, ap, ◌∙◌, arith, append_assoc, append-nil}
use Rattle.std.proofs.Math.Seq.{drop-length}
use Rattle.std.specs.List.{fold}
use Rattle.std.proofs.lemmas.List.Sums.{fold-append}
use Rattle.std.proofs.lemmas.List.Elements.{All-push}
use Rattle.std.proofs.lemmas.List.{drop_more, length_push}
use Rattle.std.proofs.lemmas.Bool.Decides.{nat_tests}
use Rattle.kdf_schedule.specs.declared.event.Event.{Event}
use Rattle.kdf_schedule.specs.declared.event.Event.TheVariants.{Orders, Move, End, Clock, Swap}
use Rattle.kdf_schedule.specs.Calls.{order_count, orders_in}
use Rattle.kdf_schedule.specs.Events.{IsInRange}
use Rattle.kdf_job.specs.Draft.{clock_behind, clock_of, count_fault, event_fault}
use Rattle.kdf_job.specs.WellFormed.{IsRising, IsSchedule}
use Rattle.kdf_job.specs.Limits.{most_events, most_orders}

pub order_count_push : (es : List Event) (e : Event) → order_count (es ++ e ∷ []) ≡ order_count es + orders_in e
order_count_push [] e = omega arith
order_count_push (x ∷ es) e = let more = order_count_push es e in omega arith

pub clock_push : (es : List Event) (e : Event) → clock_of (es ++ e ∷ []) ≡ clock_behind (clock_of es) e
clock_push es e = fold-append clock_behind 0 es (e ∷ [])

-- an event doesn't set the time back
abbrev GoesOn : ℕ → Event → Type 0
GoesOn t (Clock u) = t ≤ u
GoesOn t (Orders n) = Unit {0}
GoesOn t (Move d n) = Unit {0}
GoesOn t (End d) = Unit {0}
GoesOn t (Swap p q) = Unit {0}

rising_push : (t : ℕ) (es : List Event) (e : Event) → IsRising t es → GoesOn (fold clock_behind t es) e → IsRising t (es ++ e ∷ [])
rising_push t [] (Clock u) r on = (on, tt {0})
rising_push t [] (Orders n) r on = tt {0}
rising_push t [] (Move d n) r on = tt {0}
rising_push t [] (End d) r on = tt {0}
rising_push t [] (Swap p q) r on = tt {0}
rising_push t (Clock u ∷ es) e r on = (r.0, rising_push u es e r.1 on)
rising_push t (Orders n ∷ es) e r on = rising_push t es e r on
rising_push t (Move d n ∷ es) e r on = rising_push t es e r on
rising_push t (End d ∷ es) e r on = rising_push t es e r on
rising_push t (Swap p q ∷ es) e r on = rising_push t es e r on

goes_on : (es : List Event) (e : Event) → event_fault e es ≡ None → GoesOn (clock_of es) e
goes_on es (Clock u) h = grind (arith, nat_tests)
goes_on es (Orders n) h = tt {0}
goes_on es (Move d n) h = tt {0}
goes_on es (End d) h = tt {0}
goes_on es (Swap p q) h = tt {0}

count_few : (es : List Event) → count_fault es ≡ None → length es < most_events
count_few es h = grind (arith, nat_tests)

few_events : (es : List Event) (e : Event) → event_fault e es ≡ None → length es < most_events
few_events es (Clock u) h = grind (arith, nat_tests)
few_events es (Orders n) h = grind (arith, nat_tests)
few_events es (Move d n) h = count_few es h
few_events es (End d) h = count_few es h
few_events es (Swap p q) h = count_few es h

pub few_orders : (es : List Event) (e : Event) → event_fault e es ≡ None → order_count es ≤ most_orders → order_count es + orders_in e ≤ most_orders
few_orders es (Clock u) h few = omega arith
few_orders es (Orders n) h few = grind (arith, nat_tests)
few_orders es (Move d n) h few = omega arith
few_orders es (End d) h few = omega arith
few_orders es (Swap p q) h few = omega arith

pub schedule_push : (es : List Event) (e : Event) → IsSchedule es → IsInRange e → event_fault e es ≡ None → IsSchedule (es ++ e ∷ [])
schedule_push es e was range h = record {
  each = All-push IsInRange es e was.each range;
  few = let n = few_events es e h in rw (length_push es e) (omega arith);
  few_orders = let n = few_orders es e h was.few_orders in rw (order_count_push es e) (omega arith);
  rising = rising_push 0 es e was.rising (goes_on es e h);
}

order_count_append : (xs ys : List Event) → order_count (xs ++ ys) ≡ order_count xs + order_count ys
order_count_append [] ys = omega arith
order_count_append (x ∷ xs) ys = let more = order_count_append xs ys in omega arith

-- the events of a schedule, one by one
pub orders_left : (all es : List Event) (i : ℕ) (d : Event) → es ++ drop i all ≡ all → i < length all → order_count all ≤ most_orders
    → order_count es + orders_in (get_or all i d) ≤ most_orders
orders_left all es i d is lt few =
    let e = ap order_count is in
    let n = order_count_append es (drop i all) in
    let m = ap order_count (drop_more all i d lt) in
    omega arith

pub one_more : (all es : List Event) (i : ℕ) (d : Event) → es ++ drop i all ≡ all → i < length all → (es ++ get_or all i d ∷ []) ++ drop (i + 1) all ≡ all
one_more all es i d is lt =
    append_assoc es (get_or all i d ∷ []) (drop (i + 1) all) ∙ ap (λ (xs : List Event). es ++ xs) (sym (drop_more all i d lt)) ∙ is

pub all_events : (all es : List Event) → es ++ drop (length all) all ≡ all → es ≡ all
all_events all es is = sym (append-nil es) ∙ ap (λ (xs : List Event). es ++ xs) (sym (drop-length all)) ∙ is
