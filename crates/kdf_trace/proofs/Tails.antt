-- A schedule whose last calls are made one by one.
use Rattle.std.proofs.Common.{◌≡◌, ℕ, ◌+◌, ◌-◌, ◌<◌, ◌≤◌, List, [], ◌∷◌, ◌++◌, sym, ◌∙◌, ap, subst, arith, append_assoc}
use Rattle.std.specs.Prelude.{drop, length, replicate, sum_by, take}
use Rattle.std.specs.List.{All}
use Rattle.std.proofs.lemmas.List.{drop-drop, drop-take, length-take-le, replicate-append-replicate, take-append-drop, take-take}
use Rattle.std.proofs.lemmas.List.Sums.{sum_by-take-drop}
use Rattle.std.proofs.lemmas.List.Elements.{All-cons, All-head, All-nil, All-push, All-tail, All-take}
use Rattle.kdf_journal.specs.declared.entry.Entry.{Entry}
use Rattle.kdf_schedule.specs.declared.event.Event.{Event}
use Rattle.kdf_schedule.specs.declared.event.Event.TheVariants.{Orders, Move, End, Clock, Swap}
use Rattle.kdf_schedule.specs.Calls.{AnOrder, calls_made, order_count}
use Rattle.kdf_schedule.specs.Events.{IsInRange}
use Rattle.kdf_schedule.proofs.Schedules.{calls_made-append, calls_made-one}
use Rattle.kdf_theory.specs.Follows.{IsRising, IsWhole, entries_in}
use Rattle.kdf_theory.specs.Served.{IsJournalFor}
use Rattle.kdf_transfer.specs.Slots.{Slot}

pub rises_push : (t : ℕ) (es : List Event) (n : ℕ) → IsRising t es → IsRising t (es ++ Orders n ∷ [])
rises_push t [] n rises = tt
rises_push t (Orders m ∷ es) n rises = rises_push t es n rises
rises_push t (Move d m ∷ es) n rises = rises_push t es n rises
rises_push t (End d ∷ es) n rises = rises_push t es n rises
rises_push t (Clock u ∷ es) n rises = (rises.0, rises_push u es n rises.1)
rises_push t (Swap p q ∷ es) n rises = (rises.0, rises.1, rises_push t es n rises.2)

pub rises_front : (t : ℕ) (es fs : List Event) → IsRising t (es ++ fs) → IsRising t es
rises_front t [] fs rises = tt
rises_front t (Orders m ∷ es) fs rises = rises_front t es fs rises
rises_front t (Move d m ∷ es) fs rises = rises_front t es fs rises
rises_front t (End d ∷ es) fs rises = rises_front t es fs rises
rises_front t (Clock u ∷ es) fs rises = (rises.0, rises_front u es fs rises.1)
rises_front t (Swap p q ∷ es) fs rises = (rises.0, rises.1, rises_front t es fs rises.2)

pub count_push : (es : List Event) (n : ℕ) → order_count (es ++ Orders n ∷ []) ≡ order_count es + n
count_push [] n = omega arith
count_push (e ∷ es) n = omega (arith, count_push es n)

-- the calls of a schedule that ends with orders
pub calls_push : (es : List Event) (n : ℕ) → calls_made (es ++ Orders n ∷ []) ≡ calls_made es ++ replicate n AnOrder
calls_push es n = calls_made-append es (Orders n ∷ []) ∙ ap (λ cs. calls_made es ++ cs) (calls_made-one (Orders n))

-- and of one that ends with more of them
pub calls_more : (front es : List Event) (m n : ℕ) → calls_made es ≡ calls_made front ++ replicate m AnOrder
    → calls_made (es ++ Orders n ∷ []) ≡ calls_made front ++ replicate (m + n) AnOrder
calls_more front es m n is =
    calls_push es n
    ∙ (ap (λ cs. cs ++ replicate n AnOrder) is
    ∙ (append_assoc (calls_made front) (replicate m AnOrder) (replicate n AnOrder)
    ∙ ap (λ cs. calls_made front ++ cs) (replicate-append-replicate m n AnOrder)))

-- a journal for events is one for others with the same calls
pub same_calls : (answers : ℕ → ℕ → Type 0) (slots : List Slot) (es fs : List Event) (J : List Entry) → calls_made es ≡ calls_made fs
    → IsJournalFor answers slots es J → IsJournalFor answers slots fs J
same_calls answers slots es fs J same j = record {
  legal = j.legal;
  truly = j.truly;
  whole = subst (λ cs. IsWhole slots cs J) same j.whole;
}

pub all_front : (es fs : List Event) → All IsInRange (es ++ fs) → All IsInRange es
all_front [] fs all = All-nil IsInRange
all_front (e ∷ es) fs all = All-cons IsInRange e es (All-head IsInRange e (es ++ fs) all) (all_front es fs (All-tail IsInRange e (es ++ fs) all))

pub count_both : (es fs : List Event) → order_count (es ++ fs) ≡ order_count es + order_count fs
count_both [] fs = omega arith
count_both (e ∷ es) fs = omega (arith, count_both es fs)

-- the events before those calls, and with one call more
module _ (front : List Event) (n : ℕ) (few : order_count (front ++ Orders n ∷ []) ≤ 20000000) (more : 156 < n)
    (rises : IsRising 0 (front ++ Orders n ∷ [])) (all : All IsInRange (front ++ Orders n ∷ [])) where
  module _ (es : List Event) (is : es ≡ front ++ Orders (n - 156) ∷ []) where
    pub first_calls : calls_made es ≡ calls_made front ++ replicate (n - 156 + 0) AnOrder
    first_calls = ap calls_made is ∙ (calls_push front (n - 156) ∙ ap (λ m. calls_made front ++ replicate m AnOrder) (omega arith))

    pub first_count : order_count es ≡ order_count front + (n - 156 + 0)
    first_count = ap order_count is ∙ (count_push front (n - 156) ∙ omega arith)

    pub first_few : order_count es ≤ 20000000
    first_few = omega (arith, first_count, count_push front n, few)

    pub first_rises : IsRising 0 es
    first_rises = subst (IsRising 0) (sym is) (rises_push 0 front (n - 156) (rises_front 0 front (Orders n ∷ []) rises))

    pub first_all : All IsInRange es
    first_all =
        subst (All IsInRange) (sym is)
        (All-push IsInRange front (Orders (n - 156)) (all_front front (Orders n ∷ []) all) (omega (arith, more), omega (arith, count_push front n, few)))

  module _ (es fs : List Event) (i : ℕ) (lt : i < 156) (is : fs ≡ es ++ Orders 1 ∷ []) where
    pub more_calls : calls_made es ≡ calls_made front ++ replicate (n - 156 + i) AnOrder
        → calls_made fs ≡ calls_made front ++ replicate (n - 156 + (i + 1)) AnOrder
    more_calls calls =
        ap calls_made is ∙ (calls_more front es (n - 156 + i) 1 calls ∙ ap (λ m. calls_made front ++ replicate m AnOrder) (omega arith))

    pub more_count : order_count es ≡ order_count front + (n - 156 + i) → order_count fs ≡ order_count front + (n - 156 + (i + 1))
    more_count count = ap order_count is ∙ (count_push es 1 ∙ omega (arith, count))

    pub more_few : order_count es ≡ order_count front + (n - 156 + i) → order_count fs ≤ 20000000
    more_few count = omega (arith, more_count count, count_push front n, few, lt, more)

    pub more_rises : IsRising 0 es → IsRising 0 fs
    more_rises before = subst (IsRising 0) (sym is) (rises_push 0 es 1 before)

    pub more_all : All IsInRange es → All IsInRange fs
    more_all before = subst (All IsInRange) (sym is) (All-push IsInRange es (Orders 1) before (omega arith, omega arith))

  pub all_calls : (es : List Event) (i : ℕ) → i ≡ 156 → calls_made es ≡ calls_made front ++ replicate (n - 156 + i) AnOrder
      → calls_made es ≡ calls_made (front ++ Orders n ∷ [])
  all_calls es i end calls =
      calls ∙ (ap (λ m. calls_made front ++ replicate m AnOrder) (omega (arith, end, more)) ∙ sym (calls_push front n))

-- the first events of a schedule
module _ (es : List Event) (i : ℕ) where
  pub rises_take : (t : ℕ) → IsRising t es → IsRising t (take i es)
  rises_take t rises = rises_front t (take i es) (drop i es) (subst (IsRising t) (sym (take-append-drop i es)) rises)

  pub all_take : All IsInRange es → All IsInRange (take i es)
  all_take = All-take IsInRange i es

  pub few_take : order_count es ≤ 20000000 → order_count (take i es) ≤ 20000000
  few_take few = omega (arith, count_both (take i es) (drop i es), ap order_count (take-append-drop i es), few)

  pub room_take : (room : ℕ) → sum_by entries_in es ≤ room → sum_by entries_in (take i es) ≤ room
  room_take room fits = omega (arith, sum_by-take-drop entries_in es i, fits)

  -- and what is left after them
  pub room_drop : (old new : ℕ) → sum_by entries_in es ≤ old → old ≤ new + sum_by entries_in (take i es) → sum_by entries_in (drop i es) ≤ new
  room_drop old new fits stays = omega (arith, sum_by-take-drop entries_in es i, fits, stays)

  pub followed_take : (answers : ℕ → ℕ → Type 0) (slots : List Slot) (J : List Entry) → IsJournalFor answers slots (take i es) J
      → IsJournalFor answers slots (take i (take (i + 1) es)) J
  followed_take answers slots J = subst (λ xs. IsJournalFor answers slots xs J) (sym (take-take i (i + 1) es (omega arith)))

  pub within_next : i < length es → i ≤ length (take (i + 1) es)
  within_next lt = omega (arith, length-take-le (i + 1) es (omega (arith, lt)))

  -- the event after them
  next_event : drop i (take (i + 1) es) ≡ take 1 (drop i es)
  next_event = drop-take i 1 es

  sum_next : sum_by entries_in (drop i (take (i + 1) es)) + sum_by entries_in (drop (i + 1) es) ≡ sum_by entries_in (drop i es)
  sum_next =
      ap (λ xs. sum_by entries_in xs + sum_by entries_in (drop (i + 1) es)) next_event
      ∙ (ap (λ xs. sum_by entries_in (take 1 (drop i es)) + sum_by entries_in xs) (sym (drop-drop 1 i es)) ∙ sum_by-take-drop entries_in (drop i es) 1)

  pub room_for_next : (room : ℕ) → sum_by entries_in (drop i es) ≤ room → sum_by entries_in (drop i (take (i + 1) es)) ≤ room
  room_for_next room fits = omega (arith, sum_next, fits)

  pub room_after : (old new : ℕ) → sum_by entries_in (drop i es) ≤ old → old ≤ new + sum_by entries_in (drop i (take (i + 1) es))
      → sum_by entries_in (drop (i + 1) es) ≤ new
  room_after old new fits stays = omega (arith, sum_next, fits, stays)
