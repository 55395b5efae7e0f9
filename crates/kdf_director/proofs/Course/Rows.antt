-- Rows of events, whose calls are made at once.
use Rattle.std.proofs.Common.{◌≡◌, ℕ, ◌+◌, ◌-◌, ◌<◌, ◌≤◌, List, [], ◌∷◌, ◌++◌, refl, sym, ◌∙◌, ap, inl, inr, length, take, drop, get_or, subst, arith}
use Rattle.std.proofs.Common.{drop-drop}
use Rattle.std.specs.Prelude.{replicate, sum_by}
use Rattle.std.specs.List.{All}
use Rattle.std.proofs.lemmas.List.{take_more, take-append-drop, replicate-append-replicate}
use Rattle.std.proofs.lemmas.List.Elements.{All-get_or, All-head, All-push, All-tail}
use Rattle.std.proofs.lemmas.List.Sums.{sum_by-take-drop}
use Rattle.kdf_schedule.specs.declared.event.Event.{Event}
use Rattle.kdf_schedule.specs.declared.event.Event.TheVariants.{Orders, Move, End, Clock, Swap}
use Rattle.kdf_schedule.specs.Calls.{AnOrder, calls_of, calls_made, orders_in, order_count}
use Rattle.kdf_schedule.specs.Events.{IsInRange}
use Rattle.kdf_schedule.proofs.Schedules.{calls_made-append, calls_made-one, calls_made-nil, order_count-drop}
use Rattle.kdf_theory.specs.Follows.{IsRising, entries_in}
use Rattle.kdf_director.specs.Rows.{IsOfOrders, IsRow}
use Rattle.kdf_theory.proofs.Course.EventsInTurn.{order_count-append, rest-is}

-- what events of orders come to
orders_made : (es : List Event) → All IsOfOrders es → calls_made es ≡ replicate (order_count es) AnOrder
orders_made [] all = calls_made-nil
orders_made (Orders n ∷ es) all =
    calls_made-append (Orders n ∷ []) es
    ∙ (ap (λ cs. cs ++ calls_made es) (calls_made-one (Orders n))
    ∙ (ap (λ cs. replicate n AnOrder ++ cs) (orders_made es (All-tail IsOfOrders (Orders n) es all)) ∙ replicate-append-replicate n (order_count es) AnOrder))
orders_made (Move d n ∷ es) all = absurd (All-head IsOfOrders (Move d n) es all)
orders_made (End d ∷ es) all = absurd (All-head IsOfOrders (End d) es all)
orders_made (Clock t ∷ es) all = absurd (All-head IsOfOrders (Clock t) es all)
orders_made (Swap p q ∷ es) all = absurd (All-head IsOfOrders (Swap p q) es all)

no_entries : (es : List Event) → All IsOfOrders es → sum_by entries_in es ≡ 0
no_entries [] all = refl
no_entries (Orders n ∷ es) all = no_entries es (All-tail IsOfOrders (Orders n) es all)
no_entries (Move d n ∷ es) all = absurd (All-head IsOfOrders (Move d n) es all)
no_entries (End d ∷ es) all = absurd (All-head IsOfOrders (End d) es all)
no_entries (Clock t ∷ es) all = absurd (All-head IsOfOrders (Clock t) es all)
no_entries (Swap p q ∷ es) all = absurd (All-head IsOfOrders (Swap p q) es all)

rises_behind : (t : ℕ) (es fs : List Event) → All IsOfOrders es → IsRising t (es ++ fs) → IsRising t fs
rises_behind t [] fs all rises = rises
rises_behind t (Orders n ∷ es) fs all rises = rises_behind t es fs (All-tail IsOfOrders (Orders n) es all) rises
rises_behind t (Move d n ∷ es) fs all rises = absurd (All-head IsOfOrders (Move d n) es all)
rises_behind t (End d ∷ es) fs all rises = absurd (All-head IsOfOrders (End d) es all)
rises_behind t (Clock u ∷ es) fs all rises = absurd (All-head IsOfOrders (Clock u) es all)
rises_behind t (Swap p q ∷ es) fs all rises = absurd (All-head IsOfOrders (Swap p q) es all)

-- a row comes to what its event comes to
row_made : (e : Event) (es : List Event) → IsRow e es → calls_made es ≡ calls_of e
row_made e es (inl is) = ap calls_made is ∙ calls_made-one e
row_made e es (inr row) = orders_made es row.1 ∙ sym (ap calls_of row.0)

row_orders : (e : Event) (es : List Event) → IsRow e es → order_count es ≡ orders_in e
row_orders e es (inl is) = ap order_count is ∙ omega arith
row_orders e es (inr row) = sym (ap orders_in row.0)

row_entries : (e : Event) (es : List Event) → IsRow e es → sum_by entries_in es ≡ entries_in e
row_entries e es (inl is) = ap (sum_by entries_in) is ∙ omega arith
row_entries e es (inr row) = no_entries es row.1 ∙ sym (ap entries_in row.0)

row_rises : (t : ℕ) (e : Event) (es fs : List Event) → IsRow e es → IsRising t (es ++ fs) → IsRising t (e ∷ fs)
row_rises t e es fs (inl is) rises = subst (λ (xs : List Event). IsRising t (xs ++ fs)) is rises
row_rises t e es fs (inr row) rises = subst (λ (x : Event). IsRising t (x ∷ fs)) (sym row.0) (rises_behind t es fs row.1 rises)

-- a row that the events from one on begin with, and the events behind it
module _ (es : List Event) (i k : ℕ) (e : Event) (found : IsRow e (take k (take (length es - i) (drop i es)))) where
  row : IsRow e (take k (drop i es))
  row = subst (λ (fs : List Event). IsRow e (take k fs)) (rest-is es i) found

  pub calls_split : calls_made (take k (drop i es)) ≡ calls_of e
  calls_split = row_made e (take k (drop i es)) row

  pub orders_split : order_count (drop i es) ≡ orders_in e + order_count (drop (i + k) es)
  orders_split =
      ap order_count (sym (take-append-drop k (drop i es)))
      ∙ (order_count-append (take k (drop i es)) (drop k (drop i es))
      ∙ (ap (λ n. n + order_count (drop k (drop i es))) (row_orders e (take k (drop i es)) row) ∙ ap (λ fs. orders_in e + order_count fs) (drop-drop k i es)))

  pub entries_split : sum_by entries_in (drop i es) ≡ entries_in e + sum_by entries_in (drop (i + k) es)
  entries_split =
      sym (sum_by-take-drop entries_in (drop i es) k)
      ∙ (ap (λ n. n + sum_by entries_in (drop k (drop i es))) (row_entries e (take k (drop i es)) row)
      ∙ ap (λ fs. entries_in e + sum_by entries_in fs) (drop-drop k i es))

  pub rises_split : (t : ℕ) → IsRising t (drop i es) → IsRising t (e ∷ drop (i + k) es)
  rises_split t rises =
      subst (λ (fs : List Event). IsRising t (e ∷ fs)) (drop-drop k i es)
      (row_rises t e (take k (drop i es)) (drop k (drop i es)) row (subst (IsRising t) (sym (take-append-drop k (drop i es))) rises))

-- the first events have no more orders than all
pub orders_taken : (es : List Event) (i : ℕ) → order_count (take i es) ≤ order_count es
orders_taken es i =
    let parts : order_count es ≡ order_count (take i es) + order_count (drop i es) = ap order_count (sym (take-append-drop i es))
    ∙ order_count-append (take i es) (drop i es) in
    omega (arith, parts)

-- one event of orders more
module _ (es : List Event) (i n : ℕ) (d : Event) (lt : i < length es) (is : get_or es i d ≡ Orders n) where
  pub orders_more : order_count (take (i + 1) es) ≡ order_count (take i es) + n
  orders_more = ap order_count (take_more es i d lt) ∙ (order_count-append (take i es) (get_or es i d ∷ []) ∙ omega (arith, ap orders_in is))

  pub all_more : All IsOfOrders (take i es) → All IsOfOrders (take (i + 1) es)
  all_more all =
      subst (All IsOfOrders) (sym (take_more es i d lt)) (All-push IsOfOrders (take i es) (get_or es i d) all (subst IsOfOrders (sym is) tt))

  pub orders_within : order_count (take i es) + n ≤ order_count es
  orders_within =
      let parts : order_count es ≡ order_count (take i es) + order_count (drop i es) = ap order_count (sym (take-append-drop i es))
      ∙ order_count-append (take i es) (drop i es) in
      omega (arith, parts, order_count-drop es i d lt, ap orders_in is)

  pub some_orders : All IsInRange es → 1 ≤ n
  some_orders all = (subst IsInRange is (All-get_or IsInRange es i d lt all)).0
