-- The calls that are left after a cursor, one call or event further on.
use Rattle.std.proofs.Common.{◌≡◌, ℕ, zero, suc, ◌+◌, ◌≤◌, ◌<◌, List, [], ◌∷◌, ◌++◌, inl, inr, refl, sym, ◌∙◌, ap, arith, length, drop, get_or, drop-cons}
use Rattle.std.proofs.Common.{add-one, length-append}
use Rattle.std.specs.Prelude.{replicate}
use Rattle.std.proofs.Math.Seq.{drop-append_seam}
use Rattle.std.proofs.lemmas.Bool.{cases_lt}
use Rattle.std.proofs.lemmas.Grind.{common_steps}
use Rattle.std.proofs.lemmas.List.{length-replicate, get_or_past, drop_all}
use Rattle.kdf_schedule.specs.declared.event.Event.{Event}
use Rattle.kdf_schedule.specs.declared.event.Event.TheVariants.{Orders, Move, End, Clock, Swap}
use Rattle.kdf_schedule.specs.Calls.{Call, AnOrder, calls_of, calls_made, orders_in}
use Rattle.kdf_schedule.proofs.Schedules.{calls_made-append, calls_made-one, calls_made-nil}
use Rattle.kdf_watch.specs.declared.cursor.Cursor.{Cursor}
use Rattle.kdf_watch.specs.Cursors.{event_at, calls_left}
use Rattle.kdf_watch.specs.Onward.{called, passed}

pub calls-here : (es : List Event) (i : ℕ) → i < length es → calls_made (drop i es) ≡ calls_of (event_at es i) ++ calls_made (drop (i + 1) es)
calls-here es i lt =
    ap calls_made (drop-cons es i (Orders 0) lt ∙ ap (λ (n : ℕ). event_at es i ∷ drop n es) (sym (add-one i)))
    ∙ (calls_made-append (event_at es i ∷ []) (drop (i + 1) es) ∙ ap (λ (cs : List Call). cs ++ calls_made (drop (i + 1) es)) (calls_made-one (event_at es i)))

orders-left : (n k : ℕ) (cs : List Call) → k < n → drop k (replicate n AnOrder ++ cs) ≡ AnOrder ∷ drop (k + 1) (replicate n AnOrder ++ cs)
orders-left n k cs lt =
    let long : k < length (replicate n AnOrder ++ cs) = omega (arith, length-append (replicate n AnOrder) cs, length-replicate n AnOrder) in
    let first : get_or (replicate n AnOrder ++ cs) k AnOrder ≡ AnOrder = grind (arith, common_steps) in
    drop-cons (replicate n AnOrder ++ cs) k AnOrder long
    ∙ (ap (λ (c : Call). c ∷ drop (suc k) (replicate n AnOrder ++ cs)) first
    ∙ ap (λ (j : ℕ). AnOrder ∷ drop j (replicate n AnOrder ++ cs)) (sym (add-one k)))

-- an event that has orders is its orders
orders-of : (e : Event) (k : ℕ) → k < orders_in e → calls_of e ≡ replicate (orders_in e) AnOrder
orders-of (Orders n) k lt = refl
orders-of (Move d n) k lt = absurd (omega (arith, lt))
orders-of (End d) k lt = absurd (omega (arith, lt))
orders-of (Clock t) k lt = absurd (omega (arith, lt))
orders-of (Swap p q) k lt = absurd (omega (arith, lt))

module _ (es : List Event) (c : Cursor) (lt : c.event < length es) where
  -- a call of its orders
  pub left-order : c.calls < orders_in (event_at es c.event) → calls_left es c ≡ AnOrder ∷ calls_left es (called c)
  left-order less =
      let n : ℕ = orders_in (event_at es c.event) in
      let here : calls_made (drop c.event es) ≡ replicate n AnOrder ++ calls_made (drop (c.event + 1) es) =
      calls-here es c.event lt ∙ ap (λ (cs : List Call). cs ++ calls_made (drop (c.event + 1) es)) (orders-of (event_at es c.event) c.calls less) in
      ap (drop c.calls) here
      ∙ orders-left n c.calls (calls_made (drop (c.event + 1) es)) less
      ∙ ap (λ (cs : List Call). AnOrder ∷ drop (c.calls + 1) cs) (sym here)

  -- the end of its orders
  pub left-over : (n : ℕ) → event_at es c.event ≡ Orders n → c.calls ≡ n → calls_left es c ≡ calls_left es (passed c)
  left-over n is all =
      ap (drop c.calls) (calls-here es c.event lt ∙ ap (λ (e : Event). calls_of e ++ calls_made (drop (c.event + 1) es)) is)
      ∙ (ap (λ (j : ℕ). drop j (replicate n AnOrder ++ calls_made (drop (c.event + 1) es))) (all ∙ sym (length-replicate n AnOrder))
      ∙ drop-append_seam (replicate n AnOrder) (calls_made (drop (c.event + 1) es)))

  -- another event
  pub left-event : (call : Call) → calls_of (event_at es c.event) ≡ call ∷ [] → c.calls ≡ 0 → calls_left es c ≡ call ∷ calls_left es (passed c)
  left-event call is none =
      ap (drop c.calls) (calls-here es c.event lt ∙ ap (λ (xs : List Call). xs ++ calls_made (drop (c.event + 1) es)) is)
      ∙ ap (λ (k : ℕ). drop k (call ∷ calls_made (drop (c.event + 1) es))) none

pub left-none : (es : List Event) (c : Cursor) → length es ≤ c.event → calls_left es c ≡ []
left-none es c le = ap (λ (fs : List Event). drop c.calls (calls_made fs)) (drop_all c.event es le)
    ∙ (ap (drop c.calls) calls_made-nil ∙ drop_all c.calls [] (omega arith))

-- the first calls of an event's orders, and what is left
first_orders : (k : ℕ) (e : Event) (cs : List Call) → k ≤ orders_in e → replicate k AnOrder ++ drop k (calls_of e ++ cs) ≡ calls_of e ++ cs
first_orders zero e cs le = refl
first_orders (suc k) (Orders zero) cs le = absurd (omega (arith, le))
first_orders (suc k) (Orders (suc n)) cs le = ap (λ (xs : List Call). AnOrder ∷ xs) (first_orders k (Orders n) cs (omega (arith, le)))
first_orders (suc k) (Move d n) cs le = absurd (omega (arith, le))
first_orders (suc k) (End d) cs le = absurd (omega (arith, le))
first_orders (suc k) (Clock t) cs le = absurd (omega (arith, le))
first_orders (suc k) (Swap p q) cs le = absurd (omega (arith, le))

pub rest-here : (es : List Event) (c : Cursor) → c.calls ≤ orders_in (event_at es c.event)
    → replicate c.calls AnOrder ++ calls_left es c ≡ calls_made (drop c.event es)
rest-here es c within = elim (cases_lt c.event (length es)) [
  | inl lt ↦
      let here = calls-here es c.event lt in
      ap (λ (cs : List Call). replicate c.calls AnOrder ++ drop c.calls cs) here
      ∙ (first_orders c.calls (event_at es c.event) (calls_made (drop (c.event + 1) es)) within ∙ sym here)
  | inr ge ↦
      let past : event_at es c.event ≡ Orders 0 = get_or_past es c.event (Orders 0) ge in
      let none : c.calls ≡ 0 = omega (arith, within, ap orders_in past) in
      ap (λ (k : ℕ). replicate k AnOrder ++ drop k (calls_made (drop c.event es))) none
]

-- some calls of its orders
pub left-orders : (es : List Event) (k : ℕ) (c : Cursor) → c.event < length es → c.calls + k ≤ orders_in (event_at es c.event)
    → calls_left es c ≡ replicate k AnOrder ++ calls_left es (record { event = c.event; calls = c.calls + k })
left-orders es zero c lt le = let same : c.calls ≡ c.calls + 0 = omega arith in ap (λ (j : ℕ). calls_left es (record { event = c.event; calls = j })) same
left-orders es (suc k) c lt le =
    let same : c.calls + 1 + k ≡ c.calls + suc k = omega arith in
    left-order es c lt (omega (arith, le))
    ∙ (ap (λ (cs : List Call). AnOrder ∷ cs) (left-orders es k (called c) lt (omega (arith, le)))
    ∙ ap (λ (j : ℕ). AnOrder ∷ (replicate k AnOrder ++ calls_left es (record { event = c.event; calls = j }))) same)
