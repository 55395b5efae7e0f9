-- Answers that aren't taken change nothing.
use Rattle.std.proofs.Common.{◌≡◌, ℕ, zero, suc, ◌+◌, ◌<◌, ◌≤◌, true, false, List, ◌++◌, length, ◌⊎◌, inl, inr, cond, refl, sym, ap, ◌∙◌, subst, ⊎_elim, arith}
use Rattle.std.proofs.lemmas.Bool.{cases_Bool, cases_lt}
use Rattle.std.proofs.lemmas.List.{get_or_append_left}
use Rattle.kdf_processor.specs.State.{State, fixture_at}
use Rattle.kdf_processor.specs.Effect.{Question, Effect, Starting, Asking, Returning}
use Rattle.kdf_processor.specs.Needs.{next_effect}
use Rattle.kdf_processor.specs.Row.{perform, row}
use Rattle.kdf_processor.specs.Lone.{is_live, lone_step, lone}
use Rattle.kdf_processor.proofs.RowFacts.{answered_asked, next_answer, released_asked, transferred_asked}

-- an effect takes one answer, or none and then doesn't look at it
asks_or_not : (e : Effect) (s : State) → ((answer : Question → ℕ) → (perform answer e s).stock.asked ≡ s.stock.asked + 1)
    ⊎ ((answer : Question → ℕ) → (perform answer e s).stock.asked ≡ s.stock.asked) × ((answer other : Question → ℕ) → perform answer e s ≡ perform other e s)
asks_or_not (Asking question after) s = inl (λ answer. answered_asked question (answer question) s.stock)
asks_or_not (Returning pooled d after) s = inr (λ answer. released_asked pooled d s.stock, λ answer other. refl)
asks_or_not (Starting d o first last after) s =
    inr (λ answer. transferred_asked d o first last (fixture_at s.stock.claims d) s.stock, λ answer other. refl)
asks_or_not e s = inr (λ answer. refl, λ answer other. refl)

-- a step takes one answer at most, and with xs many answers xs are taken after it, more of them change nothing
row_answers : (xs ys : List ℕ) (s : State) → (s.stock.asked ≤ (row s (next_answer xs s)).stock.asked)
    × ((row s (next_answer xs s)).stock.asked ≤ length xs → row s (next_answer (xs ++ ys) s) ≡ row s (next_answer xs s))
row_answers xs ys s =
    ⊎_elim
    (λ asks.
    let more = asks (next_answer xs s) in
    (omega (arith, more), λ enough. ap (λ a. row s (λ _. a)) (get_or_append_left xs ys 0 s.stock.asked (omega (arith, more)))))
    (λ none. (omega (arith, none.0 (next_answer xs s)), λ enough. none.1 (next_answer (xs ++ ys) s) (next_answer xs s)))
    (asks_or_not (next_effect s) s)

step_answers : (xs ys : List ℕ) (s : State) → (s.stock.asked ≤ (lone_step xs s).stock.asked)
    × ((lone_step xs s).stock.asked ≤ length xs → lone_step (xs ++ ys) s ≡ lone_step xs s)
step_answers xs ys s =
    ⊎_elim
    (λ (live : is_live s.registers.state ≡ true). rw live (row_answers xs ys s))
    (λ (over : is_live s.registers.state ≡ false). rw over (omega arith, λ enough. refl))
    (cases_Bool (is_live s.registers.state))

asked_grows : (start : State) (xs : List ℕ) (n : ℕ) → (lone start xs n).stock.asked ≤ (lone start xs (suc n)).stock.asked
asked_grows start xs n = (step_answers xs xs (lone start xs n)).0

-- with xs many answers xs are taken, more of them change nothing
same_lone : (start : State) (xs ys : List ℕ) (n : ℕ) → (lone start xs n).stock.asked ≤ length xs → lone start (xs ++ ys) n ≡ lone start xs n
same_lone start xs ys zero enough = refl
same_lone start xs ys (suc n) enough =
    let step = step_answers xs ys (lone start xs n) in
    ap (lone_step (xs ++ ys)) (same_lone start xs ys n (omega arith)) ∙ step.1 enough

-- no answer is given back
asked_upto : (start : State) (xs : List ℕ) (n k : ℕ) → k ≤ n → (lone start xs k).stock.asked ≤ (lone start xs n).stock.asked
asked_upto start xs zero k le = let e : k ≡ 0 = omega arith in subst (λ j. (lone start xs j).stock.asked ≤ start.stock.asked) (sym e) (omega arith)
asked_upto start xs (suc n) k le =
    ⊎_elim
    (λ (lt : n < k). let e : k ≡ suc n = omega arith in subst (λ j. (lone start xs j).stock.asked ≤ (lone start xs (suc n)).stock.asked) (sym e) (omega arith))
    (λ (below : k ≤ n). omega (arith, asked_upto start xs n k below, asked_grows start xs n))
    (cases_lt n k)

pub longer : (start : State) (xs ys : List ℕ) (n : ℕ) → (lone start xs n).stock.asked ≤ length xs → (k : ℕ) → k ≤ n → lone start (xs ++ ys) k ≡ lone start xs k
longer start xs ys n enough k le = same_lone start xs ys k (omega (arith, asked_upto start xs n k le))

-- once a program isn't live, nothing changes any more
pub stopped : (start : State) (xs : List ℕ) (n m : ℕ) → is_live (lone start xs n).registers.state ≡ false → n ≤ m → lone start xs m ≡ lone start xs n
stopped start xs n zero over le = let e : zero ≡ n = omega arith in ap (lone start xs) e
stopped start xs n (suc m) over le =
    ⊎_elim
    (λ (lt : m < n). let e : suc m ≡ n = omega arith in ap (lone start xs) e)
    (λ (below : n ≤ m).
    ap (lone_step xs) (stopped start xs n m over below)
    ∙ ap (λ b. cond b (row (lone start xs n) (next_answer xs (lone start xs n))) (lone start xs n)) over)
    (cases_lt m n)

pub same_end : (start : State) (xs : List ℕ) (n m : ℕ) → is_live (lone start xs n).registers.state ≡ false → is_live (lone start xs m).registers.state ≡ false
    → lone start xs n ≡ lone start xs m
same_end start xs n m over over' =
    ⊎_elim (λ (lt : n < m). sym (stopped start xs n m over (omega arith))) (λ (le : m ≤ n). stopped start xs m n over' le) (cases_lt n m)
