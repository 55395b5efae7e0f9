-- The orders of a lone run.
use Rattle.std.proofs.Common.{◌≡◌, ℕ, ◌+◌, ◌<◌, ◌≤◌, suc, false, true, List, sym, ap, subst, ◌∙◌, ◌⊎◌, ⊎_elim, arith}
use Rattle.kdf_processor.proofs.LoneLemmas.{stopped}
use Rattle.kdf_processor.proofs.RowFacts.{counts_lone, life_after, life_row, live_step}
use Rattle.kdf_processor.specs.Lone.{is_live, lone, lone_step}
use Rattle.kdf_processor.specs.Row.{next_of, row}
use Rattle.kdf_processor.specs.State.{State}
use Rattle.kdf_processor.specs.declared.registers.Life.{Life}
use Rattle.kdf_processor.specs.declared.step.Step.{Step}
use Rattle.kdf_processor.specs.declared.step.Step.TheVariants.{Fails, Ends}
use Rattle.kdf_journal.specs.declared.failure.Failure.{Failure}
use Rattle.kdf_alone.specs.Program.{given_by}

-- how many a state of the run can have obeyed
pub run_ran : (xs : List ℕ) (s t : State) (n : ℕ) → t ≡ lone s xs n → t.registers.ran ≤ s.registers.ran + n
run_ran xs s t n e = subst (λ (u : State). u.registers.ran ≤ s.registers.ran + n) (sym e) (counts_lone s xs n).0

-- where the program has stopped, it stays
pub no_more : (xs : List ℕ) (s t : State) (n m : ℕ) → t ≡ lone s xs n → is_live t.registers.state ≡ false → n ≤ m → t ≡ lone s xs m
no_more xs s t n m e over more =
    e ∙ sym (stopped s xs n m (ap (λ (u : State). is_live u.registers.state) (sym e) ∙ over) more)

-- an order that fails or ends the program stops it
pub stopping : (step : Step) → ((kind : Failure) × (step ≡ Fails kind)) ⊎ (step ≡ Ends) → (life : Life) → is_live (life_after step life) ≡ false
stopping step so life =
    ⊎_elim
    (λ fails. ap (λ x. is_live (life_after x life)) fails.1)
    (λ ends. ap (λ x. is_live (life_after x life)) ends)
    so

-- once an order has gone so that the program has stopped, it stays
pub over_after : (xs : List ℕ) (s t u : State) (n m : ℕ) (step : Step) → t ≡ lone s xs n → is_live t.registers.state ≡ true → u ≡ row t (given_by xs t)
    → (next_of t (given_by xs t)).step ≡ step → ((life : Life) → is_live (life_after step life) ≡ false) → n < m → u ≡ lone s xs m
over_after xs s t u n m step e live is so stops less =
    let one : u ≡ lone s xs (suc n) = is ∙ sym (live_step xs t live) ∙ ap (lone_step xs) e in
    let over : is_live u.registers.state ≡ false =
    ap (λ (x : State). is_live x.registers.state) is
    ∙ ap is_live (life_row (given_by xs t) t)
    ∙ ap (λ x. is_live (life_after x t.registers.state)) so
    ∙ stops t.registers.state in
    no_more xs s u (suc n) m one over (omega arith)
