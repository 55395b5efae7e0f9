-- A program by itself is never held up, so its next order is its row.
use Rattle.std.proofs.Common.{◌≡◌, ℕ, ap, ◌∙◌}
use Rattle.kdf_processor.specs.declared.registers.Registers.{Registers}
use Rattle.kdf_processor.specs.Outcome.{Outcome, outcome}
use Rattle.kdf_processor.specs.Row.{row, next_of}
use Rattle.kdf_processor.proofs.ByItself.{state, outcome_alone, row_alone}
use Rattle.kdf_alone.specs.declared.lone_port.LonePort.{LonePort}
use Rattle.kdf_alone.specs.LonePort.{given, stock_of, state_with, shown, Acts}
use Rattle.kdf_alone.proofs.Takings.{row_given, step_given}

-- how the next order ends over a lone port that shows this state, and is answered so
pub step_over : (old b : LonePort) (answer : ℕ) (r : Registers) → stock_of b ≡ stock_of old → b.answer ≡ answer
    → (outcome (shown b) r).step ≡ (next_of (state_with r old) (λ _. answer)).step
step_over old b answer r stock is =
    ap (λ (o : Outcome). o.step) (outcome_alone (stock_of b) (given (stock_of b).claims b.answer) r)
    ∙ step_given (state r (stock_of b)) b.answer
    ∙ ap (λ k. (next_of (state r k) (λ _. b.answer)).step) stock
    ∙ ap (λ a. (next_of (state_with r old) (λ _. a)).step) is

-- and the state after it
pub row_over : (old b new : LonePort) (answer : ℕ) (r r' : Registers) → stock_of b ≡ stock_of old → b.answer ≡ answer → r' ≡ (outcome (shown b) r).registers
    → Acts b (outcome (shown b) r).act new → state_with r' new ≡ row (state_with r old) (λ _. answer)
row_over old b new answer r r' stock is registers acted =
    row_alone (stock_of b) (stock_of new) (given (stock_of b).claims b.answer) r r' registers acted
    ∙ row_given (state r (stock_of b)) b.answer
    ∙ ap (λ k. row (state r k) (λ _. b.answer)) stock
    ∙ ap (λ a. row (state_with r old) (λ _. a)) is
