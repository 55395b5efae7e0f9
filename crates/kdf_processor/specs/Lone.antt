-- A program run alone.
use Rattle.std.specs.Prelude.{ℕ, List, Bool, true, false, if◌then◌else◌, slice_index}
use Rattle.std.proofs.Common.{zero, suc}
use Rattle.kdf_processor.specs.declared.registers.Life.{Life}
use Rattle.kdf_processor.specs.declared.registers.Life.TheVariants.{Live, Ended, Failed}
use Rattle.kdf_processor.specs.State.{State}
use Rattle.kdf_processor.specs.Row.{row}

-- a program runs: it hasn't ended and hasn't failed
abbrev pub is_live : Life → Bool
is_live Live = true
is_live Ended = false
is_live (Failed kind) = false

-- one order more, if the program is live: an ask is answered by the next answer, or 0 past the end
abbrev pub lone_step : List ℕ → State → State
lone_step answers s =
    if is_live s.registers.state then row s (λ _. slice_index answers s.stock.asked) else s

-- the state of a program by itself after n orders
abbrev pub lone : State → List ℕ → ℕ → State
lone start answers zero = start
lone start answers (suc n) = lone_step answers (lone start answers n)
