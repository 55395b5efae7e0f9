-- Orders of one program that are tried one after another, where the journal tells of none but the last more than that it was obeyed.
use Rattle.std.specs.Prelude.{◌≡◌, ◌+◌, ℕ, zero, suc, List, Option, None}
use Rattle.kdf_journal.specs.declared.entry.Entry.{Entry}
use Rattle.kdf_processor.specs.declared.registers.Registers.{Registers}
use Rattle.kdf_processor.specs.declared.step.Step.{Step}
use Rattle.kdf_processor.specs.declared.step.Step.TheVariants.{Done}
use Rattle.kdf_processor.specs.Outcome.{Outcome, outcome}
use Rattle.kdf_processor.specs.Row.{at_once}
use Rattle.kdf_alone.specs.declared.lone_port.LonePort.{LonePort}
use Rattle.kdf_alone.specs.LonePort.{stock_of}
use Rattle.kdf_check.specs.Around.{Around}
use Rattle.kdf_check.specs.declared.table.Pending.{Pending}
use Rattle.kdf_check.specs.CheckPort.{entry_after, shown_by, table_after, IsInTable}

-- what the next order of program p comes to that has this
abbrev pub outcome_at : (p : ℕ) → Around → Registers → LonePort → Outcome
outcome_at p around r b = outcome (shown_by p around (stock_of b)) r

-- it was tried, and ended so: this is what the program has then, what is pending, and what the journal tells of the order
pub record HasTried (p : ℕ) (around : Around) (r : Registers) (b : LonePort) (left : Registers) (bench : LonePort) (table : List (Option Pending))
    (ended : Step) (told : Option Entry) : Type 0 where
  pub ending_is : ended ≡ (outcome_at p around r b).step
  pub registers_are : left ≡ (outcome_at p around r b).registers
  pub stock_is : stock_of bench ≡ at_once (outcome_at p around r b).act (stock_of b)
  pub table_is : table ≡ table_after p (outcome_at p around r b).act around.table
  pub inside : IsInTable (outcome_at p around r b).act
  pub told_is : told ≡ entry_after p (r.ran + 1) (outcome_at p around r b).act None

-- so many were obeyed, and of each the journal tells that and no more
abbrev pub AreQuiet : (p : ℕ) → Around → ℕ → Registers → LonePort → Registers → LonePort → Type 0
AreQuiet p around zero r b left bench = (left ≡ r) × (bench ≡ b)
AreQuiet p around (suc n) r b left bench =
    (mid : Registers) × (between : LonePort) × AreQuiet p around n r b mid between × HasTried p around mid between left bench around.table Done None

-- and after them one more was tried
pub record HasBatch (p : ℕ) (around : Around) (quiet : ℕ) (r : Registers) (b : LonePort) (left : Registers) (bench : LonePort) (table : List (Option Pending))
    (ended : Step) (told : Option Entry) : Type 0 where
  pub mid : Registers
  pub between : LonePort
  pub earlier : AreQuiet p around quiet r b mid between
  pub last : HasTried p around mid between left bench table ended told

-- or there was no memory for one more, and it changed nothing
abbrev pub HasStopped : (p : ℕ) → Around → ℕ → Registers → LonePort → Registers → LonePort → Type 0
HasStopped p around quiet r b left bench =
    (between : LonePort) × AreQuiet p around quiet r b left between × (stock_of bench ≡ stock_of between)
