-- Orders of one program that follow one another, and idle calls, in a journal.
use Rattle.std.specs.Prelude.{ℕ, zero, suc, List}
use Rattle.kdf_journal.specs.declared.entry.Entry.{Entry}
use Rattle.kdf_journal.specs.Steps.{Obeys, Quiet, Waits, added}

-- the journal after program p obeyed so many orders of which nothing is noted
abbrev pub ran_on : List Entry → (p : ℕ) → ℕ → List Entry
ran_on J p zero = J
ran_on J p (suc n) = added (ran_on J p n) (Obeys p Quiet)

-- and after so many calls that found no program that could go on
abbrev pub waited_on : List Entry → ℕ → List Entry
waited_on J zero = J
waited_on J (suc n) = added (waited_on J n) Waits
