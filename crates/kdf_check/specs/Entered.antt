-- What is entered of the turn of a program.
use Rattle.std.specs.Prelude.{◌≡◌, ℕ, List, Option, Some, None}
use Rattle.kdf_journal.specs.declared.entry.Entry.{Entry}
use Rattle.kdf_journal.specs.declared.entry.Entry.TheVariants.{Ran, Fail, Ended}
use Rattle.kdf_journal.specs.Counts.{calls_in, moves_in}
use Rattle.kdf_journal.specs.Joined.{pushed}
use Rattle.kdf_journal.specs.Steps.{hold_entry}
use Rattle.kdf_processor.specs.declared.step.Step.{Step}
use Rattle.kdf_processor.specs.declared.step.Step.TheVariants as ending

-- a journal with the entry that tells of an order, if there is one
abbrev pub with_entry : List Entry → Option Entry → List Entry
with_entry J None = J
with_entry J (Some entry) = pushed J entry

-- the turn of program p ended so, and the entry tells of its order
abbrev pub entered : List Entry → ℕ → Step → Option Entry → List Entry
entered J p (ending.Held need) entry = pushed J (hold_entry p need)
entered J p (ending.Fails kind) entry = pushed (pushed J (Ran p 1)) (Fail p kind)
entered J p ending.Ends entry = pushed (pushed J (Ran p 1)) (Ended p)
entered J p ending.Done entry = with_entry (pushed J (Ran p 1)) entry

-- an entry that counts no call and no word
abbrev pub IsNote : Option Entry → Type 0
IsNote None = Unit {0}
IsNote (Some entry) = (calls_in entry ≡ 0) × (moves_in entry ≡ 0)
