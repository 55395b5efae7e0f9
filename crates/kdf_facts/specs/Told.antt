-- What is told of a job.
use Rattle.std.specs.Prelude.{◌≡◌, ℕ, ◌≤◌, List, length, Some, None}
use Rattle.kdf_job.specs.Job.{ShownJob}
use Rattle.kdf_job.specs.Reading.{job, job_fault}
use Rattle.kdf_job.specs.declared.fault.JobFault.{JobFault}
use Rattle.kdf_top.specs.Answers.{called_by}
use Rattle.kdf_command.specs.Commands.{job_limit}
use Rattle.kdf_top.specs.Deck.{deck_fault}
use Rattle.kdf_command.specs.declared.command.Command.TheVariants.{Run}
use Rattle.kdf_top.specs.declared.status.Status.{Status}
use Rattle.kdf_top.specs.declared.status.Status.TheVariants as status
use Rattle.kdf_usercode.specs.Faults.{FoundFault}
use Rattle.kdf_facts.specs.Faults.{deck_front, job_front}
use Rattle.kdf_facts.specs.Run.{Begins, IsRunTold}

-- the first deck of a job that has a fault is told, and where
abbrev pub TellsDeck : ShownJob → List ℕ → Type 0
TellsDeck j text = (slot : ℕ) (found : FoundFault) → deck_fault j.slots ≡ Some (slot, found) → Begins (deck_front slot found.fault found.place) text

-- and where no deck has one, the run
abbrev pub TellsJob : (answers : ℕ → ℕ → Type 0) → ShownJob → List ℕ → Type 0
TellsJob answers j text = deck_fault j.slots ≡ None → IsRunTold answers j text

-- the first fault of a text that isn't too long for a job is told, and its line
abbrev pub TellsFault : List ℕ → List ℕ → Type 0
TellsFault bytes text =
    length bytes ≤ job_limit → (fault : JobFault) (line : ℕ) → job_fault bytes ≡ Some (fault, line) → Begins (job_front fault line) text

-- and where it has none, what is to be told of the job
abbrev pub OfJob : (ShownJob → List ℕ → Type 0) → List ℕ → List ℕ → Type 0
OfJob Tells bytes text = length bytes ≤ job_limit → job_fault bytes ≡ None → Tells (job bytes) text

-- what the program answers where it runs a job of these bytes
abbrev pub called_over : List ℕ → Status
called_over bytes = called_by (Some Run) bytes

-- an answer to a command where nothing failed
abbrev pub IsAnswer : Status → Type 0
IsAnswer status.Usage = ⊥
IsAnswer status.ReadFault = ⊥
IsAnswer status.WriteFault = ⊥
IsAnswer status.Memory = ⊥
IsAnswer _ = Unit {0}
