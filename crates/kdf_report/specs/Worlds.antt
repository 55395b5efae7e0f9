-- A program in the report of a job.
use Rattle.std.specs.Prelude.{ℕ, List, Option}
use Rattle.std.specs.Option.{option_map}
use Rattle.kdf_processor.specs.State.{State}
use Rattle.kdf_job.specs.Job.{ShownJob, ShownSlot}
use Rattle.kdf_report.specs.Loaded.{slot_numbered}
use Rattle.kdf_report.specs.Text.{section}

-- the section of program p, where the job has such a slot
abbrev pub section_of : ℕ → ShownJob → (ℕ → State) → Option (List (List ℕ))
section_of p job states =
    option_map (λ (slot : ShownSlot). section slot (states p)) (slot_numbered job.slots p)
