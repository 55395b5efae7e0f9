-- A run that is saved, and goes on with further lines of its schedule. `answers n a` says that a is one of the answers of the
-- installation's service to n.
use Rattle.std.specs.Prelude.{◌≡◌, ℕ, List, [], ◌∷◌, ◌++◌, None, codes}
use Rattle.kdf_text.specs.Lines.{lines}
use Rattle.kdf_schedule.specs.Calls.{calls_made}
use Rattle.kdf_job.specs.Job.{ShownJob}
use Rattle.kdf_job.specs.More.{more_events, more_fault}
use Rattle.kdf_job.specs.Reading.{job, job_fault}
use Rattle.kdf_top.specs.Answers.{IsCalled, IsFaultless, IsTrusted}
use Rattle.kdf_top.specs.Deck.{deck_fault}
use Rattle.kdf_top.specs.Due.{job_of}
use Rattle.kdf_command.specs.declared.command.Command.TheVariants.{Resume}
use Rattle.kdf_top.specs.declared.status.Status.{Status}
use Rattle.kdf_top.specs.declared.status.Status.TheVariants.{Done}

-- further lines of a job's schedule, none of which is faulty, whichever number the first has
abbrev pub IsFurther : ShownJob → List ℕ → Type 0
IsFurther j more = more_fault 1 j.events more ≡ None

-- the text of a whole run: a job without a fault, with these slots, that makes the calls of the job and then those of the further
-- lines, one by one; so an event of orders may be cut at any of its calls
pub record IsWholeRun (j : ShownJob) (more whole : List ℕ) : Type 0 where
  pub faultless : job_fault whole ≡ None
  pub slots : (job whole).slots ≡ j.slots
  pub calls : calls_made (job whole).events ≡ calls_made (j.events ++ more_events more)

-- the further lines stand in place of the line ENDJOB
abbrev pub GoesOnWith : (bytes more whole : List ℕ) → Type 0
GoesOnWith bytes more whole =
    (ls : List (List ℕ)) × (lines bytes ≡ ls ++ codes "ENDJOB" ∷ []) × (lines whole ≡ ls ++ lines more)

-- what `resume` makes of a text is the run of this job: no line and no deck is faulty, the snapshot is that of its job, and so Done
-- is called for, and nothing else
pub record IsResumed (answers : ℕ → ℕ → Type 0) (j : ShownJob) (text : List ℕ) : Type 0 where
  pub faultless : IsFaultless Resume text
  pub told : job_of Resume text ≡ j
  pub assembles : deck_fault (job_of Resume text).slots ≡ None
  pub trusted : IsTrusted answers Resume text
  pub done : IsCalled answers Resume text Done
  pub only : (called : Status) → IsCalled answers Resume text called → called ≡ Done
