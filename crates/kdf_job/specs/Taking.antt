-- What is said of a line that is taken.
use Rattle.std.specs.Prelude.{◌≡◌, ℕ, ◌+◌, ◌≤◌, List, Result, Ok, Err}
use Rattle.kdf_schedule.specs.declared.event.Event.{Event}
use Rattle.kdf_job.specs.declared.draft.Draft.{Draft}
use Rattle.kdf_job.specs.declared.fault.JobError.{JobError}
use Rattle.kdf_job.specs.declared.fault.JobError.TheVariants as job_error
use Rattle.kdf_job.specs.declared.fault.JobFault.{JobFault}
use Rattle.kdf_job.specs.declared.line_error.LineError.{LineError}
use Rattle.kdf_job.specs.declared.line_error.LineError.TheVariants.{Fault, Memory}
use Rattle.kdf_job.specs.declared.line_place.LinePlace.{LinePlace}
use Rattle.kdf_job.specs.declared.line_place.LinePlace.TheVariants.{InSchedule}
use Rattle.kdf_job.specs.Draft.{ShownDraft}
use Rattle.kdf_job.specs.Forms.{Form}
use Rattle.kdf_job.specs.Kept.{IsKept}
use Rattle.kdf_job.specs.Lengths.{weight}
use Rattle.kdf_job.specs.More.{scheduled}
use Rattle.kdf_job.specs.Reading.{with_told}
use Rattle.kdf_job.specs.Shows.{shown_draft}

abbrev pub IsSound : Draft → Type 0
IsSound d = IsKept d.words d.numbers.items (shown_draft d)

-- the draft has what a line tells, and grows by so much at most
pub record Taken (told : Result Form JobFault) (room : ℕ) (old new : Draft) : Type 0 where
  pub is : with_told (shown_draft old) told ≡ Ok (shown_draft new)
  pub sound : IsSound new
  pub grown : weight (shown_draft new) ≤ weight (shown_draft old) + room

-- a line that tells this isn't taken
abbrev pub IsRefused : ShownDraft → Result Form JobFault → LineError → Type 0
IsRefused d told (Fault fault) = with_told d told ≡ Err fault
IsRefused d told Memory = Unit {0}

-- a line that tells this is taken, or has the fault
abbrev pub Takes : Result Form JobFault → ℕ → Draft → Draft → Result (Unit {0}) LineError → Type 0
Takes told room old new (Ok x) = Taken told room old new
Takes told room old new (Err error) = IsRefused (shown_draft old) told error

-- a line of a schedule that tells this is taken, and says where the next line stands; or it has the fault
abbrev pub TakesEvent : Result Form JobFault → List Event → List Event → Result LinePlace LineError → Type 0
TakesEvent told old new (Ok place) = with_told (scheduled InSchedule old) told ≡ Ok (scheduled place new)
TakesEvent told old new (Err error) = IsRefused (scheduled InSchedule old) told error

-- why there is no job, where this is why the line of this number isn't taken
abbrev pub at_number : ℕ → LineError → JobError
at_number number (Fault fault) = job_error.Fault fault number
at_number number Memory = job_error.Memory
