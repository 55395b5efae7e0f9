-- Further lines of a schedule, which stand after the events of a job.
use Rattle.std.specs.Prelude.{ℕ, List, [], ◌∷◌, ◌++◌, Option, Result, Ok, Err}
use Rattle.std.specs.List.{flat_map}
use Rattle.kdf_text.specs.Lines.{lines}
use Rattle.kdf_schedule.specs.declared.event.Event.{Event}
use Rattle.kdf_schedule.specs.declared.event.EventFault.{EventFault}
use Rattle.kdf_schedule.specs.Events.{event}
use Rattle.kdf_job.specs.declared.line_place.LinePlace.{LinePlace}
use Rattle.kdf_job.specs.declared.line_place.LinePlace.TheVariants.{InSchedule}
use Rattle.kdf_job.specs.declared.fault.JobFault.{JobFault}
use Rattle.kdf_job.specs.Draft.{ShownDraft, blank}
use Rattle.kdf_job.specs.Job.{ShownJob}
use Rattle.kdf_job.specs.Reading.{fault_from}

-- a draft that has these events; a line of a schedule asks for nothing else
abbrev pub scheduled : LinePlace → List Event → ShownDraft
scheduled place events = record blank { place = place; events = events }

-- the first faulty one of further lines, which are counted from number n, after these events
unfoldable pub more_fault : ℕ → List Event → List ℕ → Option (JobFault × ℕ)
more_fault n events bytes = fault_from n (scheduled InSchedule events) (lines bytes)

-- the event that a line tells, if it tells one
abbrev pub one_event : Result Event EventFault → List Event
one_event (Ok what) = what ∷ []
one_event (Err fault) = []

abbrev pub events_in : List (List ℕ) → List Event
events_in lines = flat_map (λ line. one_event (event line)) lines

-- the events of further lines
unfoldable pub more_events : List ℕ → List Event
more_events bytes = events_in (lines bytes)

-- the job with more events after its own
abbrev pub joined : ShownJob → List Event → ShownJob
joined j more = record j { events = j.events ++ more }
