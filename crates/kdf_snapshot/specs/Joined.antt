-- A job whose schedule goes on, and the journal of a job with a service, of which `answers n a` says that a is one of its answers to n.
use Rattle.std.specs.Prelude.{ℕ, List, ◌++◌}
use Rattle.kdf_schedule.specs.declared.event.Event.{Event}
use Rattle.kdf_journal.specs.declared.entry.Entry.{Entry}
use Rattle.kdf_job.specs.Job.{ShownJob}
use Rattle.kdf_theory.specs.Loading.{slots_of}
use Rattle.kdf_theory.specs.Served.{IsJournalFor}

-- the job whose schedule is that of the front job, and these events after it
abbrev pub joined : ShownJob → List Event → ShownJob
joined front further = record front { events = front.events ++ further }

-- the journal is that of a job, its decks having these images
abbrev pub IsJournalOf : (answers : ℕ → ℕ → Type 0) → ShownJob → List (List ℕ) → List Entry → Type 0
IsJournalOf answers job images J = IsJournalFor answers (slots_of job.slots images) job.events J
