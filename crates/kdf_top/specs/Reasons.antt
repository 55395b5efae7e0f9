-- Why a command makes nothing of its text, from the errors of what it calls.
use Rattle.kdf_job.specs.declared.fault.JobError.{JobError}
use Rattle.kdf_job.specs.declared.fault.JobError.TheVariants as job_error
use Rattle.kdf_snapshot.specs.declared.fault.SplitError.{SplitError}
use Rattle.kdf_snapshot.specs.declared.fault.SplitError.TheVariants as split_error
use Rattle.kdf_top.specs.declared.decks.DecksError.{DecksError}
use Rattle.kdf_top.specs.declared.decks.DecksError.TheVariants as decks_error
use Rattle.kdf_top.specs.declared.reason.MakeError.{MakeError}
use Rattle.kdf_top.specs.declared.reason.MakeError.TheVariants.{Refused, Memory}
use Rattle.kdf_top.specs.declared.status.Status.TheVariants as status

abbrev pub of_job : JobError → MakeError
of_job (job_error.Fault fault line) = Refused (status.Job fault line)
of_job job_error.Memory = Memory

abbrev pub of_decks : DecksError → MakeError
of_decks (decks_error.Fault slot fault place) = Refused (status.Deck slot fault place)
of_decks decks_error.Memory = Memory

abbrev pub of_split : SplitError → MakeError
of_split (split_error.Fault fault line) = Refused (status.Snapshot fault line)
of_split split_error.Memory = Memory
