use Rattle.std.proofs.Common.{arith}
use Rattle.kdf_top.proofs.Schedules.{entries_bound}
use Rattle.kdf_trials.proofs.Tried.{keeps_limits}
use Rattle.kdf_trials.proofs.jobs.events_of.Goals as goal

pub returns-clause-limits : goal.returns-clause-limits
returns-clause-limits c = rw c.deref.ensures.value (keeps_limits c.args.job.now.events.items c.requires.schedule)

pub returns-clause-entries : goal.returns-clause-entries
returns-clause-entries c = rw c.deref.ensures.value (omega (arith, entries_bound c.args.job.now.events.items))
