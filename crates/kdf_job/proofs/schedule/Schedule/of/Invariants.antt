use Rattle.std.proofs.Common.{◌≡◌, ◌++◌, drop}
use Rattle.kdf_job.proofs.schedule.Schedule.of.Given as goal

abbrev pub invariant-loop-event : goal.invariant-loop-event
invariant-loop-event l = l.schedule.events.items ++ drop l.event-index l.events ≡ l.events
