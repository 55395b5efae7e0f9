use Rattle.std.proofs.Common.{◌≡◌, ◌++◌, length}
use Rattle.kdf_text.specs.Ahead.{ahead}
use Rattle.kdf_job.specs.declared.line_place.LinePlace.TheVariants.{InSchedule}
use Rattle.kdf_job.specs.More.{events_in, scheduled}
use Rattle.kdf_job.specs.Reading.{fault_from}
use Rattle.kdf_job.specs.WellFormed.{IsSchedule}
use Rattle.kdf_job.proofs.ScheduleLines.{IsInSchedule}
use Rattle.kdf_job.proofs.more.read_to_end.Given as goal

abbrev pub invariant-loop-place : goal.invariant-loop-place
invariant-loop-place l = record {
  fault : fault_from l.fn.lines.number (scheduled InSchedule l.fn.schedule.events.items) (ahead l.fn.lines) ≡ fault_from l.lines.number
      (scheduled l.place l.schedule.events.items) (ahead l.lines);
  events : l.fn.schedule.events.items ++ events_in (ahead l.fn.lines) ≡ l.schedule.events.items ++ events_in (ahead l.lines);
  stands : IsInSchedule l.place;
  sound : IsSchedule l.schedule.events.items;
}

abbrev pub decreases-loop-place : goal.decreases-loop-place
decreases-loop-place l = length l.lines.rest.now
