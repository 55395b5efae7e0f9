use Rattle.std.proofs.Common.{arith}
use Rattle.kdf_top.proofs.Schedules.{entries_bound, rises}
use Rattle.kdf_facts.proofs.running.stops_of.Goals as goal

pub stops_at-stops-requires-clause-room : goal.stops_at-stops-requires-clause-room
stops_at-stops-requires-clause-room g c =
    let bound = entries_bound c.args.job.now.events.items in
    let room = c.in_ok-machine.ensures.room in
    rw c.deref.ensures.value (omega arith)

pub stops_at-stops-requires-clause-rises : goal.stops_at-stops-requires-clause-rises
stops_at-stops-requires-clause-rises g c =
    rw c.deref.ensures.value (rises 0 c.args.job.now.events.items c.requires.job.schedule.rising c.requires.job.schedule.each)

pub stops_at-stops-requires-clause-in_range : goal.stops_at-stops-requires-clause-in_range
stops_at-stops-requires-clause-in_range g c = rw c.deref.ensures.value c.requires.job.schedule.each
