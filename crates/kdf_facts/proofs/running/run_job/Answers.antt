use Rattle.std.proofs.Common.{arith}
use Rattle.kdf_top.proofs.Schedules.{entries_bound, rises}
use Rattle.kdf_facts.proofs.running.run_job.Goals as goal

pub follow_noting-requires-clause-room : goal.follow_noting-requires-clause-room
follow_noting-requires-clause-room g c =
    let bound = entries_bound c.args.job.now.events.items in
    let room = c.in_ok-machine.ensures.room in
    rw c.deref.ensures.value (omega arith)

pub follow_noting-requires-clause-rises : goal.follow_noting-requires-clause-rises
follow_noting-requires-clause-rises g c =
    rw c.deref.ensures.value (rises 0 c.args.job.now.events.items c.requires.job.schedule.rising c.requires.job.schedule.each)

pub follow_noting-requires-clause-in_range : goal.follow_noting-requires-clause-in_range
follow_noting-requires-clause-in_range g c = rw c.deref.ensures.value c.requires.job.schedule.each

pub returns-in-Ok-clause-journal : goal.returns-in-Ok-clause-journal
returns-in-Ok-clause-journal g c = rw c.deref.ensures.value at c.in-Ok.ensures.journal
