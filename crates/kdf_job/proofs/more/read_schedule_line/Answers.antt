use Rattle.kdf_job.specs.declared.line_place.LinePlace.TheVariants.{InSchedule}
use Rattle.kdf_job.specs.More.{scheduled}
use Rattle.kdf_job.proofs.Passing.{reads, stops}
use Rattle.kdf_job.proofs.more.read_schedule_line.Goals as goal

pub returns-in-Ok-clause-reads : goal.returns-in-Ok-clause-reads
returns-in-Ok-clause-reads c =
    let at = c.take_line-line in
    let before = scheduled InSchedule c.args.schedule.now.events.items in
    let after = scheduled c.in-Ok.place c.take_line.new.self.events.items in
    reads c.args.lines.now at.new.self before after at.result.text.now at.ensures.text c.requires.some at.ensures.rest at.ensures.next c.in-Ok.ensures.taken

pub returns-in-Err-clause-stop : goal.returns-in-Err-clause-stop
returns-in-Err-clause-stop c =
    let at = c.take_line-line in
    let before = scheduled InSchedule c.args.schedule.now.events.items in
    let says = stops c.args.lines.now before at.result.text.now c.in-Err.error at.ensures.text c.in-Err.ensures.taken in
    rw (c.at.ensures, at.ensures.number) says
