use Rattle.std.proofs.Common.{ℕ, ◌++◌, List, sym, ap, subst, ◌∙◌, append-nil, rules}
use Rattle.std.proofs.lemmas.Result.{err_from_is_err_and}
use Rattle.kdf_text.specs.Ahead.{ahead}
use Rattle.kdf_job.specs.declared.line_place.LinePlace.{LinePlace}
use Rattle.kdf_job.specs.declared.line_place.LinePlace.TheVariants.{InSchedule}
use Rattle.kdf_job.specs.More.{events_in, scheduled}
use Rattle.kdf_job.specs.Reading.{Says, fault_from}
use Rattle.kdf_job.proofs.Fronts.{some_to_end}
use Rattle.kdf_job.proofs.Passing.{passed_fault, stopped}
use Rattle.kdf_job.proofs.ScheduleLines.{events_on, in_schedule, not_over, over, read_goes}
use Rattle.kdf_job.proofs.more.read_to_end.Goals as goal

pub loop-place-preserved : goal.loop-place-preserved
loop-place-preserved c =
    let here = c.loop-place in
    let next = c.read_schedule_line.new in
    let es = here.schedule.events.items in
    let more = next.schedule.events.items in
    let place = c.in_ok-place.place in
    let read = c.in_ok-place.ensures in
    let some = some_to_end here.lines here.place c.goes_on.result c.goes_on.ensures (search rules) in
    let at = in_schedule here.place here.invariant.stands some.1 in
    record {
      fault = here.invariant.fault
          ∙ ap (λ (x : LinePlace). fault_from here.lines.number (scheduled x es) (ahead here.lines)) at
          ∙ passed_fault here.lines next.lines (scheduled InSchedule es) (scheduled place more) read.reads;
      events = here.invariant.events ∙ events_on here.lines next.lines es more place read.reads;
      stands = (read_goes es more place _ read.reads.read).stands;
      sound = read.sound;
    }

pub returns-in_err-place-clause-fault : goal.returns-in_err-place-clause-fault
returns-in_err-place-clause-fault c =
    let p = err_from_is_err_and c.from_residual.result c.from_residual.ensures.1 in
    let here = c.loop-place in
    let e = c.in_err-place.field-0.0 in
    let es = here.schedule.events.items in
    let some = some_to_end here.lines here.place c.goes_on.result c.goes_on.ensures (search rules) in
    let at = in_schedule here.place here.invariant.stands some.1 in
    let says = stopped here.lines (scheduled InSchedule es) e some.0 c.in_err-place.ensures.stop in
    let all = here.invariant.fault ∙ ap (λ (x : LinePlace). fault_from here.lines.number (scheduled x es) (ahead here.lines)) at in
    rw (p.1, p.2) (subst (Says e) (sym all) says)

pub returns-then-is_over-clause-ok : goal.returns-then-is_over-clause-ok
returns-then-is_over-clause-ok c =
    let here = c.loop-place in
    here.invariant.fault ∙ (over here.lines here.place here.schedule.events.items c.is_over.result c.is_over.ensures (search rules)).0

pub returns-then-is_over-clause-events : goal.returns-then-is_over-clause-events
returns-then-is_over-clause-events c =
    let here = c.loop-place in
    let es = here.schedule.events.items in
    let none = (over here.lines here.place es c.is_over.result c.is_over.ensures (search rules)).1 in
    sym (here.invariant.events ∙ ap (λ (ls : List (List ℕ)). es ++ events_in ls) none ∙ append-nil es)

pub returns-else-is_over-clause-fault : goal.returns-else-is_over-clause-fault
returns-else-is_over-clause-fault c =
    let here = c.loop-place in
    here.invariant.fault
    ∙ not_over here.lines here.place here.schedule.events.items c.is_over.result c.goes_on.result here.invariant.stands c.goes_on.ensures
    (search rules) c.is_over.ensures (search rules)
