use Rattle.std.proofs.Common.{◌≡◌, ℕ, ◌<◌, true, eqb, length, None, Option, sym, subst, ◌∙◌, rules}
use Rattle.std.specs.Prelude.{IfErr, IfOk, OnOk}
use Rattle.std.proofs.lemmas.Result.{err_from_is_err_and}
use Rattle.kdf_job.specs.declared.fault.JobFault.{JobFault}
use Rattle.kdf_job.specs.Job.{ShownJob}
use Rattle.kdf_job.specs.Reading.{Says}
use Rattle.kdf_job.specs.Shows.{shown_draft, shown_job}
use Rattle.kdf_job.proofs.Passing.{fault_ends, job_ends, job_read, passed_fault, passed_job, stopped}
use Rattle.kdf_job.proofs.reader.read_job.Goals as goal

pub loop-lines-preserved : goal.loop-lines-preserved
loop-lines-preserved c =
    let here = c.loop-lines in
    let next = c.read_line.new in
    let pass = c.in_ok-read_line.ensures.pass in
    record {
      fault = here.invariant.fault ∙ passed_fault here.lines next.lines (shown_draft here.draft) (shown_draft next.draft) pass.reads;
      job = here.invariant.job ∙ passed_job here.lines next.lines (shown_draft here.draft) (shown_draft next.draft) pass.reads;
      sound = pass.sound;
      fits = pass.fits;
    }

pub returns-in_err-read_line-clause-fault : goal.returns-in_err-read_line-clause-fault
returns-in_err-read_line-clause-fault c =
    let p = err_from_is_err_and c.from_residual.result c.from_residual.ensures.1 in
    let here = c.loop-lines in
    let e = c.in_err-read_line.field-0.0 in
    let some : 0 < length here.lines.rest.now = search rules in
    let says = stopped here.lines (shown_draft here.draft) e some c.in_err-read_line.ensures.stop in
    rw (p.1, p.2) (subst (Says e) (sym (job_read c.args.bytes.now here.lines (shown_draft here.draft) here.invariant.fault)) says)

pub returns-clause-ok : goal.returns-clause-ok
returns-clause-ok c =
    let here = c.loop-lines in
    let none : eqb (length here.lines.rest.now) 0 ≡ true = search rules in
    subst (λ (o : Option (JobFault × ℕ)). OnOk c.finish.result (o ≡ None))
    (sym (fault_ends c.args.bytes.now here.lines (shown_draft here.draft) here.invariant.fault none)) c.finish.ensures.ok

pub returns-clause-fault : goal.returns-clause-fault
returns-clause-fault c =
    let here = c.loop-lines in
    let none : eqb (length here.lines.rest.now) 0 ≡ true = search rules in
    subst (λ (o : Option (JobFault × ℕ)). IfErr c.finish.result (λ e. Says e o))
    (sym (fault_ends c.args.bytes.now here.lines (shown_draft here.draft) here.invariant.fault none)) c.finish.ensures.fault

pub returns-clause-shown : goal.returns-clause-shown
returns-clause-shown c =
    let here = c.loop-lines in
    let none : eqb (length here.lines.rest.now) 0 ≡ true = search rules in
    subst (λ (x : ShownJob). IfOk c.finish.result (λ j. shown_job j ≡ x))
    (sym (job_ends c.args.bytes.now here.lines (shown_draft here.draft) here.invariant.job none)) c.finish.ensures.shown
