use Rattle.std.proofs.Common.{ℕ, length, List, refl, sym, ap, subst, ◌∙◌, arith, rules}
use Rattle.std.proofs.lemmas.Result.{err_from_is_err_and}
use Rattle.kdf_text.specs.Ahead.{ahead}
use Rattle.kdf_text.specs.Text.{text}
use Rattle.kdf_job.specs.Draft.{ShownDraft, blank}
use Rattle.kdf_job.specs.Front.{lines_to_end}
use Rattle.kdf_job.specs.Lengths.{weight}
use Rattle.kdf_job.specs.Reading.{Says, draft_of, fault_from}
use Rattle.kdf_job.specs.Shows.{shown_draft}
use Rattle.kdf_job.proofs.Fronts.{front_begins, front_ends, front_fault_on, front_is_so_long, front_longer, front_read, front_stopped, front_tells}
use Rattle.kdf_job.proofs.Fronts.{front_told_on, none_to_end, some_to_end}
use Rattle.kdf_job.proofs.front.read_job_front.Goals as goal

pub loop-alloc-init : goal.loop-alloc-init
loop-alloc-init c =
    let at = c.new-lines.result in
    let d = c.new-draft.result in
    let begin = c.new-draft.ensures in
    let all = front_begins c.args.bytes.now (shown_draft d) at begin.shown c.new-lines.ensures.rest in
    let made = c.new-lines.ensures in
    record {
      fault = ap (fault_from 1 blank) all ∙ rw (made.number, begin.shown) refl;
      job = ap (draft_of blank) all ∙ ap (λ (x : ShownDraft). draft_of x (lines_to_end d.place (ahead at))) (sym begin.shown);
      offset = let e = ap (λ (ls : List (List ℕ)). length (text ls)) all in omega arith;
      most = omega arith;
      within = λ more. let l = ap (λ (bs : List ℕ). length bs) made.rest in omega arith;
      sound = begin.sound;
      fits = λ more. let l = ap (λ (bs : List ℕ). length bs) made.rest in let w = ap weight begin.shown in omega arith;
    }

pub loop-alloc-preserved : goal.loop-alloc-preserved
loop-alloc-preserved c =
    let here = c.loop-alloc in
    let next = c.read_line.new in
    let read = c.in_ok-length.ensures in
    let ahead = some_to_end here.lines here.draft.place c.goes_on.result c.goes_on.ensures (search rules) in
    let longer = front_longer here.lines next.lines (shown_draft here.draft) (shown_draft next.draft) ahead.1 read.pass.reads in
    let n = c.in_ok-length.ensures.bytes in
    let m = c.in_ok-length.ensures.most in
    let before = here.invariant.offset in
    let within = here.invariant.within ahead.0 in
    record {
      fault = here.invariant.fault ∙ front_fault_on here.lines next.lines (shown_draft here.draft) (shown_draft next.draft) ahead.1 read.pass.reads;
      job = here.invariant.job ∙ front_told_on here.lines next.lines (shown_draft here.draft) (shown_draft next.draft) ahead.1 read.pass.reads;
      offset = omega arith;
      most = omega arith;
      within = λ more. let w = c.in_ok-length.ensures.within more in omega arith;
      sound = read.pass.sound;
      fits = read.pass.fits;
    }

pub returns-in_err-length-clause-fault : goal.returns-in_err-length-clause-fault
returns-in_err-length-clause-fault c =
    let p = err_from_is_err_and c.from_residual.result c.from_residual.ensures.1 in
    let here = c.loop-alloc in
    let e = c.in_err-length.field-0.0 in
    let ahead = some_to_end here.lines here.draft.place c.goes_on.result c.goes_on.ensures (search rules) in
    let says = front_stopped here.lines (shown_draft here.draft) e ahead.1 ahead.0 c.in_err-length.ensures.stop in
    rw (p.1, p.2) (subst (Says e) (sym (front_read c.args.bytes.now here.lines (shown_draft here.draft) here.invariant.fault)) says)

pub returns-in_err-job-clause-fault : goal.returns-in_err-job-clause-fault
returns-in_err-job-clause-fault c =
    let p = err_from_is_err_and c.from_residual-in_err-job.result c.from_residual-in_err-job.ensures.1 in
    let here = c.loop-alloc in
    let e = c.in_err-job.field-0.0 in
    let over = none_to_end here.lines here.draft.place c.goes_on.result c.goes_on.ensures (search rules) in
    rw (p.1, p.2) (subst (Says e) (sym (front_ends c.args.bytes.now here.lines (shown_draft here.draft) here.invariant.fault over)) c.in_err-job.ensures.fault)

pub returns : goal.returns
returns c =
    let here = c.loop-alloc in
    let bytes = c.args.bytes.now in
    let over = none_to_end here.lines here.draft.place c.goes_on.result c.goes_on.ensures (search rules) in
    let done = c.in_ok-job.ensures in
    record {
      ok = front_ends bytes here.lines (shown_draft here.draft) here.invariant.fault over ∙ done.ok;
      fault = tt {0};
      shown = done.shown ∙ sym (front_tells bytes here.lines (shown_draft here.draft) here.invariant.job over);
      offset = c.min.ensures ∙ front_is_so_long bytes here.length here.lines here.draft.place here.invariant.offset over;
      within = let m = c.min.ensures in omega arith;
      well_formed = done.well_formed;
    }
