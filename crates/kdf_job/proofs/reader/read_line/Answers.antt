use Rattle.std.proofs.Common.{ℕ, ◌+◌, List, length, ap, arith}
use Rattle.kdf_job.specs.Shows.{shown_draft}
use Rattle.kdf_job.proofs.Passing.{passes, short_ahead, stops}
use Rattle.kdf_job.proofs.reader.read_line.Goals as goal

pub take_line-requires-clause-fits : goal.take_line-requires-clause-fits
take_line-requires-clause-fits c =
    let is = ap (λ (text : List ℕ). length text) c.take_line-line.ensures.text in
    let short = short_ahead c.args.lines.now in
    let fits = c.requires.fits in
    omega arith

pub returns-in-Ok-clause-pass : goal.returns-in-Ok-clause-pass
returns-in-Ok-clause-pass c =
    let at = c.take_line-line in
    passes c.args.lines.now at.new.self c.args.draft.now c.take_line.new.self at.result.text.now at.ensures.text c.requires.some at.ensures.rest
    at.ensures.next at.ensures.within
    c.requires.fits c.in-Ok.ensures

pub returns-in-Ok-clause-bytes : goal.returns-in-Ok-clause-bytes
returns-in-Ok-clause-bytes c = ap (λ (text : List ℕ). length text + 1) c.take_line-line.ensures.text

pub returns-in-Ok-clause-most : goal.returns-in-Ok-clause-most
returns-in-Ok-clause-most c =
    let is = ap (λ (text : List ℕ). length text) c.take_line-line.ensures.text in
    let short = short_ahead c.args.lines.now in
    omega arith

pub returns-in-Ok-clause-within : goal.returns-in-Ok-clause-within
returns-in-Ok-clause-within c = c.take_line-line.ensures.within

pub returns-in-Err-clause-stop : goal.returns-in-Err-clause-stop
returns-in-Err-clause-stop c =
    let at = c.take_line-line in
    let says = stops c.args.lines.now (shown_draft c.args.draft.now) at.result.text.now c.in-Err.error at.ensures.text c.in-Err.ensures in
    rw (c.at.ensures, at.ensures.number) says
