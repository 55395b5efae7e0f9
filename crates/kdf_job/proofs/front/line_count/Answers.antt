use Rattle.std.proofs.Common.{◌≡◌, ◌<◌, true, eqb, length, sym, ◌∙◌, arith, rules}
use Rattle.kdf_job.proofs.Passing.{counted, none_ahead, some_ahead}
use Rattle.kdf_job.proofs.front.line_count.Goals as goal

pub loop-lines-preserved : goal.loop-lines-preserved
loop-lines-preserved c =
    let some : 0 < length c.loop-lines.lines.rest.now = search rules in
    let at = c.take_line in
    let n = at.ensures.next (some_ahead c.loop-lines.lines.rest.now some) in
    record {
      all = sym (counted c.loop-lines.lines at.new.self some at.ensures.rest at.ensures.next) ∙ c.loop-lines.invariant.all;
      from = omega arith;
    }

pub returns : goal.returns
returns c =
    let here = c.loop-lines in
    let none : eqb (length here.lines.rest.now) 0 ≡ true = search rules in
    let n = none_ahead here.lines none in
    let all = here.invariant.all in
    let from = here.invariant.from in
    omega arith
