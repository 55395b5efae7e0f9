use Rattle.std.proofs.Common.{◌≡◌, ◌≢◌, true, false, eqb, length, arith, rules, sym}
use Rattle.kdf_text.proofs.Cutting.{no-lines}
use Rattle.kdf_top.proofs.Lines.{differ, more_lines, one_more, other_lines, same}
use Rattle.kdf_top.proofs.differing.first_other_line.Goals as goal

pub returns-then-is_empty-clause-some : goal.returns-then-is_empty-clause-some
returns-then-is_empty-clause-some c =
    let here = c.loop-rest in
    let some : eqb (length here.rest.now) 0 ≡ false = search rules in
    let none : eqb (length here.other_rest.now) 0 ≡ true = search rules in
    differ _ _ _ _ _ here.invariant.so_far (more_lines here.rest.now here.other_rest.now some none)

pub returns-then-not-is_same-clause-some : goal.returns-then-not-is_same-clause-some
returns-then-not-is_same-clause-some c =
    let here = c.loop-rest in
    let apart : c.first_line.result.0.now ≢ c.first_line-in-loop-rest.result.0.now = search rules in
    differ _ _ _ _ _ here.invariant.so_far (other_lines _ _ _ _ _ _ apart c.first_line.ensures.lines c.first_line-in-loop-rest.ensures.lines)

pub loop-rest-preserved : goal.loop-rest-preserved
loop-rest-preserved c =
    let here = c.loop-rest in
    let same : c.first_line.result.0.now ≡ c.first_line-in-loop-rest.result.0.now = search rules in
    record {
      so_far = one_more _ _ _ _ _ here.invariant.so_far _ _ _ c.first_line.ensures.lines (rw same c.first_line-in-loop-rest.ensures.lines);
      within = omega (arith, here.invariant.within, c.first_line.ensures.shorter);
    }

pub returns-then-is_empty-2-clause-none : goal.returns-then-is_empty-2-clause-none
returns-then-is_empty-2-clause-none c =
    let here = c.loop-rest in
    let none : eqb (length here.rest.now) 0 ≡ true = search rules in
    let none' : eqb (length here.other_rest.now) 0 ≡ true = search rules in
    same _ _ _ _ _ here.invariant.so_far (no-lines here.rest.now none) (no-lines here.other_rest.now none')

pub returns-else-is_empty-2-clause-some : goal.returns-else-is_empty-2-clause-some
returns-else-is_empty-2-clause-some c =
    let here = c.loop-rest in
    let none : eqb (length here.rest.now) 0 ≡ true = search rules in
    let some : eqb (length here.other_rest.now) 0 ≡ false = search rules in
    differ _ _ _ _ _ here.invariant.so_far (λ e. more_lines here.other_rest.now here.rest.now some none (sym e))
