use Rattle.std.proofs.Common.{◌≡◌, ◌<◌, true, false, length, rules, arith}
use Rattle.kdf_text.specs.Lines.{is_text}
use Rattle.kdf_snapshot.specs.Snapshot.{end_line}
use Rattle.kdf_snapshot.proofs.Sealed.{all-passed, end-passed, line-passed, none-passed}
use Rattle.std.proofs.lemmas.Bool.Decides.{nat_tests}
use Rattle.kdf_snapshot.proofs.parts.pass_sealed.Goals as goal

pub loop-offset-init : goal.loop-offset-init
loop-offset-init c = none-passed c.args.at.now

pub returns-then-eq-clause-some : goal.returns-then-eq-clause-some
returns-then-eq-clause-some c =
    let some : 0 < length c.loop-offset.at.lines.rest.now = grind (arith, nat_tests) in
    let is : is_text end_line c.take_line.result.now ≡ true = search rules in
    end-passed c.args.at.now c.loop-offset.at c.take_line.new.self c.take_line.result.now c.loop-offset.invariant some c.take_line.ensures.passed
    c.take_line.ensures.text is

pub loop-offset-preserved : goal.loop-offset-preserved
loop-offset-preserved c =
    let some : 0 < length c.loop-offset.at.lines.rest.now = grind (arith, nat_tests) in
    let isnt : is_text end_line c.take_line.result.now ≡ false = search rules in
    line-passed c.args.at.now c.loop-offset.at c.take_line.new.self c.take_line.result.now c.loop-offset.invariant some c.take_line.ensures.passed
    c.take_line.ensures.text isnt

pub returns-clause-none : goal.returns-clause-none
returns-clause-none c =
    all-passed c.args.at.now c.loop-offset.at c.loop-offset.invariant (search rules)
