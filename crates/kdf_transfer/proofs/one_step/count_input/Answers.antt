use Rattle.std.proofs.Common.{◌∙◌, sym, take, arith, length-take}
use Rattle.std.proofs.lemmas.Option.{slice_get_within}
use Rattle.kdf_transfer.specs.AtOnce.{given}
use Rattle.kdf_transfer.specs.Devices.{fixture_of, progress_of}
use Rattle.kdf_transfer.proofs.Stopping.{count_none, count_last, count_more, count_end, cut_at, stopped-le}
use Rattle.kdf_transfer.proofs.one_step.count_input.Goals as goal

pub returns-then-is_last-clause-value : goal.returns-then-is_last-clause-value
returns-then-is_last-clause-value c =
    let g = given c.args.order (fixture_of c.args.device.now) (progress_of c.args.device.now) in
    sym
    (count_last c.args.order (take c.args.words g) c.loop-i.i c.in-Some.word (cut_at c.args.words c.loop-i.i g c.loop-i-test.true ∙ sym c.in-Some.ensures)
    (sym c.is_last.ensures ∙ c.if-is_last.true) c.loop-i.invariant)

pub returns-then-is_last-clause-given : goal.returns-then-is_last-clause-given
returns-then-is_last-clause-given c =
    let g = given c.args.order (fixture_of c.args.device.now) (progress_of c.args.device.now) in
    omega (arith, slice_get_within g c.loop-i.i c.in-Some.word (sym c.in-Some.ensures))

pub returns-in-None-clause-value : goal.returns-in-None-clause-value
returns-in-None-clause-value c =
    let g = given c.args.order (fixture_of c.args.device.now) (progress_of c.args.device.now) in
    sym (count_none c.args.order (take c.args.words g) c.loop-i.i (cut_at c.args.words c.loop-i.i g c.loop-i-test.true ∙ sym c.in-None.ensures)
    c.loop-i.invariant)

pub returns-in-None-clause-given : goal.returns-in-None-clause-given
returns-in-None-clause-given c =
    let g = given c.args.order (fixture_of c.args.device.now) (progress_of c.args.device.now) in
    let e = count_none c.args.order (take c.args.words g) c.loop-i.i (cut_at c.args.words c.loop-i.i g c.loop-i-test.true ∙ sym c.in-None.ensures)
    c.loop-i.invariant in
    omega (arith, e, stopped-le c.args.order (take c.args.words g), length-take c.args.words g)

pub returns-clause-value : goal.returns-clause-value
returns-clause-value c =
    let g = given c.args.order (fixture_of c.args.device.now) (progress_of c.args.device.now) in
    let e = count_end c.args.order (take c.args.words g) c.loop-i.i (omega (arith, length-take c.args.words g)) c.loop-i.invariant in
    omega (arith, e)

pub returns-clause-given : goal.returns-clause-given
returns-clause-given c =
    let g = given c.args.order (fixture_of c.args.device.now) (progress_of c.args.device.now) in
    let e = count_end c.args.order (take c.args.words g) c.loop-i.i (omega (arith, length-take c.args.words g)) c.loop-i.invariant in
    omega (arith, e, stopped-le c.args.order (take c.args.words g), length-take c.args.words g)

pub loop-i-preserved : goal.loop-i-preserved
loop-i-preserved c =
    let g = given c.args.order (fixture_of c.args.device.now) (progress_of c.args.device.now) in
    count_more c.args.order (take c.args.words g) c.loop-i.i c.in-Some.word (cut_at c.args.words c.loop-i.i g c.loop-i-test.true ∙ sym c.in-Some.ensures)
    (sym c.is_last.ensures ∙ c.if-is_last.false) c.loop-i.invariant
