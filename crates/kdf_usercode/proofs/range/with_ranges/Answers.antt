use Rattle.std.proofs.Common.{◌∙◌}
use Rattle.kdf_usercode.proofs.Ranges.{ranges-step}
use Rattle.kdf_usercode.proofs.range.with_ranges.Goals as goal

pub loop-i-preserved : goal.loop-i-preserved
loop-i-preserved c = ranges-step c.loop-i.best c.with_range-best.result c.args.place c.loop-i.i c.number.result c.args.ranges.now c.args.numbers.now _
    c.loop-i-test.true c.number.ensures c.with_range-best.ensures ∙ c.loop-i.invariant
