use Rattle.std.proofs.Common.{◌≡◌, drop}
use Rattle.kdf_usercode.specs.Faults.{lesser, least, founds}
use Rattle.kdf_usercode.specs.Range.{range_faults}
use Rattle.kdf_usercode.proofs.range.with_ranges.Given as goal

abbrev pub invariant-loop-i : goal.invariant-loop-i
invariant-loop-i l =
    lesser l.best (least (founds l.place (range_faults (drop l.i l.ranges) (drop l.i l.numbers)))) ≡ lesser l.fn.best
    (least (founds l.place (range_faults l.ranges l.numbers)))
