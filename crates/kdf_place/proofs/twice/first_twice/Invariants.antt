use Rattle.std.proofs.Common.{◌≡◌, take, drop, []}
use Rattle.kdf_usercode.specs.Faults.{lesser, least}
use Rattle.kdf_place.specs.Late.{twice}
use Rattle.kdf_place.proofs.twice.first_twice.Given as goal

abbrev pub invariant-loop-i : goal.invariant-loop-i
invariant-loop-i g l =
    lesser l.best (least (twice l.fault (take l.i l.entries) (drop l.i l.entries))) ≡ least (twice l.fault [] l.entries)
