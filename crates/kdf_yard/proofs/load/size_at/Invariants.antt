use Rattle.std.proofs.Common.{◌≡◌, map, drop}
use Rattle.kdf_yard.specs.Fields.Filled.{loaded, size_at}
use Rattle.kdf_yard.proofs.load.size_at.Given as goal

abbrev pub invariant-loop-slot : goal.invariant-loop-slot
invariant-loop-slot l =
    size_at (map loaded l.slots) l.p ≡ size_at (map loaded (drop l.slot-index l.slots)) l.p
