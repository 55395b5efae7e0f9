use Rattle.std.proofs.Common.{◌≡◌, drop, map}
use Rattle.kdf_job.specs.Slots.{lent_kind}
use Rattle.kdf_yard.specs.Fields.Filled.{first_own, idle_spot, loaded, pool_in, pool_spot}
use Rattle.kdf_yard.proofs.load.idle_of.Given as goal

abbrev pub invariant-loop-slot : goal.invariant-loop-slot
invariant-loop-slot l =
    idle_spot (map loaded l.slots) l.d ≡ first_own (map loaded (drop l.slot-index l.slots)) l.d (pool_spot (lent_kind (pool_in (map loaded l.slots)) l.d))
