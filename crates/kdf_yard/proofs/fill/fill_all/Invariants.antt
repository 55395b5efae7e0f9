use Rattle.std.proofs.Common.{◌≡◌, drop, length, map}
use Rattle.kdf_yard.specs.Fields.Filled.{loaded, with_images}
use Rattle.kdf_yard.proofs.fill.fill_all.Given as goal
use Rattle.kdf_limits.specs.declared.store.TheConstants.{STORE_GROUPS}

abbrev pub invariant-loop-slot : goal.invariant-loop-slot
invariant-loop-slot l =
    record {
      images : with_images l.windows l.store (map loaded (drop l.slot-index l.slots)) ≡ with_images l.windows l.fn.store (map loaded l.slots);
      size : length l.store ≡ STORE_GROUPS;
    }
