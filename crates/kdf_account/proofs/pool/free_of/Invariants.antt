use Rattle.std.proofs.Common.{◌≡◌, take}
use Rattle.kdf_account.specs.Pools.{free_of}
use Rattle.kdf_account.proofs.pool.free_of.Given as goal

abbrev pub invariant-loop-device : goal.invariant-loop-device
invariant-loop-device l = l.free ≡ free_of (take l.device-index l.pool)
