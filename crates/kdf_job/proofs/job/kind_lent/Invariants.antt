use Rattle.std.proofs.Common.{◌≡◌, drop}
use Rattle.kdf_job.specs.Slots.{lent_kind}
use Rattle.kdf_job.proofs.job.kind_lent.Given as goal

abbrev pub invariant-loop-device : goal.invariant-loop-device
invariant-loop-device l = lent_kind l.pool l.d ≡ lent_kind (drop l.device-index l.pool) l.d
