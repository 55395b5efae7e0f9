use Rattle.std.proofs.Common.{◌≡◌, map}
use Rattle.kdf_job.specs.Draft.{with_pool}
use Rattle.kdf_job.specs.Shows.{shown_slot}
use Rattle.kdf_job.proofs.draft.share.Given as goal

abbrev pub invariant-loop-slot : goal.invariant-loop-slot
invariant-loop-slot l = map shown_slot l.shared.items ≡ map (with_pool l.pool) (map shown_slot l.yielded)
