use Rattle.std.proofs.Common.{map, ap}
use Rattle.kdf_job.specs.Shows.{shown_slot}
use Rattle.kdf_job.proofs.SharedPools.{shared_more}
use Rattle.kdf_job.proofs.draft.share.Goals as goal

pub loop-slot-init : goal.loop-slot-init
loop-slot-init c = ap (map shown_slot) c.new-shared.ensures.items

pub loop-slot-preserved : goal.loop-slot-preserved
loop-slot-preserved c =
    let here = c.loop-slot in
    shared_more c.args.pool.now here.yielded c.in-Some.slot here.shared.items c.in_ok-with_pool.field-0 _ here.invariant c.in_ok-with_pool.ensures
    c.in_ok-push.ensures.items
