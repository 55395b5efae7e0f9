use Rattle.std.proofs.Common.{subst, sym}
use Rattle.kdf_transfer.specs.InFlight.{Covers}
use Rattle.kdf_places.proofs.TransfersBegin.{start_covers}
use Rattle.kdf_places.proofs.starting.begin_in.Goals as goal

pub begin-transfer-requires-clause-area : goal.begin-transfer-requires-clause-area
begin-transfer-requires-clause-area c = λ has.
    subst (λ l. Covers l c.args.start.area.first c.args.start.area.last) (sym c.take_lease-lease.ensures.lease)
    (start_covers c.args.start.order c.args.start.area.first c.args.start.area.last c.args.store.now has (c.requires.area has))
