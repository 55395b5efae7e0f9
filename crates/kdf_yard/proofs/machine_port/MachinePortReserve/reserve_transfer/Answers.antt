use Rattle.std.proofs.Common.{ap}
use Rattle.kdf_yard.specs.Fields.Shared.{is_taken_by, setting, view}
use Rattle.kdf_yard.specs.Fields.MachinePort.{held_in, part_of}
use Rattle.kdf_yard.proofs.Turns.TurnsShow.{share}
use Rattle.kdf_yard.proofs.machine_port.MachinePortReserve.reserve_transfer.Goals as goal

pub returns-clause-shows : goal.returns-clause-shows
returns-clause-shows c =
    let t = c.args.self.now in
    ap (λ spots. view (part_of t) (setting (is_taken_by t.claimed.now (held_in t)) t.moment) (share t.store.now spots)) c.make_ready_at.ensures.spots
