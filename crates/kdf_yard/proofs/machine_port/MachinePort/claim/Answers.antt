use Rattle.std.proofs.Common.{true, ap, ◌∙◌, sym}
use Rattle.kdf_yard.specs.Fields.Parts.{in_pool}
use Rattle.kdf_yard.specs.Fields.MachinePort.{part_of, shared}
use Rattle.kdf_yard.proofs.Physical.PoolDevices.{active-marked}
use Rattle.kdf_yard.proofs.Physical.PartsShow.{free_owned}
use Rattle.kdf_yard.proofs.Turns.TurnsKeep.{kept_in, marked}
use Rattle.kdf_yard.proofs.machine_port.MachinePort.claim.Goals as goal

-- what is claimed is none of the pool
pub invariant_of-self-clause-active : goal.invariant_of-self-clause-active
invariant_of-self-clause-active c =
    let t = c.args.self.now in
    let d = c.in_ok-device.device in
    active-marked (marked t) c.from.result true
    (ap (in_pool (marked t)) c.from.ensures
    ∙ t.kept.apart d (free_owned (part_of t) (shared t) c.args.wanted.now d (kept_in t) c.in_ok-device.ensures.number (sym c.in_ok-device.ensures.least)))
    t.active
