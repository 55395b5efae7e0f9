use Rattle.std.proofs.Common.{get_or, false, refl, ap, ◌∙◌}
use Rattle.std.specs.Prelude.{◌&&◌, not}
use Rattle.kdf_job.specs.Slots.{lent_kind}
use Rattle.kdf_transfer.specs.Devices.{is_kind}
use Rattle.kdf_yard.specs.Fields.MachinePort.{part_of, shared}
use Rattle.kdf_yard.proofs.Physical.FreeDevices.{take_by}
use Rattle.kdf_yard.proofs.machine_port.MachinePort.can_take.Goals as goal

pub returns : goal.returns
returns c =
    let t = c.args.self.now in
    c.may_be_taken.ensures
    ∙ ap (λ ps. is_kind c.args.kind (lent_kind ps c.args.d) && not (get_or t.claimed.now c.args.d false)) c.deref.ensures.value
    ∙ take_by (part_of t) (shared t) t.slot.now.pool.items c.args.kind c.args.d refl c.requires
