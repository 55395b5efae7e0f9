use Rattle.std.proofs.Common.{ltb, get_or, map, cond, false, None, refl, ap, ap₂, ◌∙◌, sym}
use Rattle.std.specs.Prelude.{◌&&◌}
use Rattle.kdf_job.specs.Slots.{lent_kind}
use Rattle.kdf_processor.specs.State.{pooled_or}
use Rattle.kdf_yard.specs.Fields.Parts.{fixture_owned, numbers}
use Rattle.kdf_transfer.specs.Devices.{kind_in}
use Rattle.kdf_places.specs.Spots.{spot_of}
use Rattle.kdf_yard.specs.Fields.MachinePort.{part_of, shared}
use Rattle.kdf_yard.proofs.Physical.PartsShow.{claim_lent}
use Rattle.kdf_yard.proofs.machine_port.MachinePortPort.held.Goals as goal

pub returns-clause-kind : goal.returns-clause-kind
returns-clause-kind c =
    let t = c.args.self.now in
    c.kind_claimed.ensures.kind
    ∙ ap₂ (λ ds lent. cond (ltb c.args.device 16 && get_or t.claimed.now c.args.device false)
    (kind_in (pooled_or (lent_kind lent c.args.device) (fixture_owned (numbers ds) (map spot_of c.deref-3.result.now) c.args.device))) None)
    c.deref.ensures.value c.deref-2.ensures.value
    ∙ ap (λ ps. cond (ltb c.args.device 16 && get_or t.claimed.now c.args.device false)
    (kind_in (pooled_or (lent_kind t.slot.now.pool.items c.args.device) (fixture_owned (numbers t.slot.now.devices.items) (map spot_of ps) c.args.device)))
    None) c.deref-3.ensures.value
    ∙ sym (claim_lent (part_of t) (shared t) t.slot.now.pool.items c.args.device refl)
