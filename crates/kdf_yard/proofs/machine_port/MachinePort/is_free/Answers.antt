use Rattle.std.proofs.Common.{get_or, map, false, ap₂, ◌∙◌}
use Rattle.std.specs.Prelude.{◌&&◌, not}
use Rattle.kdf_transfer.specs.Devices.{is_wanted}
use Rattle.kdf_places.specs.Spots.{spot_at, spot_of}
use Rattle.kdf_yard.specs.Fields.Parts.{numbers}
use Rattle.kdf_theory.specs.Loading.{owns}
use Rattle.kdf_yard.specs.Fields.MachinePort.{part_of, shared}
use Rattle.kdf_yard.proofs.Physical.PartsShow.{free_shown}
use Rattle.kdf_yard.proofs.Turns.TurnsKeep.{kept_in}
use Rattle.kdf_yard.proofs.machine_port.MachinePort.is_free.Goals as goal

pub returns : goal.returns
returns c =
    let t = c.args.self.now in
    c.is_free.ensures
    ∙ ap₂ (λ ds ps. owns (numbers ds) c.args.d
    && (not (get_or t.claimed.now c.args.d false) && is_wanted c.args.wanted.now (spot_at (map spot_of ps) c.args.d).fixture)) c.deref.ensures.value
    c.deref-2.ensures.value
    ∙ free_shown (part_of t) (shared t) c.args.d c.args.wanted.now (kept_in t) c.requires
