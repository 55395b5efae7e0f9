use Rattle.std.proofs.Common.{map, ap, ◌∙◌, sym, arith}
use Rattle.kdf_transfer.specs.Devices.{test_of}
use Rattle.kdf_places.specs.Spots.{spot_at, spot_of}
use Rattle.kdf_yard.specs.Fields.MachinePort.{part_of, shared}
use Rattle.kdf_transfer.proofs.Numbers.{limit_is}
use Rattle.kdf_yard.proofs.Physical.PartsShow.{claimed_has, claimed_small, own_device}
use Rattle.kdf_yard.proofs.Turns.TurnsKeep.{active_in}
use Rattle.kdf_yard.proofs.machine_port.MachinePortPort.test.Goals as goal

pub test_in-requires : goal.test_in-requires
test_in-requires c =
    let t = c.args.self.now in
    let small = claimed_small (part_of t) (shared t) c.args.device c.requires.claimed in
    omega (arith, limit_is, t.sixteen)

pub returns : goal.returns
returns c =
    let t = c.args.self.now in
    c.test_in.ensures
    ∙ ap (λ ps. test_of c.args.what (spot_at (map spot_of ps) c.args.device).progress) c.deref.ensures.value
    ∙ sym (ap (test_of c.args.what) (own_device (part_of t) 0 (shared t) c.args.device (claimed_small (part_of t) (shared t) c.args.device c.requires.claimed)
    (claimed_has (part_of t) (shared t) c.args.device (active_in t) c.requires.claimed)))
