use Rattle.std.proofs.Common.{None}
use Rattle.kdf_theory.specs.MachineView.{state_of}
use Rattle.kdf_theory.specs.Slots.{start_of}
use Rattle.kdf_report.proofs.Numbers.{claimed_there}
use Rattle.kdf_report.proofs.in_slot.InSlotProgram.claimed.Goals as goal

pub returns : goal.returns
returns c =
    let x = c.args.self.now in
    claimed_there (state_of x.machine.now x.slot.now.p) (start_of None) c.args.d c.claimed.result x.there c.requires
    (c.claimed.ensures.own x.slot.now.p)
