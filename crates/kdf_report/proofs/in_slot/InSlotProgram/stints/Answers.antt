use Rattle.std.proofs.Common.{None}
use Rattle.kdf_theory.specs.MachineView.{state_of}
use Rattle.kdf_theory.specs.Slots.{start_of}
use Rattle.kdf_report.proofs.Numbers.{stints_there}
use Rattle.kdf_report.proofs.in_slot.InSlotProgram.stints.Goals as goal

pub returns : goal.returns
returns c =
    let x = c.args.self.now in
    stints_there (state_of x.machine.now x.slot.now.p) (start_of None) c.stints.result x.there c.stints.ensures
