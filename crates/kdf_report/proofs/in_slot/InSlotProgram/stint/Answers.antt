use Rattle.std.proofs.Common.{None}
use Rattle.kdf_theory.specs.MachineView.{state_of}
use Rattle.kdf_theory.specs.Slots.{start_of}
use Rattle.kdf_report.proofs.Numbers.{stint_there, stint_within}
use Rattle.kdf_report.proofs.in_slot.InSlotProgram.stint.Goals as goal

pub stint-requires : goal.stint-requires
stint-requires c =
    let x = c.args.self.now in
    stint_within (state_of x.machine.now x.slot.now.p) (start_of None) c.args.i x.there c.requires

pub returns : goal.returns
returns c =
    let x = c.args.self.now in
    stint_there (state_of x.machine.now x.slot.now.p) (start_of None) c.args.i c.stint.result.0 c.stint.result.1 c.stint.result.2.now x.there c.stint.ensures
