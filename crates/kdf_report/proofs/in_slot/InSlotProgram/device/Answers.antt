use Rattle.std.proofs.Common.{None, sym, ◌∙◌}
use Rattle.std.specs.Option.{option_copied}
use Rattle.kdf_job.specs.Shows.{shown_slot}
use Rattle.kdf_theory.specs.MachineView.{state_at, state_of}
use Rattle.kdf_theory.specs.Slots.{start_of}
use Rattle.kdf_report.proofs.Numbers.{any_number, device_there, no_device}
use Rattle.kdf_report.proofs.in_slot.InSlotProgram.device.Goals as goal

pub returns-then-has_device : goal.returns-then-has_device
returns-then-has_device c =
    let x = c.args.self.now in
    device_there (state_of x.machine.now x.slot.now.p) (shown_slot x.slot.now) (start_of None) c.args.d (option_copied c.device.result) x.there x.numbers
    c.requires
    (sym (any_number x.slot.now.devices.items c.args.d) ∙ sym c.has_device.ensures ∙ c.if-has_device.true) (c.device.ensures.own x.slot.now.p)

pub returns-else-has_device : goal.returns-else-has_device
returns-else-has_device c =
    let x = c.args.self.now in
    no_device (shown_slot x.slot.now) (state_at x.machine.now x.slot.now.p) c.args.d x.numbers c.requires
    (sym (any_number x.slot.now.devices.items c.args.d) ∙ sym c.has_device.ensures ∙ c.if-has_device.false)
