use Rattle.std.proofs.Common.{map, take}
use Rattle.kdf_theory.specs.MachineView.{state_at}
use Rattle.kdf_job.specs.Shows.{shown_slot}
use Rattle.kdf_text.specs.Text.{Adds}
use Rattle.kdf_report.specs.Summary.{program_line}
use Rattle.kdf_report.proofs.summaries.write_slots.Given as goal

abbrev pub invariant-loop-slot : goal.invariant-loop-slot
invariant-loop-slot l =
    Adds l.initial.out l.out (map (λ slot. program_line slot.p (state_at l.machine slot.p)) (map shown_slot (take l.slot-index l.slots)))
