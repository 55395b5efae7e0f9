use Rattle.std.proofs.Common.{◌∙◌, ap, vec_items, map}
use Rattle.kdf_theory.specs.MachineView.{state_at}
use Rattle.kdf_job.specs.Shows.{shown_job, shown_slot}
use Rattle.kdf_job.specs.WellFormed.{IsSlot}
use Rattle.kdf_report.specs.MadeFrom.{HasProgram}
use Rattle.kdf_report.proofs.SectionTexts.{all_shown}
use Rattle.kdf_report.proofs.SummaryTexts.{summary_whole}
use Rattle.kdf_report.proofs.summaries.summary.Goals as goal

pub write_slots-requires-clause-slots : goal.write_slots-requires-clause-slots
write_slots-requires-clause-slots c = rw c.deref.ensures.value (all_shown IsSlot c.args.job.now.slots.items c.requires.slots)

pub write_slots-requires-clause-programs : goal.write_slots-requires-clause-programs
write_slots-requires-clause-programs c = rw c.deref.ensures.value (all_shown (HasProgram c.args.machine.now) c.args.job.now.slots.items c.requires.programs)

pub returns : goal.returns
returns c =
    let m = c.args.machine.now in
    summary_whole c.args.n c.args.bytes (shown_job c.args.job.now) m.journal (state_at m) _ _ _ _ _ _ c.new-out.ensures.bytes
    c.journal.ensures.entries (ap (map shown_slot) c.deref.ensures.value)
    c.in_ok-write_head.ensures c.in_ok-write_slots.ensures
    (ap vec_items c.into_bytes.ensures.value ∙ c.in_ok-write_end.ensures)
