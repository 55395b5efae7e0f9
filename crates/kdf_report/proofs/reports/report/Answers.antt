use Rattle.std.proofs.Common.{◌∙◌, ap, vec_items, map}
use Rattle.kdf_theory.specs.MachineView.{state_at}
use Rattle.kdf_job.specs.Shows.{shown_job, shown_slot}
use Rattle.kdf_report.specs.MadeFrom.{HasProgram}
use Rattle.kdf_report.proofs.SectionTexts.{all_shown, report_whole}
use Rattle.kdf_report.proofs.reports.report.Goals as goal

pub write_sections-requires : goal.write_sections-requires
write_sections-requires c = rw c.deref.ensures.value (all_shown (HasProgram c.args.machine.now) c.args.job.now.slots.items c.requires)

pub returns : goal.returns
returns c =
    let m = c.args.machine.now in
    report_whole (shown_job c.args.job.now) m.journal (state_at m) _ _ _ _ _ _ _ c.new-out.ensures.bytes
    c.journal.ensures.entries (ap (map shown_slot) c.deref.ensures.value)
    c.in_ok-write_head.ensures c.in_ok-write_entries.ensures c.in_ok-write_sections.ensures
    (ap vec_items c.into_bytes.ensures.value ∙ c.in_ok-write_end.ensures)
