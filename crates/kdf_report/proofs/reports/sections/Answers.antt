use Rattle.kdf_report.specs.MadeFrom.{HasProgram}
use Rattle.kdf_report.proofs.SectionTexts.{all_shown}
use Rattle.kdf_report.proofs.reports.sections.Goals as goal

pub write_sections-requires : goal.write_sections-requires
write_sections-requires c = rw c.deref.ensures.value (all_shown (HasProgram c.args.machine.now) c.args.job.now.slots.items c.requires)
