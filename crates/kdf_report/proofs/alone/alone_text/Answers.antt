use Rattle.std.proofs.Common.{◌∙◌, ap, vec_items}
use Rattle.kdf_job.specs.Shows.{shown_slot}
use Rattle.kdf_report.proofs.SectionTexts.{whole_text}
use Rattle.kdf_report.proofs.alone.alone_text.Goals as goal

pub returns : goal.returns
returns c =
    whole_text (shown_slot c.args.slot.now) c.args.program.now _ _ _ _ c.new-out.ensures.bytes
    c.in_ok-write_head.ensures c.in_ok-write_section.ensures (ap vec_items c.into_bytes.ensures.value ∙ c.in_ok-write_end.ensures)
