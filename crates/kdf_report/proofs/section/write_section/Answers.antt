use Rattle.std.proofs.lemmas.Result.{on_ok_weaker}
use Rattle.kdf_job.specs.Shows.{shown_slot}
use Rattle.kdf_report.proofs.SectionTexts.{section_text}
use Rattle.kdf_report.proofs.section.write_section.Goals as goal

pub write_shows-requires : goal.write_shows-requires
write_shows-requires g c = rw (c.deref.ensures.value, c.requires.size) c.requires.shows

pub returns : goal.returns
returns g c =
    on_ok_weaker c.write_stints.result
    (section_text (shown_slot c.args.slot.now) (g.P.Program.state c.args.program.now) _ _ _ _ _ _ _ _ _ _ c.requires.devices c.registers.ensures
    c.deref.ensures.value c.spooled.ensures
    c.in_ok-write_slot.ensures c.in_ok-write_registers.ensures c.in_ok-write_shows.ensures c.in_ok-write_spooled.ensures c.in_ok-write_devices.ensures)
    c.write_stints.ensures
