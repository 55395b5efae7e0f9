use Rattle.std.proofs.lemmas.Result.{on_ok_weaker}
use Rattle.kdf_text.proofs.Texts.{text_more}
use Rattle.kdf_report.proofs.devices.write_device.Goals as goal

pub returns : goal.returns
returns c = on_ok_weaker _ (text_more _ _ _ _ _ c.in_ok-write_line.ensures) c.write_blocks.ensures
