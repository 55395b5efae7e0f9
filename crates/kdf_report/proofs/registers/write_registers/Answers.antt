use Rattle.std.proofs.lemmas.Result.{on_ok_weaker}
use Rattle.kdf_text.proofs.Texts.{text_more}
use Rattle.kdf_report.proofs.registers.write_registers.Goals as goal

pub returns : goal.returns
returns c =
    let places = text_more _ _ _ _ _ c.in_ok-write_life.ensures c.in_ok-write_place.ensures in
    let flags = text_more _ _ _ _ _ places c.in_ok-write_flags.ensures in
    let nest = text_more _ _ _ _ _ flags c.in_ok-write_nest.ensures in
    let links = text_more _ _ _ _ _ nest c.in_ok-write_links.ensures in
    on_ok_weaker _ (text_more _ _ _ _ _ links) c.write_q_stores.ensures
