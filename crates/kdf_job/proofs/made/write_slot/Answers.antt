use Rattle.kdf_text.proofs.Texts.{text_more}
use Rattle.kdf_job.proofs.MadeTexts.{slot_ends}
use Rattle.kdf_job.proofs.made.write_slot.Goals as goal

pub returns-clause-lines : goal.returns-clause-lines
returns-clause-lines c =
    let deck = text_more _ _ _ _ _ c.in_ok-write_slot_number.ensures c.in_ok-write_deck.ensures in
    let device = text_more _ _ _ _ _ deck c.in_ok-write_device.ensures in
    let reader = text_more _ _ _ _ _ device c.in_ok-write_reader.ensures.lines in
    let punch = text_more _ _ _ _ _ reader c.in_ok-write_device-2.ensures in
    slot_ends c.args.p _ _ _ _ _ punch c.write_line.ensures
