use Rattle.std.proofs.Common.{[], ap, ◌∙◌}
use Rattle.kdf_job.specs.Shows.{shown_slot}
use Rattle.kdf_place.specs.Assembled.{image_words}
use Rattle.kdf_report.specs.Text.{alone_text}
use Rattle.kdf_report.proofs.Loaded.{ran_from}
use Rattle.kdf_top.proofs.MadeTexts.{map_ok}
use Rattle.kdf_top.proofs.alone.obey.Goals as goal

pub alone_text-requires : goal.alone_text-requires
alone_text-requires c =
    let slot = c.args.slot.now in
    ran_from (shown_slot slot) (image_words slot.size slot.deck.items) [] c.args.orders c.args.program.now c.orders.new.self c.requires.slot c.requires.loaded
    c.in_ok-orders.ensures

pub returns : goal.returns
returns c =
    map_ok _ _ c.alone_text.result (λ text e. e ∙ ap (alone_text (shown_slot c.args.slot.now)) c.in_ok-orders.ensures) c.alone_text.ensures
