use Rattle.std.proofs.Common.{List, ℕ, [], refl, ap, ◌∙◌}
use Rattle.kdf_processor.specs.Lone.{lone}
use Rattle.kdf_processor.specs.State.{begin}
use Rattle.kdf_job.specs.Shows.{shown_slot}
use Rattle.kdf_job.specs.Slots.{slot_of}
use Rattle.kdf_report.specs.Text.{alone_text}
use Rattle.kdf_top.proofs.Loads.{same_state}
use Rattle.kdf_top.proofs.MadeTexts.{map_ok}
use Rattle.kdf_top.proofs.alone.run_slot.Goals as goal

pub obey-requires-clause-loaded : goal.obey-requires-clause-loaded
obey-requires-clause-loaded c =
    c.in_ok-program.ensures ∙ ap (λ (words : List ℕ). begin (slot_of (shown_slot c.args.slot.now) words)) c.requires.image

pub returns : goal.returns
returns c =
    let program = c.in_ok-program.program in
    let orders = c.orders_in-orders.result in
    let same = same_state (shown_slot c.args.slot.now) c.args.image.now.words.items c.args.events.now orders program (lone program [] orders)
    c.in_ok-program.ensures refl c.requires.image c.orders_in-orders.ensures in
    map_ok _ _ c.obey.result (λ text e. e ∙ ap (alone_text (shown_slot c.args.slot.now)) same) c.obey.ensures
