use Rattle.std.proofs.Common.{[], ap₂, ◌∙◌}
use Rattle.kdf_processor.specs.Ahead.{act_word}
use Rattle.kdf_processor.specs.Outcome.{outcome}
use Rattle.kdf_relocate.specs.declared.window.Window.{Window}
use Rattle.kdf_theory.specs.Holders.{held_by}
use Rattle.kdf_yard.specs.Fields.Parts.{part_with, window_at}
use Rattle.kdf_yard.specs.Fields.Shared.{is_taken_by, moment, setting, view}
use Rattle.kdf_places.specs.Shared.{shared_in}
use Rattle.kdf_yard.proofs.Turns.WordsAlike.{word_alike}
use Rattle.kdf_yard.proofs.hearing.word_asked.Goals as goal

pub returns-clause-asked : goal.returns-clause-asked
returns-clause-asked c =
    let x = c.args.program.now in
    let slot = c.args.stand.now.slot.now in
    let s = shared_in c.args.store.now c.args.places.now.items in
    let held = held_by c.args.journal.now.entries in
    c.asks_ahead.ensures
    ∙ ap₂ (λ (w : Window) h. act_word (outcome
    (view (part_with x.p w slot x.claimed x.spooled.items x.stints.items) (setting (is_taken_by x.claimed held) (moment 0 h)) s) x.registers).act)
    c.window_of.ensures c.default.ensures
    ∙ word_alike (part_with x.p (window_at c.args.stand.now.windows.now slot.p) slot x.claimed x.spooled.items x.stints.items)
    (setting (is_taken_by x.claimed held) (moment 0 0)) (setting (is_taken_by x.claimed (held_by [])) (moment 0 0)) s x.registers
