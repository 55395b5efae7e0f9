use Rattle.std.proofs.Common.{ap, ap₂, ◌∙◌}
use Rattle.kdf_processor.specs.Ahead.{act_word}
use Rattle.kdf_processor.specs.Outcome.{outcome}
use Rattle.kdf_alone.specs.LonePort.{stock_of}
use Rattle.kdf_check.specs.Around.{around_by}
use Rattle.kdf_check.specs.CheckPort.{shown_by}
use Rattle.kdf_check.proofs.turns.word_asked.Goals as goal

pub returns-clause-asked : goal.returns-clause-asked
returns-clause-asked c =
    let r = c.args.registers.now in
    let desk = c.new-desk.result in
    let made = c.new-desk.ensures in
    let t = c.args.table.now.places in
    let J = c.args.journal.now.entries in
    c.asks_ahead.ensures
    ∙ ap₂ (λ p a. act_word (outcome (shown_by p a (stock_of desk.bench.now)) r).act) made.p
    (made.around ∙ ap (around_by t J) c.default.ensures)
    ∙ ap (λ b. act_word (outcome (shown_by c.args.p (around_by t J 0) (stock_of b)) r).act) made.bench
