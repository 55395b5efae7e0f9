use Rattle.std.specs.Prelude.{not}
use Rattle.std.proofs.Common.{ℕ, Option, refl, sym, ap, ◌∙◌, subst}
use Rattle.kdf_processor.specs.Ahead.{act_word}
use Rattle.kdf_processor.specs.Outcome.{outcome}
use Rattle.kdf_processor.proofs.Words.{untold_word}
use Rattle.kdf_alone.specs.LonePort.{stock_of}
use Rattle.kdf_theory.specs.Asked.{HasAsked}
use Rattle.kdf_theory.proofs.Course.HeardWords.{has_none, none_if}
use Rattle.kdf_check.specs.Around.{around_by}
use Rattle.kdf_check.specs.CheckPort.{shown_by}
use Rattle.kdf_check.proofs.turns.answer_if_asked.Goals as goal

pub returns-in_err-word-clause-asked : goal.returns-in_err-word-clause-asked
returns-in_err-word-clause-asked g c =
    let v = shown_by c.args.p (around_by c.args.table.now.places c.args.journal.now.entries 0) (stock_of c.args.bench.now) in
    let w = act_word (outcome v c.args.registers.now).act in
    subst (λ (o : Option ℕ). HasAsked (λ n a. goal.F-post g c.args.service.now n a) w o) (sym c.from_residual.ensures)
    (has_none (λ n a. goal.F-post g c.args.service.now n a) w (sym c.word_asked.ensures.asked ∙ c.in_err-word.was))

pub returns-then-is_none-clause-bench : goal.returns-then-is_none-clause-bench
returns-then-is_none-clause-bench g c = refl

pub returns-then-is_none-clause-table : goal.returns-then-is_none-clause-table
returns-then-is_none-clause-table g c = refl

pub returns-in_err-word-clause-bench : goal.returns-in_err-word-clause-bench
returns-in_err-word-clause-bench g c = c.word_asked.ensures.bench

pub returns-in_err-word-clause-table : goal.returns-in_err-word-clause-table
returns-in_err-word-clause-table g c = c.word_asked.ensures.table

pub returns-clause-bench : goal.returns-clause-bench
returns-clause-bench g c = c.word_asked.ensures.bench

pub returns-clause-table : goal.returns-clause-table
returns-clause-table g c = c.word_asked.ensures.table

pub returns-then-is_none-clause-asked : goal.returns-then-is_none-clause-asked
returns-then-is_none-clause-asked g c =
    let v = shown_by c.args.p (around_by c.args.table.now.places c.args.journal.now.entries 0) (stock_of c.args.bench.now) in
    let r = c.args.registers.now in
    has_none (λ n a. goal.F-post g c.args.service.now n a) (act_word (outcome v r).act)
    (untold_word v r (sym c.word_ahead.ensures ∙ none_if c.word_ahead.result (c.is_none.ensures ∙ ap not c.if-is_none.true)))
