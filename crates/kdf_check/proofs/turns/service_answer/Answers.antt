use Rattle.std.proofs.Common.{sym, ◌∙◌}
use Rattle.kdf_processor.specs.Ahead.{act_word}
use Rattle.kdf_processor.specs.Outcome.{outcome}
use Rattle.kdf_processor.proofs.Words.{unserved_word}
use Rattle.kdf_alone.specs.LonePort.{stock_of}
use Rattle.kdf_theory.proofs.Course.HeardWords.{has_none}
use Rattle.kdf_check.specs.Around.{around_by}
use Rattle.kdf_check.specs.CheckPort.{shown_by}
use Rattle.kdf_check.proofs.turns.service_answer.Goals as goal

pub returns-else-served-clause-asked : goal.returns-else-served-clause-asked
returns-else-served-clause-asked g c =
    let v = shown_by c.args.p (around_by c.args.table.now.places c.args.journal.now.entries 0) (stock_of c.args.bench.now) in
    let r = c.args.registers.now in
    has_none (λ n a. goal.F-post g c.args.service.now n a) (act_word (outcome v r).act)
    (unserved_word v r (sym c.served.ensures ∙ c.if-served.false))
