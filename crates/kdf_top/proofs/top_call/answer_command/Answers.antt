use Rattle.std.proofs.Common.{sym, ◌∙◌}
use Rattle.kdf_job.specs.Made.{made_text}
use Rattle.kdf_top.specs.Answers.{IsCalled}
use Rattle.kdf_top.proofs.Runs.{no_read_fault, reads_it, run_made, within_limit}
use Rattle.kdf_top.proofs.top_call.answer_command.Goals as goal

pub answer_read-requires-clause-input : goal.answer_read-requires-clause-input
answer_read-requires-clause-input g c = sym c.input.ensures ∙ c.in-Read.is

pub answer_read-requires-clause-within : goal.answer_read-requires-clause-within
answer_read-requires-clause-within g c = within_limit c.args.command c.in-Read.limit (sym c.input.ensures ∙ c.in-Read.is)

pub returns-in-Read-clause-untouched : goal.returns-in-Read-clause-untouched
returns-in-Read-clause-untouched g c = λ none. absurd (let reads = reads_it c.args.command c.in-Read.limit (sym c.input.ensures ∙ c.in-Read.is) in cc)

pub returns-in-Made-clause-run : goal.returns-in-Made-clause-run
returns-in-Made-clause-run g c =
    run_made _ c.args.command c.in-Made.n c.answer_made.result.status c.answer_made.result.machine _ _ _ (sym c.input.ensures ∙ c.in-Made.is)
    c.answer_made.ensures

pub returns-in-Made-clause-steady_reads : goal.returns-in-Made-clause-steady_reads
returns-in-Made-clause-steady_reads g c = λ _. no_read_fault (IsCalled (λ n a. goal.F-post g c.args.service.now n a) c.args.command (made_text c.in-Made.n)) _
    _ c.answer_made.ensures.answer
