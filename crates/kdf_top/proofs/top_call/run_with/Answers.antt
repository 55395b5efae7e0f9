use Rattle.std.proofs.Common.{map, string_bytes}
use Rattle.kdf_command.specs.Commands.{command}
use Rattle.kdf_top.proofs.Runs.{complete, usage_or_memory}
use Rattle.kdf_top.proofs.top_call.run_with.Goals as goal

pub returns-clause-complete : goal.returns-clause-complete
returns-clause-complete g c = λ x is. complete _ c.requires.service.one x c.answer_words.result.status _ _ _ (rw is at c.answer_words.ensures.run.answer)

pub returns-clause-complete_usage : goal.returns-clause-complete_usage
returns-clause-complete_usage g c = λ unasked no.
    usage_or_memory _ (command (map string_bytes c.args.words.now)) c.answer_words.result.status _ unasked c.answer_words.ensures.run.unread no
