use Rattle.std.proofs.Common.{◌≡◌, None, refl, map, string_bytes, rules}
use Rattle.kdf_command.specs.Commands.{command}
use Rattle.kdf_top.specs.declared.status.Status.TheVariants as status
use Rattle.kdf_top.proofs.Answering.{given_refused}
use Rattle.kdf_top.proofs.Runs.{no_read_fault, run_forgotten, run_usage}
use Rattle.kdf_top.proofs.top_call.answer_words.Goals as goal

pub returns-in-Ok-None-clause-run : goal.returns-in-Ok-None-clause-run
returns-in-Ok-None-clause-run g c =
    let none : command (map string_bytes c.args.words.now) ≡ None = search rules in
    rw (none, c.refuse.ensures.machine)
    (run_usage _ c.refuse.result.status None _ _ _ (λ bytes. given_refused _ (λ x. x ≡ status.Usage) status.Usage None bytes _ _ _ tt refl
    (λ x e. e) c.refuse.ensures.refused))

pub returns-in-Ok-None-clause-steady_reads : goal.returns-in-Ok-None-clause-steady_reads
returns-in-Ok-None-clause-steady_reads g c = λ _. no_read_fault (λ x. x ≡ status.Usage) _ _ c.refuse.ensures.refused.answer

pub returns-in-Err-clause-run : goal.returns-in-Err-clause-run
returns-in-Err-clause-run g c =
    rw (c.without_machine.ensures.status, c.without_machine.ensures.machine) (run_forgotten _ (command (map string_bytes c.args.words.now)) _ _)
