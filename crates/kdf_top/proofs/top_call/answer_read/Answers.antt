use Rattle.std.proofs.Common.{◌≡◌, None, Some, refl}
use Rattle.kdf_top.specs.declared.status.Status.TheVariants as status
use Rattle.kdf_top.proofs.Answering.{given_refused}
use Rattle.kdf_top.proofs.Runs.{large_told, no_done, no_read_fault, run_large, run_no_memory, run_read, run_read_fault}
use Rattle.kdf_top.proofs.top_call.answer_read.Goals as goal

pub returns-in-Ok-clause-run : goal.returns-in-Ok-clause-run
returns-in-Ok-clause-run g c =
    run_read _ c.args.command c.args.limit c.requires.input _ _ c.read_all.ensures.at_most c.read_all.ensures.never_falls
    c.in-Ok.text.items c.answer_text.result.status c.answer_text.result.machine _ _
    c.in-Ok.ensures.within c.in-Ok.ensures.took c.in-Ok.ensures.ended c.in-Ok.ensures.all c.answer_text.ensures

pub returns-in-Err-Large-clause-run : goal.returns-in-Err-Large-clause-run
returns-in-Err-Large-clause-run g c =
    rw c.refuse.ensures.machine
    (run_large _ c.args.command c.args.limit c.requires.input _ _ c.read_all.ensures.at_most c.read_all.ensures.never_falls
    c.refuse.result.status None _ _ (large_told c.args.limit _ _ (rw c.in-Err-Large.field-0-is at c.in-Err-Large.ensures).took_before)
    (no_done _ _ c.refuse.ensures.refused.answer)
    (λ wanted bytes called only. given_refused _ wanted status.Large (Some c.args.command) bytes _ _ _ tt called only c.refuse.ensures.refused))

pub returns-in-Err-Large-clause-steady_reads : goal.returns-in-Err-Large-clause-steady_reads
returns-in-Err-Large-clause-steady_reads g c = λ _. no_read_fault (λ x. x ≡ status.Large) _ _ c.refuse.ensures.refused.answer

pub returns-in-Err-Fault-clause-run : goal.returns-in-Err-Fault-clause-run
returns-in-Err-Fault-clause-run g c =
    rw (c.without_machine.ensures.status, c.without_machine.ensures.machine)
    (run_read_fault _ c.args.command c.args.limit c.requires.input _ _ c.read_all.ensures.at_most c.read_all.ensures.never_falls _
    ((rw c.in-Err-Fault.field-0-is at c.in-Err-Fault.ensures).fault refl))

pub returns-in-Err-Memory-clause-run : goal.returns-in-Err-Memory-clause-run
returns-in-Err-Memory-clause-run g c =
    rw (c.without_machine-in-Err-Memory.ensures.status, c.without_machine-in-Err-Memory.ensures.machine)
    (run_no_memory _ c.args.command c.args.limit c.requires.input _ _ c.read_all.ensures.at_most c.read_all.ensures.never_falls _)
