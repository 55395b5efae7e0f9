use Rattle.kdf_top.proofs.Answering.{given_memory, given_over}
use Rattle.kdf_top.proofs.top_call.answer_made.Goals as goal

pub returns-in-Err : goal.returns-in-Err
returns-in-Err g c = rw (c.without_machine.ensures.status, c.without_machine.ensures.machine) (given_memory _ _ _ _ _)

pub returns-in-Ok : goal.returns-in-Ok
returns-in-Ok g c = given_over _ c.args.command _ _ _ _ _ _ c.in-Ok.ensures.text c.answer_text.ensures
