use Rattle.std.proofs.Common.{arith}
use Rattle.kdf_journal.proofs.Pushed.{calls-pushed, moves-pushed}
use Rattle.kdf_director.proofs.entries.write.Goals as goal

pub push-requires-in-Fails-clause-few_calls : goal.push-requires-in-Fails-clause-few_calls
push-requires-in-Fails-clause-few_calls c = rw (c.push.ensures.entries, calls-pushed) (omega arith)

pub push-requires-in-Fails-clause-few_moves : goal.push-requires-in-Fails-clause-few_moves
push-requires-in-Fails-clause-few_moves c = rw (c.push.ensures.entries, moves-pushed) (omega arith)

pub push-requires-in-Ends-clause-few_calls : goal.push-requires-in-Ends-clause-few_calls
push-requires-in-Ends-clause-few_calls c = rw (c.push.ensures.entries, calls-pushed) (omega arith)

pub push-requires-in-Ends-clause-few_moves : goal.push-requires-in-Ends-clause-few_moves
push-requires-in-Ends-clause-few_moves c = rw (c.push.ensures.entries, moves-pushed) (omega arith)

pub write_note-requires-clause-few_calls : goal.write_note-requires-clause-few_calls
write_note-requires-clause-few_calls c = rw (c.push.ensures.entries, calls-pushed) (omega arith)

pub write_note-requires-clause-few_moves : goal.write_note-requires-clause-few_moves
write_note-requires-clause-few_moves c = rw (c.push.ensures.entries, moves-pushed) (omega arith)
