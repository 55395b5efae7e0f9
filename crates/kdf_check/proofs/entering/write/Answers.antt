use Rattle.std.proofs.Common.{subst, arith}
use Rattle.kdf_journal.specs.declared.entry.Entry.TheVariants.{Ran}
use Rattle.kdf_journal.proofs.Pushed.{calls-pushed, moves-pushed}
use Rattle.kdf_check.specs.Entered.{IsNote}
use Rattle.kdf_check.proofs.entering.write.Goals as goal

pub push-requires-in-Some-clause-few_calls : goal.push-requires-in-Some-clause-few_calls
push-requires-in-Some-clause-few_calls c =
    let note = subst IsNote c.in-Some.is c.requires.note in
    rw c.push.ensures.entries (omega (arith, note.0, calls-pushed c.args.journal.now.entries (Ran c.args.p c.args.n), c.requires.few_calls))

pub push-requires-in-Some-clause-few_moves : goal.push-requires-in-Some-clause-few_moves
push-requires-in-Some-clause-few_moves c =
    let note = subst IsNote c.in-Some.is c.requires.note in
    rw c.push.ensures.entries (omega (arith, note.1, moves-pushed c.args.journal.now.entries (Ran c.args.p c.args.n), c.requires.few_moves))
