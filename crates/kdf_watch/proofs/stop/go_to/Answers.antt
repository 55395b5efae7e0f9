use Rattle.kdf_watch.proofs.Limits.{at_from, up_of}
use Rattle.kdf_watch.proofs.stop.go_to.Goals as goal

pub go_on-requires-clause-at : goal.go_on-requires-clause-at
go_on-requires-clause-at g c = at_from c.args.events.now c.args.cursor.now c.args.machine.now c.requires.limits c.journal-journal.ensures.legal c.requires.at

pub returns-clause-at : goal.returns-clause-at
returns-clause-at g c = up_of _ _ _ c.go_on.ensures.at
