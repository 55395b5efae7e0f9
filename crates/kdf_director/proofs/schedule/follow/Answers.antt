use Rattle.kdf_theory.proofs.Course.EventsInTurn.{no-events}
use Rattle.kdf_director.proofs.schedule.follow.Goals as goal

pub follow_on-requires-clause-followed : goal.follow_on-requires-clause-followed
follow_on-requires-clause-followed g c = no-events _ c.args.machine.now.slots c.args.events.now c.args.machine.now.journal c.requires.fresh
