use Rattle.std.proofs.Common.{refl}
use Rattle.kdf_watch.proofs.Counting.{at_first}
use Rattle.kdf_trials.proofs.watch.follow_watched.Goals as goal

pub loop-i-init : goal.loop-i-init
loop-i-init g c = record { at = at_first c.args.events.now c.args.machine.now c.requires.fresh c.requires.room; same_slots = refl }
