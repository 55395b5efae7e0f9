use Rattle.std.proofs.Common.{◌≡◌}
use Rattle.kdf_watch.specs.Cursors.{IsUpTo}
use Rattle.kdf_trials.proofs.watch.follow_watched.Given as goal

abbrev pub invariant-loop-i : goal.invariant-loop-i
invariant-loop-i g l = record {
  at : IsUpTo l.events l.cursor l.machine;
  same_slots : l.machine.slots ≡ l.fn.machine.slots;
}
