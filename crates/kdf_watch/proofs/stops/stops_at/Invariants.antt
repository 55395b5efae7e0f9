use Rattle.std.proofs.Common.{◌≡◌, length}
use Rattle.kdf_journal.specs.Steps.{steps}
use Rattle.kdf_theory.specs.Served.{IsTrueFor}
use Rattle.kdf_watch.specs.Cursors.{IsUpTo, calls_left}
use Rattle.kdf_watch.proofs.Counting.{all_looks, hits}
use Rattle.kdf_watch.proofs.stops.stops_at.Given as goal

abbrev pub invariant-loop-numbers : goal.invariant-loop-numbers
invariant-loop-numbers g l = record {
  at : IsUpTo l.events l.cursor l.machine;
  same_slots : l.machine.slots ≡ l.fn.machine.slots;
  truthful : IsTrueFor (λ n a. goal.F-post g l.service n a) l.machine.slots l.machine.journal;
  numbers : l.numbers.items ≡ hits l.k l.at (all_looks l.machine.slots (steps l.machine.journal));
}

abbrev pub decreases-loop-numbers : goal.decreases-loop-numbers
decreases-loop-numbers g l = length (calls_left l.events l.cursor)
