use Rattle.std.proofs.Common.{◌≡◌, ◌-◌, length}
use Rattle.kdf_theory.specs.Served.{IsTrueFor}
use Rattle.kdf_watch.specs.Onward.{IsAt}
use Rattle.kdf_watch.specs.Stopped.{HasGone}
use Rattle.kdf_watch.proofs.stop.go_on.Given as goal

abbrev pub invariant-loop-cursor : goal.invariant-loop-cursor
invariant-loop-cursor g l = record {
  at : IsAt l.events l.cursor l.machine;
  gone : HasGone (λ look b. goal.G-post g l.watch look b) l.fn.machine l.machine;
  truthful : IsTrueFor (λ n a. goal.F-post g l.service n a) l.fn.machine.slots l.fn.machine.journal
      → IsTrueFor (λ n a. goal.F-post g l.service n a) l.machine.slots l.machine.journal;
  same_slots : l.machine.slots ≡ l.fn.machine.slots;
}

abbrev pub decreases-loop-cursor : goal.decreases-loop-cursor
decreases-loop-cursor g l = length l.events - l.cursor.event
