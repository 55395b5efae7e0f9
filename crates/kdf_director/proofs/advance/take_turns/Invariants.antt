use Rattle.std.proofs.Common.{◌≡◌, ◌+◌, ◌-◌, ◌<◌, ◌≤◌}
use Rattle.kdf_journal.specs.Counts.{clock}
use Rattle.kdf_director.proofs.Calls.CallsAtOnce.{IsOn}
use Rattle.kdf_director.proofs.advance.take_turns.Given as goal

abbrev pub invariant-loop-quiet : goal.invariant-loop-quiet
invariant-loop-quiet g l =
    record {
      on : IsOn (λ n a. goal.F-post g l.due.service.now n a) l.fn.halt l.fn.yard l.fn.journal l.due.room l.i l.quiet l.yard;
      left : l.quiet < l.due.most;
      entries : l.journal.entries ≡ l.fn.journal.entries;
      spare : l.due.room + 2 ≤ l.journal.spare;
      time : l.time ≡ clock l.fn.journal.entries;
    }

abbrev pub decreases-loop-quiet : goal.decreases-loop-quiet
decreases-loop-quiet g l = l.due.most - l.quiet
