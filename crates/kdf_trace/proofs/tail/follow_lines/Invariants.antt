use Rattle.std.proofs.Common.{◌≡◌, ◌≤◌, take, drop}
use Rattle.std.specs.Prelude.{sum_by}
use Rattle.kdf_theory.specs.Follows.{entries_in}
use Rattle.kdf_theory.specs.Served.{IsJournalFor}
use Rattle.kdf_theory.specs.MachineView.{ShowsSeen}
use Rattle.kdf_trace.proofs.tail.follow_lines.Given as goal

abbrev pub invariant-loop-i : goal.invariant-loop-i
invariant-loop-i g l = record {
  slots : l.machine.slots ≡ l.initial.machine.slots;
  journal : IsJournalFor (λ n a. goal.F-post g l.service n a) l.machine.slots (take l.i l.events) l.machine.journal;
  room : sum_by entries_in (drop l.i l.events) ≤ l.machine.room;
  seen : ShowsSeen l.machine;
}
