use Rattle.std.proofs.Common.{◌≡◌, ◌+◌, ◌-◌, ◌++◌}
use Rattle.std.specs.Prelude.{replicate}
use Rattle.std.specs.List.{All}
use Rattle.kdf_schedule.specs.Calls.{AnOrder, calls_made, order_count}
use Rattle.kdf_schedule.specs.Events.{IsInRange}
use Rattle.kdf_theory.specs.Follows.{IsRising}
use Rattle.kdf_theory.specs.Served.{IsJournalFor}
use Rattle.kdf_theory.specs.MachineView.{ShowsSeen}
use Rattle.kdf_trace.proofs.tail.follow_tail.Given as goal

abbrev pub invariant-loop-call : goal.invariant-loop-call
invariant-loop-call g l = record {
  calls : calls_made l.events.items ≡ calls_made l.front ++ replicate (l.fn.n - 156 + l.call) AnOrder;
  count : order_count l.events.items ≡ order_count l.front + (l.fn.n - 156 + l.call);
  rises : IsRising 0 l.events.items;
  in_range : All IsInRange l.events.items;
  slots : l.machine.slots ≡ l.initial.machine.slots;
  journal : IsJournalFor (λ n a. goal.F-post g l.service n a) l.machine.slots l.events.items l.machine.journal;
  seen : ShowsSeen l.machine;
}
