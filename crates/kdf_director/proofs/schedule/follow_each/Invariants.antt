use Rattle.std.proofs.Common.{◌≡◌, ◌+◌, ◌-◌, ◌≤◌, length, take, drop}
use Rattle.std.specs.Prelude.{sum_by}
use Rattle.kdf_journal.specs.Counts.{calls, clock}
use Rattle.kdf_journal.specs.Steps.{steps}
use Rattle.kdf_schedule.specs.Calls.{calls_made, order_count}
use Rattle.kdf_theory.specs.Follows.{IsRising, entries_in}
use Rattle.kdf_course.specs.Follows.{Reaches}
use Rattle.kdf_theory.specs.Next.{lone_dispatched}
use Rattle.kdf_director.proofs.schedule.follow_each.Given as goal
use Rattle.kdf_theory.specs.Served.{IsTrueFor}

abbrev pub invariant-loop-made : goal.invariant-loop-made
invariant-loop-made g l = record {
  taken : Reaches (lone_dispatched l.fn.machine.slots) (steps l.fn.machine.journal) (calls_made (take l.made l.events)) (steps l.machine.journal);
  few : calls l.machine.journal + order_count (drop l.made l.events) ≤ 20000000;
  room : sum_by entries_in (drop l.made l.events) ≤ l.machine.room;
  spent : l.fn.machine.room + sum_by entries_in (drop l.made l.events) ≤ l.machine.room + sum_by entries_in l.events;
  rises : IsRising (clock l.machine.journal) (drop l.made l.events);
  same_slots : l.machine.slots ≡ l.fn.machine.slots;
  truly : IsTrueFor (λ n a. goal.F-post g l.service n a) l.machine.slots l.machine.journal;
}

abbrev pub decreases-loop-made : goal.decreases-loop-made
decreases-loop-made g l = length l.events - l.made
