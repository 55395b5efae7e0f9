use Rattle.std.proofs.Common.{◌+◌, ◌*◌, ◌≤◌, length, take, drop}
use Rattle.kdf_journal.specs.Counts.{calls, clock, moves}
use Rattle.kdf_journal.specs.Steps.{steps}
use Rattle.kdf_schedule.specs.Calls.{calls_made, order_count}
use Rattle.kdf_course.specs.Follows.{Reaches}
use Rattle.kdf_theory.specs.Follows.{IsRising}
use Rattle.kdf_theory.specs.Next.{lone_dispatched}
use Rattle.kdf_check.specs.Keeps.{Keeps}
use Rattle.kdf_check.proofs.schedule.follow_each.Given as goal

abbrev pub ghost-make_calls : goal.ghost-make_calls
ghost-make_calls g a = g.slots

abbrev pub invariant-loop-event : goal.invariant-loop-event
invariant-loop-event g l = record {
  taken : Reaches (lone_dispatched g.slots) (steps l.fn.journal.entries) (calls_made (take l.event-index l.events)) (steps l.journal.entries);
  keeps : Keeps (λ n a. goal.F-post g l.service n a) g.slots l.journal.entries l.table.places l.programs.items;
  few : calls l.journal.entries + order_count (drop l.event-index l.events) ≤ 20000000;
  few_moves : moves l.journal.entries + 4096 * length (drop l.event-index l.events) ≤ 2048000000;
  rises : IsRising (clock l.journal.entries) (drop l.event-index l.events);
}
