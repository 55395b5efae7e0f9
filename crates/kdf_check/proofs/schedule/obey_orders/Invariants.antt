use Rattle.std.proofs.Common.{◌≡◌, ◌+◌, ◌-◌, ◌≤◌}
use Rattle.std.specs.Prelude.{replicate}
use Rattle.kdf_journal.specs.Counts.{calls, clock, moves}
use Rattle.kdf_journal.specs.Steps.{steps}
use Rattle.kdf_schedule.specs.Calls.{AnOrder}
use Rattle.kdf_course.specs.Follows.{Reaches}
use Rattle.kdf_theory.specs.Next.{lone_dispatched}
use Rattle.kdf_check.specs.Keeps.{Keeps}
use Rattle.kdf_check.proofs.schedule.obey_orders.Given as goal

abbrev pub ghost-advance : goal.ghost-advance
ghost-advance g a = g.slots

abbrev pub invariant-loop-made : goal.invariant-loop-made
invariant-loop-made g l = record {
  within : l.made ≤ l.n;
  taken : Reaches (lone_dispatched g.slots) (steps l.fn.journal.entries) (replicate l.made AnOrder) (steps l.journal.entries);
  keeps : Keeps (λ n a. goal.F-post g l.service n a) g.slots l.journal.entries l.table.places l.programs.items;
  count : calls l.journal.entries ≡ calls l.fn.journal.entries + l.made;
  same_moves : moves l.journal.entries ≡ moves l.fn.journal.entries;
  time : clock l.journal.entries ≡ clock l.fn.journal.entries;
}

abbrev pub decreases-loop-made : goal.decreases-loop-made
decreases-loop-made g l = l.n - l.made
