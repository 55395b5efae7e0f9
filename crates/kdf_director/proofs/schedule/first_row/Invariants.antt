use Rattle.std.proofs.Common.{◌≡◌, ◌<◌, ◌≤◌, take}
use Rattle.std.specs.List.{All}
use Rattle.kdf_schedule.specs.Calls.{order_count}
use Rattle.kdf_director.specs.Rows.{IsOfOrders}
use Rattle.kdf_director.proofs.schedule.first_row.Given as goal

abbrev pub invariant-loop-i : goal.invariant-loop-i
invariant-loop-i l = record {
  count : l.orders ≡ order_count (take l.i l.events);
  all : All IsOfOrders (take l.i l.events);
  some : 0 < l.i → 1 ≤ l.orders;
}
