use Rattle.std.proofs.Common.{◌≡◌, ◌≤◌, ◌+◌, ◌*◌, drop}
use Rattle.kdf_place.specs.Layout.{next_order}
use Rattle.kdf_place.proofs.entries.next_order.Given as goal

abbrev pub invariant-loop-statement : goal.invariant-loop-statement
invariant-loop-statement l = record {
  near : l.at ≤ l.fn.at + 400000 * l.statement-index;
  all : next_order l.at (drop l.statement-index l.statements) ≡ next_order l.fn.at l.statements;
}
