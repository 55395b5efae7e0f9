use Rattle.std.proofs.Common.{◌≡◌, ◌≤◌, ◌+◌, ◌*◌, ◌++◌, drop, length}
use Rattle.kdf_place.specs.Layout.{next_order, front}
use Rattle.kdf_place.specs.Names.{labels}
use Rattle.kdf_place.specs.Pending.{waiting}
use Rattle.kdf_place.proofs.entries.labels.Given as goal

abbrev pub invariant-loop-statement : goal.invariant-loop-statement
invariant-loop-statement l = record {
  near : l.here.at ≤ 400000 * l.statement-index + 6;
  known : l.known ≤ length l.labels.items;
  all : waiting l.known l.labels.items (next_order l.here.at (drop l.statement-index l.statements))
      ++ labels l.here (drop l.statement-index l.statements) ≡ labels front l.statements;
}
