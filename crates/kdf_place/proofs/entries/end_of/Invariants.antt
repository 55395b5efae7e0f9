use Rattle.std.proofs.Common.{◌≡◌, ◌≤◌, ◌+◌, ◌*◌, drop}
use Rattle.kdf_place.specs.Layout.{end_of, front}
use Rattle.kdf_place.proofs.entries.end_of.Given as goal

abbrev pub invariant-loop-statement : goal.invariant-loop-statement
invariant-loop-statement l = record {
  near : l.here.at ≤ 400000 * l.statement-index + 6;
  all : end_of l.here (drop l.statement-index l.statements) ≡ end_of front l.statements;
}
