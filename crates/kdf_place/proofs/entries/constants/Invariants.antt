use Rattle.std.proofs.Common.{◌≡◌, ◌≤◌, ◌+◌, ◌*◌, ◌++◌, drop}
use Rattle.kdf_place.specs.Layout.{front}
use Rattle.kdf_place.specs.Names.{constants}
use Rattle.kdf_place.proofs.entries.constants.Given as goal

abbrev pub invariant-loop-statement : goal.invariant-loop-statement
invariant-loop-statement l = record {
  near : l.here.at ≤ 400000 * l.statement-index + 6;
  all : l.constants.items ++ constants l.here (drop l.statement-index l.statements) ≡ constants front l.statements;
}
