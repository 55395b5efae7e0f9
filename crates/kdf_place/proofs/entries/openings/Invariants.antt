use Rattle.std.proofs.Common.{◌≡◌, ◌≤◌, ◌+◌, ◌*◌, ◌++◌, drop}
use Rattle.kdf_place.specs.Layout.{front}
use Rattle.kdf_place.specs.Names.{openings}
use Rattle.kdf_place.proofs.entries.openings.Given as goal

abbrev pub invariant-loop-i : goal.invariant-loop-i
invariant-loop-i l = record {
  near : l.here.at ≤ 400000 * l.i + 6;
  all : l.openings.items ++ openings l.here (drop l.i l.statements) ≡ openings front l.statements;
}
