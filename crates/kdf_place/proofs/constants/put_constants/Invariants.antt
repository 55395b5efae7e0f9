use Rattle.std.proofs.Common.{◌≡◌, ◌≤◌, ◌+◌, ◌*◌, drop}
use Rattle.kdf_place.specs.Layout.{front}
use Rattle.kdf_place.specs.Placement.{with_constants}
use Rattle.kdf_place.specs.Tables.{meaning}
use Rattle.kdf_place.proofs.constants.put_constants.Given as goal

abbrev pub invariant-loop-statement : goal.invariant-loop-statement
invariant-loop-statement l = record {
  near : l.here.at ≤ 400000 * l.statement-index + 6;
  all : with_constants (meaning l.meanings) l.here (drop l.statement-index l.statements) l.words
      ≡ with_constants (meaning l.meanings) front l.statements l.fn.words;
}
