use Rattle.std.proofs.Common.{◌≡◌, ◌≤◌, ◌+◌, ◌*◌, ◌++◌, drop}
use Rattle.kdf_usercode.specs.WellFormed.{AreInRange}
use Rattle.kdf_place.specs.Layout.{front}
use Rattle.kdf_place.specs.Placement.{syllables}
use Rattle.kdf_place.specs.Tables.{meaning}
use Rattle.kdf_place.proofs.spell.push_statements.Given as goal

abbrev pub invariant-loop-statement : goal.invariant-loop-statement
invariant-loop-statement l = record {
  near : l.here.at ≤ 400000 * l.statement-index + 6;
  in_range : AreInRange (drop l.statement-index l.statements);
  all : l.bytes.items ++ syllables (meaning l.meanings) l.here (drop l.statement-index l.statements)
      ≡ l.initial.bytes.items ++ syllables (meaning l.meanings) front l.statements;
}
