use Rattle.std.proofs.Common.{◌≡◌, ◌≤◌, ◌+◌, ◌*◌, drop}
use Rattle.kdf_usercode.specs.Faults.{lesser, least}
use Rattle.kdf_place.specs.Layout.{front}
use Rattle.kdf_place.specs.Late.{wrongs}
use Rattle.kdf_place.specs.Tables.{meaning}
use Rattle.kdf_place.proofs.names.Meanings.first_wrong.Given as goal

abbrev pub invariant-loop-statement : goal.invariant-loop-statement
invariant-loop-statement l = record {
  near : l.here.at ≤ 400000 * l.statement-index + 6;
  all : lesser l.best (least (wrongs (meaning l.self) l.here (drop l.statement-index l.statements))) ≡ lesser l.fn.best
      (least (wrongs (meaning l.self) front l.statements));
}
