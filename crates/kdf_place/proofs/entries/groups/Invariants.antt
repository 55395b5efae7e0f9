use Rattle.std.proofs.Common.{◌≡◌, drop}
use Rattle.kdf_place.specs.Names.{groups_from, groups}
use Rattle.kdf_place.proofs.entries.groups.Given as goal

abbrev pub invariant-loop-statement : goal.invariant-loop-statement
invariant-loop-statement l = groups_from l.groups (drop l.statement-index l.statements) ≡ groups l.statements
