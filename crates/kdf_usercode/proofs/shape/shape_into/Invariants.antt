use Rattle.std.proofs.Common.{◌≡◌, ◌++◌, drop}
use Rattle.kdf_usercode.specs.Shape.{shape}
use Rattle.kdf_usercode.proofs.shape.shape_into.Given as goal

abbrev pub invariant-loop-i : goal.invariant-loop-i
invariant-loop-i l = l.room.items ++ shape (drop l.i l.text) ≡ shape l.text
