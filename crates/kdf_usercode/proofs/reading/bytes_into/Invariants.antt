use Rattle.std.proofs.Common.{◌≡◌, ◌++◌, drop}
use Rattle.kdf_usercode.specs.Pieces.{codes_of}
use Rattle.kdf_usercode.proofs.reading.bytes_into.Given as goal

abbrev pub invariant-loop-kept : goal.invariant-loop-kept
invariant-loop-kept l = l.room.items ++ codes_of (drop l.kept-index l.piece) ≡ codes_of l.piece
