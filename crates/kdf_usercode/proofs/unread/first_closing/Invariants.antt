use Rattle.std.proofs.Common.{◌≡◌, drop}
use Rattle.std.specs.List.{position, position_from}
use Rattle.kdf_usercode.proofs.Scan.{is_closing}
use Rattle.kdf_usercode.proofs.unread.first_closing.Given as goal

abbrev pub invariant-loop-i : goal.invariant-loop-i
invariant-loop-i l = position_from is_closing l.i (drop l.i l.bytes) ≡ position is_closing l.bytes
