use Rattle.std.proofs.Common.{◌≡◌, ◌≤◌, length, take}
use Rattle.kdf_snapshot.proofs.differs.first_difference.Given as goal

abbrev pub invariant-loop-i : goal.invariant-loop-i
invariant-loop-i l = record {
  alike : take l.i l.these ≡ take l.i l.those;
  within : l.i ≤ length l.those;
}
