use Rattle.std.proofs.Common.{◌+◌, ◌≤◌, length}
use Rattle.kdf_snapshot.proofs.parts.count_entries.Given as goal

abbrev pub invariant-loop-at : goal.invariant-loop-at
invariant-loop-at l = l.count + length l.at.lines.rest.now ≤ length l.initial.at.lines.rest.now

abbrev pub decreases-loop-at : goal.decreases-loop-at
decreases-loop-at l = length l.at.lines.rest.now
