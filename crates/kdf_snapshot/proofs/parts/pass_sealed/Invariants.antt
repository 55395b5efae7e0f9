use Rattle.std.proofs.Common.{length}
use Rattle.kdf_snapshot.proofs.Sealed.{NoEndSoFar}
use Rattle.kdf_snapshot.proofs.parts.pass_sealed.Given as goal

abbrev pub invariant-loop-offset : goal.invariant-loop-offset
invariant-loop-offset l = NoEndSoFar l.initial.at l.at

abbrev pub decreases-loop-offset : goal.decreases-loop-offset
decreases-loop-offset l = length l.at.lines.rest.now
