use Rattle.std.proofs.Common.{◌+◌, ◌≤◌, length}
use Rattle.kdf_text.specs.Lines.{lines}
use Rattle.kdf_top.proofs.Lines.{SameSoFar}
use Rattle.kdf_top.proofs.differing.first_other_line.Given as goal

abbrev pub invariant-loop-rest : goal.invariant-loop-rest
invariant-loop-rest l = record {
  so_far : SameSoFar (lines l.these) (lines l.those) l.place (lines l.rest) (lines l.other_rest);
  within : l.place + length l.rest ≤ length l.these;
}

abbrev pub decreases-loop-rest : goal.decreases-loop-rest
decreases-loop-rest l = length l.rest
