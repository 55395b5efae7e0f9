use Rattle.kdf_media.proofs.Runs.{IsCut}
use Rattle.kdf_media.proofs.printed.cut.Given as goal

abbrev pub invariant-loop-i : goal.invariant-loop-i
invariant-loop-i l = IsCut l.kept l.i l.room l.i-end l.block.items l.initial.block.items
