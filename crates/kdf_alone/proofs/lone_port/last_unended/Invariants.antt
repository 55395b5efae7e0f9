use Rattle.std.proofs.Common.{ℕ, ◌≤◌, ◌<◌, length, get_or}
use Rattle.kdf_alone.specs.declared.stint.Stint.{Stint}
use Rattle.kdf_alone.specs.Stints.{IsOpen}
use Rattle.kdf_alone.proofs.lone_port.last_unended.Given as goal

abbrev pub invariant-loop-i : goal.invariant-loop-i
invariant-loop-i l = (k : ℕ) (x : Stint) → l.i ≤ k → k < length l.stints → IsOpen l.d (get_or l.stints k x) → ⊥
