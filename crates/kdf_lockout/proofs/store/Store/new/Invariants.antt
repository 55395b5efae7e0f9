use Rattle.std.proofs.Common.{◌≡◌, replicate, Some}
use Rattle.kdf_lockout.proofs.store.Store.new.Given as goal

abbrev pub invariant-loop-i : goal.invariant-loop-i
invariant-loop-i l = l.cells.items ≡ replicate l._i (Some (replicate 32 0))
