use Rattle.std.proofs.Common.{◌≡◌, ◌+◌, ◌-◌}
use Rattle.kdf_lockout.specs.Groups.{first_out_of}
use Rattle.kdf_lockout.proofs.store.first_empty.Given as goal

abbrev pub invariant-loop-k : goal.invariant-loop-k
invariant-loop-k l = first_out_of l.groups l.first l.count ≡ first_out_of l.groups (l.first + l.k) (l.count - l.k)
