use Rattle.std.proofs.Common.{◌≡◌, ◌+◌, ◌++◌, take, drop, replicate, None}
use Rattle.kdf_lockout.proofs.store.take_groups.Given as goal

abbrev pub invariant-loop-k : goal.invariant-loop-k
invariant-loop-k l =
    record {
      taken : l.taken.items ≡ take l.k (drop l.first l.initial.groups);
      left : l.groups ≡ take l.first l.initial.groups ++ (replicate l.k None ++ drop (l.first + l.k) l.initial.groups);
    }
