use Rattle.std.proofs.Common.{◌≡◌, ◌+◌, ◌≤◌, ◌++◌, length, take, drop}
use Rattle.arrayvec.specs.ArrayVec.{array_vec_len}
use Rattle.kdf_lockout.proofs.store.put_groups.Given as goal

abbrev pub invariant-loop-group : goal.invariant-loop-group
invariant-loop-group l =
    record {
      inside : l.first + array_vec_len l.back ≤ length l.groups;
      same : take l.first l.groups ++ (l.back.items ++ drop (l.first + array_vec_len l.back) l.groups)
          ≡ take l.first l.initial.groups ++ (l.initial.back.items ++ drop (l.first + array_vec_len l.initial.back) l.initial.groups);
    }

abbrev pub decreases-loop-group : goal.decreases-loop-group
decreases-loop-group l = array_vec_len l.back
