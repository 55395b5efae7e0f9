use Rattle.std.proofs.Common.{◌≡◌, ◌+◌, drop, length}
use Rattle.kdf_yard.specs.Fields.Filled.{with_words}
use Rattle.kdf_yard.proofs.fill.fill.Given as goal
use Rattle.kdf_limits.specs.declared.store.TheConstants.{STORE_GROUPS}

abbrev pub invariant-loop-i : goal.invariant-loop-i
invariant-loop-i l =
    record {
      words : with_words l.store (l.place + l.i) (drop l.i l.words) ≡ with_words l.fn.store l.place l.words;
      size : length l.store ≡ STORE_GROUPS;
    }
