use Rattle.std.proofs.Common.{◌≡◌, ℕ, ◌<◌, ◌≤◌, false, length, get_or, map}
use Rattle.kdf_yard.specs.Fields.Stints.{is_open_of, keeping_of, no_keeping}
use Rattle.kdf_yard.proofs.stint.open_stint.Given as goal

abbrev pub invariant-loop-i : goal.invariant-loop-i
invariant-loop-i l =
    record {
      within : l.i ≤ length l.stints;
      shut : (j : ℕ) → l.i ≤ j → j < length l.stints → is_open_of l.d (get_or (map keeping_of l.stints) j no_keeping) ≡ false;
    }

abbrev pub decreases-loop-i : goal.decreases-loop-i
decreases-loop-i l = l.i
