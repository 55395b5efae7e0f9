use Rattle.std.proofs.Common.{◌≡◌, ◌-◌, ◌≤◌, Some, drop, take}
use Rattle.kdf_word.specs.Characters.{words_of}
use Rattle.kdf_transfer.specs.AtOnce.{at_addresses}
use Rattle.kdf_transfer.specs.InFlight.{Covers, put_words}
use Rattle.kdf_transfer.proofs.run.put_up.Given as goal

abbrev pub invariant-loop-i : goal.invariant-loop-i
invariant-loop-i l =
    record {
      lease : l.lease ≡ put_words (take (l.i - l.from) (drop l.from (at_addresses l.area.first (take l.total (words_of l.codes))))) l.initial.lease;
      covers : Covers (Some l.lease) l.area.first l.area.last;
      begun : l.from ≤ l.i;
      within : l.i ≤ l.total;
    }

abbrev pub decreases-loop-i : goal.decreases-loop-i
decreases-loop-i l = l.total - l.i
