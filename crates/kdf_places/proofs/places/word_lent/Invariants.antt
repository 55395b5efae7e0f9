use Rattle.std.proofs.Common.{◌≡◌, ◌≤◌, map}
use Rattle.kdf_places.specs.Words.{word_out}
use Rattle.kdf_transfer.specs.ByNumber.{device_count}
use Rattle.kdf_places.specs.Spots.{spot_of, leases_of}
use Rattle.kdf_places.proofs.places.word_lent.Given as goal

abbrev pub invariant-loop-d : goal.invariant-loop-d
invariant-loop-d l =
    record {
      within : l.d ≤ 16;
      same : word_out device_count (leases_of (map spot_of l.places)) l.place ≡ word_out l.d (leases_of (map spot_of l.places)) l.place;
    }

abbrev pub decreases-loop-d : goal.decreases-loop-d
decreases-loop-d l = l.d
