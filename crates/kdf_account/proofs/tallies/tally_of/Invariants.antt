use Rattle.std.proofs.Common.{◌≡◌, take}
use Rattle.kdf_journal.specs.Counts.{calls}
use Rattle.kdf_account.specs.Lanes.{lane_of}
use Rattle.kdf_account.specs.Moments.{entries_of}
use Rattle.kdf_account.specs.Tallies.{total}
use Rattle.kdf_account.proofs.tallies.tally_of.Given as goal

abbrev pub invariant-loop-moment : goal.invariant-loop-moment
invariant-loop-moment l = record {
  lane : l.lane ≡ lane_of l.p l.fn.free (take l.moment-index l.moments);
  total : total l.lane.tally ≡ calls (entries_of (take l.moment-index l.moments));
}
