use Rattle.std.proofs.Common.{◌≤◌, length}
use Rattle.std.specs.Vec.{vec_len}
use Rattle.kdf_transfer.specs.ByNumber.{device_count}
use Rattle.kdf_places.specs.Shared.{IsSound, left_in}
use Rattle.kdf_places.proofs.starting.cancel_all.Given as goal

abbrev pub invariant-loop-place : goal.invariant-loop-place
invariant-loop-place l =
    record {
      few : length l.places.items ≤ device_count;
      sound : IsSound (left_in l.store l.places.items);
    }

abbrev pub decreases-loop-place : goal.decreases-loop-place
decreases-loop-place l = vec_len l.places
