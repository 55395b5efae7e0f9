use Rattle.std.proofs.Common.{◌≡◌, ◌≤◌, map, []}
use Rattle.std.specs.Vec.{vec_capacity, vec_len}
use Rattle.std.specs.List.{range_with_len}
use Rattle.kdf_yard.specs.Fields.Filled.{idle_place, idle_ring, idle_spot, loaded}
use Rattle.kdf_places.specs.Spots.{spot_of}
use Rattle.kdf_yard.proofs.load.idle_all.Given as goal

abbrev pub invariant-loop-d : goal.invariant-loop-d
invariant-loop-d l =
    record {
      spots : map (λ o. spot_of (idle_place o)) l.idle.items ≡ map (idle_spot (map loaded l.slots)) (range_with_len 0 l.d);
      rings : map idle_ring l.idle.items ≡ map (λ _. []) (range_with_len 0 l.d);
      many : vec_len l.idle ≡ l.d;
      room : 16 ≤ vec_capacity l.idle;
    }
