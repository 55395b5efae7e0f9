use Rattle.std.proofs.Common.{◌≡◌, map, ◌+◌, ◌++◌, ◌≤◌, length}
use Rattle.std.specs.Vec.{vec_len, vec_capacity}
use Rattle.std.specs.Vec.Iter.{into_iter_items}
use Rattle.kdf_yard.specs.Fields.Filled.{idle_place}
use Rattle.kdf_yard.proofs.load.put_all.Given as goal

abbrev pub invariant-loop-found : goal.invariant-loop-found
invariant-loop-found l =
    (goal.iterator-loop-found).can_next l.found-iterator ×
    (goal.iterator-loop-found).is_finite l.found-iterator ×
    (l.places.items ++ map idle_place (into_iter_items l.found-iterator) ≡ map idle_place l.fn.idle.items) ×
    (vec_len l.places + length (into_iter_items l.found-iterator) ≤ vec_capacity l.places)
