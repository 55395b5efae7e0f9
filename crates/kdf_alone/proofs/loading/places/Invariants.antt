use Rattle.std.proofs.Common.{◌≡◌, length, map}
use Rattle.std.specs.List.{All, range_with_len}
use Rattle.kdf_job.specs.Shows.{shown_device}
use Rattle.kdf_job.specs.Slots.{fixture_on, lent_kind, numbered, progress_on}
use Rattle.kdf_alone.specs.LonePlaces.{own_fixture_in, pool_kind_in, progress_in, IsWhole}
use Rattle.kdf_alone.specs.Stints.{IsUnlent}
use Rattle.kdf_alone.proofs.loading.places.Given as goal

abbrev pub invariant-loop-d : goal.invariant-loop-d
invariant-loop-d l =
    record {
      fixtures :
          map own_fixture_in l.places.items
          ≡ map (λ d. fixture_on (numbered (map shown_device l.slot.devices.items) d)) (range_with_len 0 l.d);
      kinds : map pool_kind_in l.places.items ≡ map (lent_kind l.slot.pool.items) (range_with_len 0 l.d);
      progresses :
          map progress_in l.places.items
          ≡ map (λ d. progress_on (numbered (map shown_device l.slot.devices.items) d)) (range_with_len 0 l.d);
      whole : All IsWhole l.places.items;
      unlent : All IsUnlent l.places.items;
      count : length l.places.items ≡ l.d;
    }
