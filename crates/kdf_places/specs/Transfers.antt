-- What a transfer that begins, moves words or ends leaves of the store and of its place.
use Rattle.std.specs.Prelude.{◌≡◌, ◌<◌, ◌≤◌, length, take, drop, ℕ, ◌+◌, ◌-◌, ◌/◌, List, [], if◌then◌else◌, Option, Some, None, slice_set}
use Rattle.kdf_lockout.specs.Groups.{Cells, Lent, without_groups, lent_groups, first_out_of, touched, with_groups}
use Rattle.kdf_lockout.specs.Groups as groups
use Rattle.kdf_transfer.specs.declared.order.TransferOrder.{TransferOrder}
use Rattle.kdf_transfer.specs.AtOnce.{is_input, has_area, addressed}
use Rattle.kdf_transfer.specs.InFlight.{Motion, moved_by, words_in_flight, total_of, ended_progress}
use Rattle.kdf_places.specs.Spots.{Held, Spot, spot_at, fixture_or}
use Rattle.kdf_places.specs.Shared.{Shared}

abbrev pub start_cells : TransferOrder → ℕ → ℕ → Cells → Cells
start_cells o first last cells =
    if has_area o then without_groups cells (first / 32) (touched first last) else cells

abbrev pub start_lease : TransferOrder → ℕ → ℕ → Cells → Option Lent
start_lease o first last cells =
    if has_area o then Some (lent_groups cells (first / 32) (touched first last)) else None

-- the place of a device whose transfer was begun
abbrev pub start_spot : ℕ → TransferOrder → ℕ → ℕ → Cells → Spot → Spot
start_spot p o first last cells s =
    record {
      fixture = Some (fixture_or s.fixture);
      progress = s.progress;
      flight = Some (record {
        p = p;
        motion = record {
          order = o;
          first = first;
          last = last;
          fixture = fixture_or s.fixture;
          progress = s.progress;
          lease = start_lease o first last cells;
          moved = 0;
        };
      });
    }

-- the places are in the store, no more than 4,096, and none of their groups is out
pub record IsFreeArea (cells : Cells) (first last : ℕ) : Type 0 where
  pub rising : first ≤ last
  pub few : last ≤ first + 4095
  pub inside : last / 32 < length cells
  pub free : first_out_of cells (first / 32) (touched first last) ≡ None

-- the groups of a lease are out of the store, where there is one
abbrev pub IsBack : Cells → Option Lent → Type 0
IsBack cells None = Unit {0}
IsBack cells (Some l) = groups.IsOut cells l

-- the place of a device after n words more of its transfer
abbrev pub moved_held : ℕ → Option Held → Option Held
moved_held n None = None
moved_held n (Some h) = Some (record { p = h.p; motion = moved_by n h.motion })

abbrev pub moved_spot : ℕ → Spot → Spot
moved_spot n x = record x { flight = moved_held n x.flight }

abbrev pub after_move : ℕ → ℕ → Shared → Shared
after_move d n s = record s { spots = slice_set s.spots d (moved_spot n (spot_at s.spots d)) }

-- the place of a device after the end of its transfer
abbrev pub ended_by : Spot → Option Held → Spot
ended_by x None = x
ended_by x (Some h) =
    record x { progress = ended_progress h.motion; flight = None }

abbrev pub ended_spot : Spot → Spot
ended_spot x = ended_by x x.flight

-- the store with the groups of a lease
abbrev pub back_cells : Option Lent → Cells → Cells
back_cells None cells = cells
back_cells (Some l) cells = with_groups cells l

-- the lease once all words have moved
abbrev pub last_lease : Option Held → Option Lent
last_lease None = None
last_lease (Some h) = (moved_by (total_of h.motion) h.motion).lease

abbrev pub after_end : ℕ → Shared → Shared
after_end d s =
    record {
      cells = back_cells (last_lease (spot_at s.spots d).flight) s.cells;
      spots = slice_set s.spots d (ended_spot (spot_at s.spots d));
    }

-- the moves of a flight's next n words to the store, in the program's addresses
abbrev pub flight_moves : ℕ → ℕ → Motion → List (ℕ × ℕ)
flight_moves base n t =
    if is_input t.order
    then take n (drop t.moved (addressed t.order (t.first - base) (t.last - base) (words_in_flight t)))
    else []
