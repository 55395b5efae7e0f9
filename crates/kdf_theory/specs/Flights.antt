-- A program's transfers in flight, in its own addresses.
use Rattle.std.specs.Prelude.{ℕ, ◌==◌, ◌&&◌, nat_le, List, [], length, drop, Bool, false, Option, Some, None, is_some, if◌then◌else◌}
use Rattle.std.specs.List.{filter, range_with_len}
use Rattle.kdf_transfer.specs.AtOnce.{is_input, has_area, moves, order_words}
use Rattle.kdf_transfer.specs.Devices.{Fixture}
use Rattle.kdf_transfer.specs.declared.order.TransferOrder.{TransferOrder}
use Rattle.kdf_processor.specs.Effect.{Effect, Starting}
use Rattle.kdf_processor.specs.Needs.{group_of}
use Rattle.kdf_processor.specs.Row.{transferred}
use Rattle.kdf_processor.specs.State.{State, Stock, device_at, fixture_at}
use Rattle.kdf_transfer.specs.ByNumber.{device_count}

-- a transfer: its order and area, the lone state that the order met, and how many words it has moved
pub record Flight : Type 0 where
  pub order : TransferOrder
  pub first : ℕ
  pub last : ℕ
  pub before : State
  pub moved : ℕ

-- the words that it moves on a device that is such, each with its address, in order
abbrev pub moves_on : ℕ → Flight → Option Fixture → List (ℕ × ℕ)
moves_on d f None = []
moves_on d f (Some fixture) =
    moves f.order f.first f.last (order_words f.order f.first f.last f.before.stock.store) fixture
    (device_at f.before d)

-- the words that it moves on device d
abbrev pub all_moves : ℕ → Flight → List (ℕ × ℕ)
all_moves d f = moves_on d f (fixture_at f.before.stock.claims d)

-- how many they are
abbrev pub move_count : ℕ → Flight → ℕ
move_count d f = length (all_moves d f)

-- those that come to the store: an input order's
abbrev pub arrivals : ℕ → Flight → List (ℕ × ℕ)
arrivals d f = if is_input f.order then all_moves d f else []

-- those of them that it has still to move
abbrev pub unmoved : ℕ → Flight → List (ℕ × ℕ)
unmoved d f = drop f.moved (arrivals d f)

-- what the program has after the whole transfer
abbrev pub completed : ℕ → Flight → Stock
completed d f =
    transferred d f.order f.first f.last (fixture_at f.before.stock.claims d) f.before.stock

-- its area touches a group
abbrev pub touches : Option Flight → ℕ → Bool
touches None g = false
touches (Some f) g =
    has_area f.order && (nat_le (group_of f.first) g && nat_le g (group_of f.last))

-- the devices on which there is one, rising
abbrev pub mine_of : (ℕ → Option Flight) → List ℕ
mine_of flights = filter (λ d. is_some (flights d)) (range_with_len 0 device_count)

-- ---- how they change

-- the transfers, by the number of their device, where that on d is this one, or none
abbrev pub with_flight : ℕ → Option Flight → (ℕ → Option Flight) → ℕ → Option Flight
with_flight d f flights x = if x == d then f else flights x

-- a transfer that has moved n words
abbrev pub moved_to : ℕ → Flight → Flight
moved_to n f = record f { moved = n }

-- the transfers, of which that on d has moved n words
abbrev pub with_moved : ℕ → ℕ → Flight → (ℕ → Option Flight) → ℕ → Option Flight
with_moved d n f flights = with_flight d (Some (moved_to n f)) flights

-- a transfer that begins in a lone state
abbrev pub beginning : TransferOrder → (first last : ℕ) → State → Flight
beginning o first last s = record { order = o; first = first; last = last; before = s; moved = 0 }

-- the transfers after an order that had this effect in the lone state
abbrev pub flights_after : (ℕ → Option Flight) → State → Effect → ℕ → Option Flight
flights_after flights s (Starting d o first last after) =
    with_flight d (Some (beginning o first last s)) flights
flights_after flights s e = flights
