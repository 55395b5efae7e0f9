-- What a journal tells of each program: its state by itself, its transfers in flight, and what is seen of it.
-- J is the journal so far, oldest entry first.
use Rattle.std.specs.Prelude.{ℕ, ◌+◌, ◌-◌, ◌==◌, ◌&&◌, not, min, find, List, Bool, false, Option, Some, None, is_some, if◌then◌else◌}
use Rattle.std.specs.List.{filter, range_with_len}
use Rattle.kdf_journal.specs.declared.entry.Entry.{Entry}
use Rattle.kdf_journal.specs.Counts.{ran, answers, pending, moved, holder}
use Rattle.kdf_journal.specs.declared.need.Need.{Need}
use Rattle.kdf_journal.specs.declared.need.Need.TheVariants.{Group, Device, Pool}
use Rattle.kdf_journal.specs.declared.kind.Kind.{Kind}
use Rattle.kdf_transfer.specs.Devices.{is_kind}
use Rattle.kdf_processor.specs.Effect.{Effect, Starting}
use Rattle.kdf_processor.specs.Lone.{lone}
use Rattle.kdf_processor.specs.Needs.{next_effect}
use Rattle.kdf_transfer.specs.Slots.{Slot}
use Rattle.kdf_transfer.specs.ByNumber.{device_count}
use Rattle.kdf_processor.specs.State.{State, pool_kind_at}
use Rattle.kdf_theory.specs.Flights.{Flight, beginning, move_count, moved_to}
use Rattle.kdf_theory.specs.Seen.{seen, touched_below}
use Rattle.kdf_theory.specs.Slots.{start}
use Rattle.kdf_theory.specs.World.{World}

-- ---- a program by itself

-- the state of program p run alone for n orders, with the answers that it was given
abbrev pub own_after : List Slot → List Entry → ℕ → ℕ → State
own_after slots J p n = lone (start slots p) (answers p J) n

-- the state of program p run alone for as many orders as the journal counts, with the answers that it was given
unfoldable pub own : List Slot → List Entry → ℕ → State
own slots J p = own_after slots J p (ran p J)

-- ---- its transfers

-- a transfer on device d after n words were called for: it has moved so many, or all
abbrev pub called_for : ℕ → ℕ → Flight → Flight
called_for n d f = moved_to (min n (move_count d f)) f

-- the transfer that an effect begins on device d in a lone state, after n words were called for
abbrev pub flight_by : ℕ → ℕ → State → Effect → Option Flight
flight_by n d s (Starting e o first last after) = Some (called_for n d (beginning o first last s))
flight_by n d s e = None

-- the transfer that own order k of program p began on device d
abbrev pub flight_from : List Slot → List Entry → ℕ → ℕ → ℕ → Option Flight
flight_from slots J p d k =
    flight_by (moved d J) d (own_after slots J p (k - 1)) (next_effect (own_after slots J p (k - 1)))

-- where a transfer is program p's that this order of this program began
abbrev pub flight_of : List Slot → List Entry → ℕ → ℕ → Option (ℕ × ℕ) → Option Flight
flight_of slots J p d None = None
flight_of slots J p d (Some begun) = if begun.0 == p then flight_from slots J p d begun.1 else None

-- the transfers of program p that are in flight, by the number of their device
unfoldable pub flights_of : List Slot → List Entry → ℕ → ℕ → Option Flight
flights_of slots J p d = flight_of slots J p d (pending d J)

-- a transfer on device d, where there is one, after n words more were called for
abbrev pub further : ℕ → ℕ → Option Flight → Option Flight
further d n None = None
further d n (Some f) = Some (called_for (f.moved + n) d f)

-- what is seen of program p
abbrev pub seen_of : List Slot → List Entry → ℕ → State
seen_of slots J p = seen (flights_of slots J p) (own slots J p)

-- ---- what is pending

-- a device of program p's pool is of a kind, and no program has it
abbrev pub is_free_after : List Slot → List Entry → ℕ → Kind → ℕ → Bool
is_free_after slots J p kind d =
    is_kind kind (pool_kind_at (start slots p).stock.claims d) && not (is_some (holder d J))

-- the least such device
unfoldable pub free_after : List Slot → List Entry → ℕ → Kind → Option ℕ
free_after slots J p kind = find (is_free_after slots J p kind) (range_with_len 0 device_count)

-- what of program p is pending: a group that its transfers touch, a device that has a transfer, whosever it is, or a
-- kind of which each device in the pool has a holder
abbrev pub is_pending_after : List Slot → List Entry → ℕ → Need → Bool
is_pending_after slots J p (Group g) = touched_below device_count (flights_of slots J p) g
is_pending_after slots J p (Device d) = is_some (pending d J)
is_pending_after slots J p (Pool kind) = not (is_some (free_after slots J p kind))

-- a transfer of program p
abbrev pub is_of : ℕ → Option (ℕ × ℕ) → Bool
is_of p None = false
is_of p (Some begun) = begun.0 == p

-- the devices on which program p has a transfer, rising
unfoldable pub mine_after : List Entry → ℕ → List ℕ
mine_after J p = filter (λ d. is_of p (pending d J)) (range_with_len 0 device_count)

-- the world of these states, and of what the journal J tells
abbrev pub world_after : List Slot → List Entry → (ℕ → State) → World
world_after slots J states =
    record { state = states; pending = is_pending_after slots J; mine = mine_after J; free = free_after slots J }

-- that of the programs run alone
abbrev pub lone_world : List Slot → List Entry → World
lone_world slots J = world_after slots J (own slots J)

-- the world of what is seen of the programs
abbrev pub seen_world : List Slot → List Entry → World
seen_world slots J = world_after slots J (seen_of slots J)
