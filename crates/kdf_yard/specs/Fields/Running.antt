-- The programs of a machine over what they share: each program's own state, and what holds at each moment.
use Rattle.std.specs.Prelude.{◌≡◌, ◌≢◌, ℕ, ◌+◌, ◌*◌, ◌%◌, ◌<◌, ◌≤◌, List, [], length, map, true, false, Option, Some, None, is_some, slice_index_or, slice_set}
use Rattle.std.specs.Prelude.{◌==◌, if◌then◌else◌}
use Rattle.kdf_relocate.specs.declared.window.Window.{Window}
use Rattle.kdf_transfer.specs.AtOnce.{written}
use Rattle.kdf_transfer.specs.InFlight.{total_of, ended_progress}
use Rattle.kdf_journal.specs.declared.need.Need.{Need}
use Rattle.kdf_processor.specs.Effect.{Question}
use Rattle.kdf_processor.specs.Lone.{is_live}
use Rattle.kdf_processor.specs.Needs.{needs}
use Rattle.kdf_processor.specs.Outcome.{Outcome, held_or}
use Rattle.kdf_processor.specs.Row.{next_of}
use Rattle.kdf_processor.specs.State.{State, new_registers}
use Rattle.kdf_processor.specs.View.{first_pending}
use Rattle.kdf_yard.specs.declared.moment.Moment.{Moment}
use Rattle.kdf_yard.specs.declared.program.Program.{Program}
use Rattle.kdf_yard.specs.declared.slot.Loaded.{Loaded}
use Rattle.kdf_yard.specs.Fields.Keeping.{IsActive, IsKept}
use Rattle.kdf_yard.specs.Fields.Parts.{Part, Seat, Reach, has_device, in_pool, is_lent_by, seat_of, reach_of, part_in, own_stock, borrower}
use Rattle.kdf_theory.specs.Loading.{owns}
use Rattle.kdf_places.specs.Shared.{Shared, IsSound}
use Rattle.kdf_yard.specs.Fields.Shared.{answer_in, moment, setting, view}
use Rattle.kdf_yard.specs.Fields.Stints.{lends}
use Rattle.kdf_transfer.specs.Devices.{new_progress}
use Rattle.kdf_places.specs.Transfers.{flight_moves}
use Rattle.kdf_yard.specs.Fields.Sound.{IsFlightOf}
use Rattle.kdf_places.specs.Spots.{Held, Spot, spot_at, own_from}
use Rattle.kdf_journal.specs.declared.entry.Entry.{Entry}
use Rattle.kdf_theory.specs.Holders.{held_by}

abbrev pub no_seat : Seat
no_seat = record { p = 0; registers = new_registers; claimed = []; spooled = []; stints = [] }

abbrev pub seat_at : List Seat → ℕ → Seat
seat_at seats i = slice_index_or seats i no_seat

abbrev pub reach_at : List Reach → ℕ → Reach
reach_at reaches i = slice_index_or reaches i (record { base = 0; size = 0; devices = []; pool = []; served = false })

abbrev pub reaches_in : List Window → List Loaded → List Reach
reaches_in windows slots = map (reach_of windows) slots

abbrev pub seats_in : List Program → List Seat
seats_in programs = map seat_of programs

-- the part of program i
abbrev pub part_at : List Reach → List Seat → ℕ → Part
part_at reaches seats i = part_in (seat_at seats i) (reach_at reaches i)

-- its own state after so many answers: its registers, the words of its window here and out, and its devices
unfoldable pub own_state : List Reach → List Seat → Shared → ℕ → ℕ → State
own_state reaches seats s asked i =
    record {
      registers = (seat_at seats i).registers;
      stock = own_stock (part_at reaches seats i) asked s;
    }

-- the first need of its next order that is pending
unfoldable pub hold_of : List Reach → List Seat → Shared → ℕ → Option Need
hold_of reaches seats s i =
    first_pending (view (part_at reaches seats i) (setting (is_lent_by seats) (moment 0 0)) s)
    (needs (own_state reaches seats s 0 i) (own_from (seat_at seats i).p 0 s.spots))

-- what it is answered at a moment
abbrev pub answers_at : List Reach → List Seat → Moment → Shared → ℕ → Question → ℕ
answers_at reaches seats m s i = answer_in (part_at reaches seats i) (setting (is_lent_by seats) m) s

-- what the try of its next order comes to at a moment, by its own state
unfoldable pub outcome_at : List Reach → List Seat → Shared → Moment → ℕ → ℕ → Outcome
outcome_at reaches seats s m asked i =
    held_or (seat_at seats i).registers (hold_of reaches seats s i)
    (next_of (own_state reaches seats s asked i) (answers_at reaches seats m s i))

-- a transfer is of one of the programs
pub record IsHeld (reaches : List Reach) (seats : List Seat) (d : ℕ) (x : Spot) (h : Held) : Type 0 where
  pub by : ℕ
  pub there : by < length seats
  pub flight : IsFlightOf (part_at reaches seats by) d x h

-- programs that stand by their slots
abbrev pub AreNumbered : List Seat → Type 0
AreNumbered seats = (i j : ℕ) → i < j → j < length seats → (seat_at seats i).p < (seat_at seats j).p

-- no program has a device now that the pool lends
abbrev pub IsUnlent : List Seat → ℕ → Type 0
IsUnlent seats d = (j : ℕ) → j < length seats → lends (seat_at seats j).stints d ≡ false

-- the programs stand by their slots, the windows lie one after the other, the pool is common, each program keeps what
-- it has, no device is two programs', one of the pool has moved nothing while it is nobody's, and each transfer is of a
-- program
pub record IsRunning (reaches : List Reach) (seats : List Seat) (s : Shared) : Type 0 where
  pub sound : IsSound s
  pub numbered : AreNumbered seats
  pub at_group : (i : ℕ) → i < length seats → (reach_at reaches i).base % 32 ≡ 0
  pub in_store : (i : ℕ) → i < length seats
      → (reach_at reaches i).base + (reach_at reaches i).size ≤ 32 * length s.cells
  pub apart : (i j : ℕ) → i < j → j < length seats
      → (reach_at reaches i).base + (reach_at reaches i).size ≤ (reach_at reaches j).base
  pub common : (i j : ℕ) → i < length seats → j < length seats → (reach_at reaches i).pool ≡ (reach_at reaches j).pool
  pub kept : (i : ℕ) → i < length seats → IsKept (part_at reaches seats i) s
  pub active : (i : ℕ) → i < length seats → is_live (seat_at seats i).registers.state ≡ true
      → IsActive (part_at reaches seats i)
  pub single : (i j d : ℕ) → i < length seats → j < length seats → i ≢ j
      → has_device (part_at reaches seats i) d ≡ true → has_device (part_at reaches seats j) d ≡ false
  pub fresh : (i d : ℕ) → i < length seats → in_pool (part_at reaches seats i) d ≡ true → IsUnlent seats d
      → (spot_at s.spots d).progress ≡ new_progress
  pub fixtures : (i d : ℕ) → i < length seats → owns (reach_at reaches i).devices d ≡ true
      → is_some (spot_at s.spots d).fixture ≡ true
  pub flights : (d : ℕ) (h : Held) → (spot_at s.spots d).flight ≡ Some h
      → IsHeld reaches seats d (spot_at s.spots d) h

-- a program's state after n words more of a transfer
abbrev pub moved_own : Part → ℕ → Option Held → State → State
moved_own q n None s = s
moved_own q n (Some h) s =
    if h.p == q.p
    then record s {
      stock = record s.stock { store = written (flight_moves q.base n h.motion) s.stock.store };
    }
    else s

-- a program's state after the end of the transfer on device d
abbrev pub ended_own : Part → ℕ → Option Held → State → State
ended_own q d None s = s
ended_own q d (Some h) s =
    if h.p == q.p
    then record s {
      stock = record s.stock {
        store = written (flight_moves q.base (total_of h.motion) h.motion) s.stock.store;
        devices = slice_set s.stock.devices d (ended_progress h.motion);
      };
    }
    else s

-- who has each device of the pool is told so
abbrev pub AreHeld : (held : ℕ → Option ℕ) → List Reach → List Seat → Type 0
AreHeld held reaches seats =
    (i d : ℕ) → i < length seats → in_pool (part_at reaches seats i) d ≡ true → borrower seats d ≡ held d

-- each device of the pool is whose the journal tells
abbrev pub AreLent : List Entry → List Reach → List Seat → Type 0
AreLent J reaches seats = AreHeld (held_by J) reaches seats
