-- A program's part of the machine, and what it has of its own beside its registers.
use Rattle.std.specs.Prelude.{ℕ, ◌+◌, ◌||◌, Bool, true, false, if◌then◌else◌, List, ◌∷◌, [], ◌++◌, map, Option, Some, None, is_some, slice_index_or, slice_set}
use Rattle.kdf_word.specs.Characters.{codes_of_all}
use Rattle.kdf_media.specs.Media.{through_end}
use Rattle.kdf_relocate.specs.declared.window.Window.{Window}
use Rattle.kdf_journal.specs.declared.kind.Kind.{Kind}
use Rattle.kdf_transfer.specs.Devices.{Fixture, DeviceProgress}
use Rattle.kdf_transfer.specs.declared.device.Device.{Device}
use Rattle.kdf_processor.specs.declared.registers.Registers.{Registers}
use Rattle.kdf_processor.specs.declared.spooled.Spooled.{Spooled}
use Rattle.kdf_job.specs.Slots.{lent_kind}
use Rattle.kdf_processor.specs.Claims.{taken_device}
use Rattle.kdf_processor.specs.Effect.{Act, Nothing, Writes, Starts, Asks, FreeOf, Acquires, Releases, Spools}
use Rattle.kdf_processor.specs.Row.{area_words}
use Rattle.kdf_processor.specs.State.{Claims, Stock}
use Rattle.kdf_yard.specs.declared.program.Program.{Program}
use Rattle.kdf_yard.specs.declared.slot.Loaded.{Loaded}
use Rattle.kdf_yard.specs.declared.stint.Stint.{Stint}
use Rattle.kdf_places.specs.Words.{own_words}
use Rattle.kdf_transfer.specs.ByNumber.{by_number}
use Rattle.kdf_places.specs.Spots.{Spot, fixture_or, spot_at, leases_of}
use Rattle.kdf_yard.specs.Fields.Stints.{Keeping, Loan, Lent, Back, keeping_of, left_in, lends, stint_of, with_loan}
use Rattle.kdf_places.specs.Shared.{Shared}
use Rattle.kdf_theory.specs.Loading.{owns}

-- what contracts see of a program: its slot, its registers, which devices it claimed, what it spooled, and its stints
pub record Seat : Type 0 where
  pub p : ℕ
  pub registers : Registers
  pub claimed : List Bool
  pub spooled : List Spooled
  pub stints : List Keeping

abbrev pub seat : ℕ → Registers → List Bool → List Spooled → List Keeping → Seat
seat p registers claimed spooled stints =
    record { p = p; registers = registers; claimed = claimed; spooled = spooled; stints = stints }

-- the program that has a device of the pool now
abbrev pub borrower : List Seat → ℕ → Option ℕ
borrower [] d = None
borrower (x ∷ seats) d = if lends x.stints d then Some x.p else borrower seats d

-- a device of the pool is some program's
abbrev pub is_lent_by : List Seat → ℕ → Bool
is_lent_by seats d = is_some (borrower seats d)

abbrev pub seat_of : Program → Seat
seat_of program =
    seat program.p program.registers program.claimed program.spooled.items (map keeping_of program.stints.items)

-- what a slot reaches of the machine: its window, the devices of these numbers, by number the kinds of those in the
-- pool, and the service where it is served
pub record Reach : Type 0 where
  pub base : ℕ
  pub size : ℕ
  pub devices : List ℕ
  pub pool : List (Option Kind)
  pub served : Bool

-- the numbers of a slot's devices
abbrev pub numbers : List (ℕ × Device) → List ℕ
numbers devices = map (λ (x : ℕ × Device). x.0) devices

abbrev pub window_at : List Window → ℕ → Window
window_at windows p = slice_index_or windows p (record { base = 0; size = 0 })

abbrev pub reach : Window → Loaded → Reach
reach window slot =
    record {
      base = window.base;
      size = window.size;
      devices = numbers slot.devices.items;
      pool = by_number (lent_kind slot.pool.items);
      served = slot.served;
    }

abbrev pub reach_of : List Window → Loaded → Reach
reach_of windows slot = reach (window_at windows slot.p) slot

-- a program's part of the machine
pub record Part : Type 0 where
  pub p : ℕ
  pub base : ℕ
  pub size : ℕ
  pub devices : List ℕ
  pub pool : List (Option Kind)
  pub served : Bool
  pub claimed : List Bool
  pub spooled : List Spooled
  pub stints : List Keeping

abbrev pub part_in : Seat → Reach → Part
part_in seat reach =
    record {
      p = seat.p;
      base = reach.base;
      size = reach.size;
      devices = reach.devices;
      pool = reach.pool;
      served = reach.served;
      claimed = seat.claimed;
      spooled = seat.spooled;
      stints = seat.stints;
    }

-- that of a program with these fields, over a window and in a slot
abbrev pub part_with : ℕ → Window → Loaded → List Bool → List Spooled → List Stint → Part
part_with p window slot claimed spooled stints =
    record {
      p = p;
      base = window.base;
      size = window.size;
      devices = numbers slot.devices.items;
      pool = by_number (lent_kind slot.pool.items);
      served = slot.served;
      claimed = claimed;
      spooled = spooled;
      stints = map keeping_of stints;
    }

-- what the device of this number is, where it is one of these
abbrev pub fixture_owned : List ℕ → List Spot → ℕ → Option Fixture
fixture_owned devices spots d = if owns devices d then (spot_at spots d).fixture else None

-- the kind of a device of the pool, where it has one of this number
abbrev pub pool_kind : Part → ℕ → Option Kind
pool_kind q d = slice_index_or q.pool d None

abbrev pub in_pool : Part → ℕ → Bool
in_pool q d = is_some (pool_kind q d)

-- a device is the program's: one of its slot, whether it is claimed or not, or one of the pool that it has now
abbrev pub has_device : Part → ℕ → Bool
has_device q d = owns q.devices d || lends q.stints d

abbrev pub own_fixture : Part → List Spot → ℕ → Option Fixture
own_fixture q spots d = fixture_owned q.devices spots d

-- how far a device has come: as its place has it where it is the program's, and else as the program, which is over, has
-- kept it
abbrev pub own_progress : Part → List Spot → ℕ → DeviceProgress
own_progress q spots d =
    if has_device q d then (spot_at spots d).progress else left_in q.stints d

-- what a program's orders are checked against
abbrev pub own_claims : Part → Shared → Claims
own_claims q s =
    record {
      size = q.size;
      claimed = q.claimed;
      fixtures = by_number (own_fixture q s.spots);
      pool = q.pool;
      served = q.served;
    }

-- what a program has beside its registers, after so many answers
abbrev pub own_stock : Part → ℕ → Shared → Stock
own_stock q asked s =
    record {
      claims = own_claims q s;
      spooled = q.spooled;
      asked = asked;
      stints = map stint_of q.stints;
      store = own_words q.base q.size s.cells (leases_of s.spots);
      devices = by_number (own_progress q s.spots);
    }

-- the characters of an area up to and with the first End Message, or all
abbrev pub own_text : Part → Shared → ℕ → ℕ → List ℕ
own_text q s first last = through_end (codes_of_all (area_words first last (own_stock q 0 s)))

-- the device of the pool that is lent where this is answered
abbrev pub lent_to : Part → Shared → Kind → ℕ → ℕ
lent_to q s kind answer = taken_device (own_claims q s) kind answer

-- the device of a place as it goes to its stint when it is given back
abbrev pub back_from : Spot → Loan
back_from x = Back (fixture_or x.fixture) x.progress

-- what an acting call leaves of the program's part
abbrev pub part_after : Part → Shared → Act → Part
part_after q s Nothing = q
part_after q s (Writes a w) = q
part_after q s (Starts d o first last) = q
part_after q s (Asks (FreeOf kind) answer) =
    record q {
      claimed = slice_set q.claimed (lent_to q s kind answer) true;
      stints = q.stints ++ record { device = lent_to q s kind answer; loan = Lent } ∷ [];
    }
part_after q s (Asks question answer) = q
part_after q s (Acquires d) = record q { claimed = slice_set q.claimed d true }
part_after q s (Releases true d) =
    record q {
      claimed = slice_set q.claimed d false;
      stints = map (with_loan d (back_from (spot_at s.spots d))) q.stints;
    }
part_after q s (Releases false d) = record q { claimed = slice_set q.claimed d false }
part_after q s (Spools stream first last) =
    record q { spooled = q.spooled ++ record { stream = stream; text = own_text q s first last } ∷ [] }

-- how many answers it took then
abbrev pub asked_after : ℕ → Act → ℕ
asked_after asked Nothing = asked
asked_after asked (Writes a w) = asked
asked_after asked (Starts d o first last) = asked
asked_after asked (Asks question answer) = asked + 1
asked_after asked (Acquires d) = asked
asked_after asked (Releases pooled d) = asked
asked_after asked (Spools stream first last) = asked
