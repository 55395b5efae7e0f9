-- The machine, linked with its journal: what each program has is what is seen of it, and each transfer is one that the
-- journal tells. J is the journal so far, oldest entry first.
use Rattle.std.specs.Prelude.{◌≡◌, ◌≢◌, ℕ, ◌+◌, ◌<◌, List, length, false, Option, Some, None, is_some}
use Rattle.kdf_journal.specs.declared.entry.Entry.{Entry}
use Rattle.kdf_journal.specs.Counts.{answers, pending}
use Rattle.kdf_transfer.specs.AtOnce.{is_input, order_words}
use Rattle.kdf_transfer.specs.InFlight.{area_words}
use Rattle.kdf_transfer.specs.Slots.{Slot}
use Rattle.kdf_processor.specs.State.{State, device_at, fixture_at}
use Rattle.kdf_theory.specs.Flights.{Flight}
use Rattle.kdf_theory.specs.ByJournal.{flights_of, seen_of}
use Rattle.kdf_places.specs.Spots.{Held, spot_at}
use Rattle.kdf_yard.specs.Fields.Parts.{Part, Seat, Reach}
use Rattle.kdf_places.specs.Shared.{Shared}
use Rattle.kdf_yard.specs.Fields.Running.{seat_at, part_at, own_state}

-- A transfer of the machine is the flight that the journal tells: its order, its area placed by the window, the device
-- as it was at the begin, how many words have moved, and the words that go out.
pub record IsLink (q : Part) (d : ℕ) (h : Held) (f : Flight) : Type 0 where
  pub owner : h.p ≡ q.p
  pub order : h.motion.order ≡ f.order
  pub first : h.motion.first ≡ q.base + f.first
  pub last : h.motion.last ≡ q.base + f.last
  pub fixture : fixture_at f.before.stock.claims d ≡ Some h.motion.fixture
  pub there : d < length f.before.stock.devices
  pub progress : device_at f.before d ≡ h.motion.progress
  pub moved : h.motion.moved ≡ f.moved
  pub words : is_input f.order ≡ false
      → area_words h.motion.order h.motion.first h.motion.last h.motion.lease
      ≡ order_words f.order f.first f.last f.before.stock.store

-- the transfer on a device is the program's flight there; where the program has none, it is another's
abbrev pub Linked : Part → ℕ → Option Held → Option Flight → Type 0
Linked q d None None = Unit {0}
Linked q d None (Some f) = ⊥
Linked q d (Some h) None = h.p ≢ q.p
Linked q d (Some h) (Some f) = IsLink q d h f

-- what a program has is what is seen of it, and its transfers are those that the journal tells
pub record IsFollowing (slots : List Slot) (J : List Entry) (q : Part) (own : State) (s : Shared) : Type 0 where
  pub is_seen : own ≡ seen_of slots J q.p
  pub linked : (d : ℕ) → Linked q d (spot_at s.spots d).flight (flights_of slots J q.p d)

-- how many answers program i has taken
abbrev pub asked_at : List Seat → List Entry → ℕ → ℕ
asked_at seats J i = length (answers (seat_at seats i).p J)

-- so it is with each program, and a device has a transfer exactly where the journal tells one
pub record AreFollowing (slots : List Slot) (J : List Entry) (reaches : List Reach) (seats : List Seat)
    (s : Shared) : Type 0 where
  pub each : (i : ℕ) → i < length seats
      → IsFollowing slots J (part_at reaches seats i) (own_state reaches seats s (asked_at seats J i) i) s
  pub busy : (d : ℕ) → is_some (spot_at s.spots d).flight ≡ is_some (pending d J)
