-- What a machine lends: the windows of its programs, its store, and its transfers.
use Rattle.std.specs.Prelude.{◌≡◌, ℕ, ◌+◌, ◌-◌, ◌/◌, ◌<◌, ◌==◌, List, [], ◌∷◌, true, false, Option, Some, None, is_some, if◌then◌else◌, IsSomeAnd}
use Rattle.std.specs.Option.{option_map}
use Rattle.kdf_lockout.specs.Groups.{Cells, is_out, word_here}
use Rattle.kdf_relocate.specs.Windows.{windows_from}
use Rattle.kdf_relocate.specs.declared.window.Window.{Window}
use Rattle.kdf_transfer.specs.AtOnce.{has_area}
use Rattle.kdf_transfer.specs.InFlight.{Motion, Covers, lent_at, total_of}
use Rattle.kdf_journal.specs.declared.need.Need.TheVariants.{Group}
use Rattle.kdf_processor.specs.Claims.{is_claimed}
use Rattle.kdf_processor.specs.Needs.{group_of}
use Rattle.kdf_transfer.specs.Slots.{Slot}
use Rattle.kdf_processor.specs.State.{State, device_at, fixture_at, word_at}
use Rattle.kdf_theory.specs.Flights.{Flight, move_count, touches}
use Rattle.kdf_yard.specs.Fields.Parts.{window_at}
use Rattle.kdf_theory.specs.MachineView.{MachineView, state_of}
use Rattle.kdf_theory.specs.Slots.{slot_of}
use Rattle.kdf_theory.specs.ByJournal.{flights_of, is_pending_after, own_after}
use Rattle.kdf_limits.specs.declared.store.TheConstants.{DIRECTOR_WORDS}

-- ---- windows

-- the size of slot p, 0 where it is absent
abbrev pub size_in : List Slot → ℕ → ℕ
size_in [] p = 0
size_in (s ∷ slots) p = if s.p == p then s.size else size_in slots p

-- the windows of the slots 0 to 3, one after the other from place 1,024 on
abbrev pub windows_in : List Slot → List Window
windows_in slots =
    windows_from DIRECTOR_WORDS (size_in slots 0 ∷ size_in slots 1 ∷ size_in slots 2 ∷ size_in slots 3 ∷ [])

-- the window of slot p, where there is such a slot
abbrev pub window_in : List Slot → ℕ → Option Window
window_in slots p = option_map (λ _. window_at (windows_in slots) p) (slot_of slots p)

-- the place in the store of address a of program p
abbrev pub place_of : List Slot → ℕ → ℕ → ℕ
place_of slots p a = (window_at (windows_in slots) p).base + a

-- ---- the store

-- the group of address a of program p is out of the store exactly where it is pending for the program; where it is
-- here, the store has the program's word at its place
pub record IsStored (m : MachineView) (cells : Cells) (p a : ℕ) (own : State) : Type 0 where
  pub out : is_out cells (place_of m.slots p a / 32)
      ≡ is_pending_after m.slots m.journal p (Group (group_of a))
  pub word : is_out cells (place_of m.slots p a / 32) ≡ false
      → word_here cells (place_of m.slots p a) ≡ word_at own a

-- ---- transfers

-- The transfer on device d of program p, which has claimed the device, is this flight: its device is as at the begin,
-- it moves as many words and has moved as many, its lease has exactly the groups that the area touches in the program's
-- window, and these have the program's words.
pub record IsFlight (m : MachineView) (p d : ℕ) (own : State) (t : Motion) (f : Flight) : Type 0 where
  pub claimed : is_claimed own.stock.claims d ≡ true
  pub order : t.order ≡ f.order
  pub fixture : fixture_at f.before.stock.claims d ≡ Some t.fixture
  pub progress : device_at f.before d ≡ t.progress
  pub total : total_of t ≡ move_count d f
  pub moved : t.moved ≡ f.moved
  pub lease : is_some t.lease ≡ has_area f.order
  pub groups : has_area f.order ≡ true
      → Covers t.lease (place_of m.slots p f.first) (place_of m.slots p f.last)
  pub words : (a : ℕ) → a < own.stock.claims.size → touches (Some f) (group_of a) ≡ true
      → lent_at t.lease (place_of m.slots p a) ≡ word_at own a

-- it is the one that own order k of program p began on device d, which met this state of the program's lone run
pub record IsBegun (m : MachineView) (p k d : ℕ) (t : Motion) : Type 0 where
  pub flight : Flight
  pub told : flights_of m.slots m.journal p d ≡ Some flight
  pub before : flight.before ≡ own_after m.slots m.journal p (k - 1)
  pub is_it : IsSomeAnd (state_of m p) (λ own. IsFlight m p d own t flight)

-- the transfer on device d, by what the journal has pending there
abbrev pub IsLent : MachineView → ℕ → Option (ℕ × ℕ) → Option Motion → Type 0
IsLent m d None t = t ≡ None
IsLent m d (Some begun) None = ⊥
IsLent m d (Some begun) (Some t) = IsBegun m begun.0 begun.1 d t
