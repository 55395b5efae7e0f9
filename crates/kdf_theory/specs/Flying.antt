-- What holds of the transfers of a program that are in flight.
use Rattle.std.specs.Prelude.{◌≡◌, ◌≢◌, ◌≤◌, ℕ, length, true, false, Option, Some, None}
use Rattle.kdf_transfer.specs.AtOnce.{IsArea, has_area, kind_of}
use Rattle.kdf_transfer.specs.Devices.{is_kind}
use Rattle.kdf_processor.specs.Claims.{claim}
use Rattle.kdf_processor.specs.Needs.{group_of}
use Rattle.kdf_processor.specs.State.{State, device_at, device_in, fixture_at, word_at, word_in}
use Rattle.kdf_theory.specs.Flights.{Flight, completed, move_count, touches}

-- The transfer on device d is in flight in the lone state s. The program has claimed the device, which is of the
-- order's kind and what it was; the area is one of the store; no more words have moved than there are; and the groups
-- of the area and the device are as the whole transfer left them.
pub record InFlight (s : State) (d : ℕ) (f : Flight) : Type 0 where
  pub claimed : is_kind (kind_of f.order) (claim s.stock.claims d) ≡ true
  pub fixture : fixture_at s.stock.claims d ≡ fixture_at f.before.stock.claims d
  pub size : length s.stock.store ≡ length f.before.stock.store
  pub area : has_area f.order ≡ true → IsArea f.first f.last (length s.stock.store)
  pub moved : f.moved ≤ move_count d f
  pub words : (a : ℕ) → touches (Some f) (group_of a) ≡ true → word_at s a ≡ word_in (completed d f) a
  pub device : device_at s d ≡ device_in (completed d f) d

abbrev pub IfFlight : State → ℕ → Option Flight → Type 0
IfFlight s d None = Unit {0}
IfFlight s d (Some f) = InFlight s d f

-- each of these transfers is in flight, and no two touch a common group
pub record AreFlying (flights : ℕ → Option Flight) (s : State) : Type 0 where
  pub sized : length s.stock.store ≡ s.stock.claims.size
  pub each : (d : ℕ) → IfFlight s d (flights d)
  pub apart : (d e g : ℕ) → d ≢ e → touches (flights d) g ≡ true → touches (flights e) g ≡ false
