-- How a yard stands before the first order.
use Rattle.std.specs.Prelude.{◌≡◌, ℕ, ◌<◌, List, length, map, None, slice_index_or}
use Rattle.kdf_processor.specs.State.{begin}
use Rattle.kdf_places.specs.Spots.{spot_at}
use Rattle.kdf_theory.specs.Loading.{AreLoads, SlotLoad, loaded_slot}
use Rattle.kdf_yard.specs.Fields.Filled.{first_seat}
use Rattle.kdf_yard.specs.Fields.Parts.{borrower}
use Rattle.kdf_yard.specs.Fields.Running.{IsRunning, own_state}
use Rattle.kdf_yard.specs.Fields.Standing.{Standing}
use Rattle.kdf_theory.specs.Slots.{AreSlots}

-- it was loaded with these slots: each program is at its start, no device has a transfer, and none of the pool is lent
pub record IsLoaded (slots : List SlotLoad) (y : Standing) : Type 0 where
  pub loads_are : AreLoads slots
  pub slots_are : y.slots ≡ map loaded_slot slots
  pub can_be_loaded : AreSlots (map loaded_slot slots)
  pub programs_are : y.seats ≡ map first_seat slots
  pub no_hold : y.holds ≡ map (λ _. None) slots
  pub running : IsRunning y.reaches y.seats y.shared
  pub starts : (i : ℕ) (l : SlotLoad) → i < length slots
      → own_state y.reaches y.seats y.shared 0 i ≡ begin (loaded_slot (slice_index_or slots i l))
  pub idle : (d : ℕ) → (spot_at y.shared.spots d).flight ≡ None
  pub unlent : (d : ℕ) → borrower y.seats d ≡ None
