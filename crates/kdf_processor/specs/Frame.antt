-- States that agree in everything but what is hidden.
use Rattle.std.specs.Prelude.{◌≡◌, ℕ, Bool, true, false, List, length}
use Rattle.std.specs.List.{list_any}
use Rattle.kdf_journal.specs.declared.need.Need.{Need}
use Rattle.kdf_journal.specs.declared.need.Need.TheVariants.{Group, Device}
use Rattle.kdf_processor.specs.State.{State, word_at, device_at}
use Rattle.kdf_processor.specs.Needs.{group_of}

-- the states agree in everything but the words of the hidden groups and how far the hidden devices have come
pub record Agrees (hidden : Need → Bool) (s t : State) : Type 0 where
  pub registers : s.registers ≡ t.registers
  pub claims : s.stock.claims ≡ t.stock.claims
  pub spooled : s.stock.spooled ≡ t.stock.spooled
  pub asked : s.stock.asked ≡ t.stock.asked
  pub stints : s.stock.stints ≡ t.stock.stints
  pub size : length s.stock.store ≡ length t.stock.store
  pub number : length s.stock.devices ≡ length t.stock.devices
  pub words : (a : ℕ) → hidden (Group (group_of a)) ≡ false → word_at s a ≡ word_at t a
  pub devices : (d : ℕ) → hidden (Device d) ≡ false → device_at s d ≡ device_at t d

-- what is hidden is as it was
pub record Leaves (hidden : Need → Bool) (old new : State) : Type 0 where
  pub size : length old.stock.store ≡ length new.stock.store
  pub number : length old.stock.devices ≡ length new.stock.devices
  pub words : (a : ℕ) → hidden (Group (group_of a)) ≡ true → word_at new a ≡ word_at old a
  pub devices : (d : ℕ) → hidden (Device d) ≡ true → device_at new d ≡ device_at old d

-- none of the needs is hidden
abbrev pub HidesNone : (Need → Bool) → List Need → Type 0
HidesNone hidden ns = list_any hidden ns ≡ false
