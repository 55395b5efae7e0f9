-- A slot.
use Rattle.std.specs.Prelude.{ℕ, Bool, List, Option}
use Rattle.kdf_journal.specs.declared.kind.Kind.{Kind}
use Rattle.kdf_transfer.specs.Devices.{Fixture, DeviceProgress}

-- a slot as it is loaded: its number, the size of its store, the words of its image, its devices by number, by number the
-- kinds of those in the pool, and whether an installation's service answers its program
pub record Slot : Type 0 where
  pub p : ℕ
  pub size : ℕ
  pub words : List ℕ
  pub fixtures : List (Option Fixture)
  pub devices : List DeviceProgress
  pub pool : List (Option Kind)
  pub served : Bool
