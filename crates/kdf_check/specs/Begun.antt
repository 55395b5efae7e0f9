-- A program before its first order.
use Rattle.std.specs.Prelude.{◌≡◌, None}
use Rattle.kdf_transfer.specs.Slots.{Slot}
use Rattle.kdf_processor.specs.State.{begin}
use Rattle.kdf_alone.specs.LonePort.{state_with}
use Rattle.kdf_check.specs.declared.program.Program.{Program}

-- it is that of the slot, and nothing has held it
pub record IsBegun (s : Slot) (x : Program) : Type 0 where
  pub number : x.p ≡ s.p
  pub begun : state_with x.registers x.bench ≡ begin s
  pub free : x.hold ≡ None
