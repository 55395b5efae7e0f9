-- Memory that is taken before an order is obeyed.
use Rattle.std.specs.Prelude.{ℕ}
use Rattle.kdf_transfer.specs.declared.order.TransferOrder.{TransferOrder}
use Rattle.kdf_processor.specs.declared.registers.Registers.{Registers}
use Rattle.kdf_processor.specs.declared.step.Step.{Step}
use Rattle.kdf_processor.specs.Effect.{Act, Nothing, Writes, Starts, Asks, FreeOf, Acquires, Releases, Spools}
use Rattle.kdf_processor.specs.Outcome.{Outcome, CameTo}

-- there is room for what an act keeps: for a transfer, for a text, for a stint with its answer, and for an answer
abbrev pub RoomFor : (ℕ → TransferOrder → ℕ → ℕ → Type 0) → (ℕ → ℕ → Type 0) → Type 0 → Type 0 → Act → Type 0
RoomFor can_start can_spool can_take can_ask Nothing = Unit {0}
RoomFor can_start can_spool can_take can_ask (Writes a w) = Unit {0}
RoomFor can_start can_spool can_take can_ask (Starts d o first last) = can_start d o first last
RoomFor can_start can_spool can_take can_ask (Asks (FreeOf kind) answer) = can_take
RoomFor can_start can_spool can_take can_ask (Asks question answer) = can_ask
RoomFor can_start can_spool can_take can_ask (Acquires d) = Unit {0}
RoomFor can_start can_spool can_take can_ask (Releases pooled d) = Unit {0}
RoomFor can_start can_spool can_take can_ask (Spools stream first last) = can_spool first last

-- an order came to this outcome over a port that took memory first
pub record WithRoom {P : Type 0} (keeps : P → P → Type 0) (acts : P → Act → P → Type 0) (o : Outcome) (old new : P)
    (left : Registers) (ended : Step) : Type 0 where
  pub kept : P
  pub stays : keeps old kept
  pub obeyed : CameTo acts o kept new left ended
