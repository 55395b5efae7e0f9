-- Memory for the act of an order.
use Rattle.std.proofs.Common.{ℕ}
use Rattle.kdf_transfer.specs.declared.order.TransferOrder.{TransferOrder}
use Rattle.kdf_processor.specs.Ahead.{IsSmall}
use Rattle.kdf_processor.specs.Effect.{Act, Nothing, Writes, Starts, Asks, IsBusy, IsOut, Time, OfService, FreeOf, Acquires, Releases, Spools}
use Rattle.kdf_processor.specs.Room.{RoomFor}

-- a small act wants room for an answer at most
pub little_room : (can_start : ℕ → TransferOrder → ℕ → ℕ → Type 0) (can_spool : ℕ → ℕ → Type 0) (can_take can_ask : Type 0) (act : Act)
    → can_ask → IsSmall act → RoomFor can_start can_spool can_take can_ask act
little_room can_start can_spool can_take can_ask Nothing can small = tt
little_room can_start can_spool can_take can_ask (Writes a w) can small = tt
little_room can_start can_spool can_take can_ask (Starts d o first last) can small = absurd small
little_room can_start can_spool can_take can_ask (Asks (IsBusy d) answer) can small = can
little_room can_start can_spool can_take can_ask (Asks (IsOut first last) answer) can small = can
little_room can_start can_spool can_take can_ask (Asks Time answer) can small = can
little_room can_start can_spool can_take can_ask (Asks (FreeOf kind) answer) can small = absurd small
little_room can_start can_spool can_take can_ask (Asks (OfService word) answer) can small = can
little_room can_start can_spool can_take can_ask (Acquires d) can small = tt
little_room can_start can_spool can_take can_ask (Releases pooled d) can small = tt
little_room can_start can_spool can_take can_ask (Spools stream first last) can small = absurd small
