-- Memory stays, whatever the next order is answered.
use Rattle.std.proofs.Common.{◌≡◌, ◌+◌, ◌-◌, ◌*◌, ◌<◌, ◌≤◌, ℕ, true, get_or, sym, ap, subst, arith}
use Rattle.std.specs.Prelude.{vec_len}
use Rattle.std.specs.Vec.{vec_capacity}
use Rattle.kdf_processor.specs.Effect.{Act, Nothing, Writes, Starts, Asks, IsBusy, IsOut, Time, FreeOf, OfService, Acquires, Releases, Spools}
use Rattle.kdf_alone.specs.declared.lone_port.LonePort.{LonePort}
use Rattle.kdf_alone.specs.declared.lone_place.LonePlace.TheVariants.{Absent}
use Rattle.kdf_alone.specs.LonePort.{CanAsk, HasLoneRoom}
use Rattle.kdf_alone.specs.LonePlaces.{IsReady}

module _ (b new : LonePort) (places : new.places ≡ b.places) (block : new.block ≡ b.block) (spooled : new.spooled ≡ b.spooled) (stints : new.stints ≡ b.stints)
    (asked : new.asked ≡ b.asked) where
  can_ask : CanAsk b → CanAsk new
  can_ask few = subst (λ n. n < 4294967295) (sym asked) few

  pub room_same : (act : Act) → HasLoneRoom b act → HasLoneRoom new act
  room_same Nothing room = tt
  room_same (Writes a w) room = tt
  room_same (Starts d o first last) room = record {
    device = subst (λ v. IsReady o (get_or v.items d Absent)) (sym places) room.device;
    block = λ out. subst (λ v. 8 * (last + 1 - first) ≤ vec_capacity v) (sym block) (room.block out);
  }
  room_same (Asks (IsBusy d) answer) room = can_ask room
  room_same (Asks (IsOut first last) answer) room = can_ask room
  room_same (Asks Time answer) room = can_ask room
  room_same (Asks (FreeOf kind) answer) room = record { stint = subst (λ v. vec_len v < vec_capacity v) (sym stints) room.stint; ask = can_ask room.ask }
  room_same (Asks (OfService word) answer) room = can_ask room
  room_same (Acquires d) room = tt
  room_same (Releases pooled d) room = tt
  room_same (Spools stream first last) room = record {
    text = subst (λ v. vec_len v < vec_capacity v) (sym spooled) room.text;
    block = subst (λ v. 8 * (last + 1 - first) ≤ vec_capacity v) (sym block) room.block;
  }
