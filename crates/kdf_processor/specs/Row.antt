-- The state of a program by itself after its next order, a transfer being finished at once.
use Rattle.std.specs.Prelude.{ℕ, ◌+◌, ◌-◌, ◌==◌, ◌&&◌, not, Bool, true, false, List, [], ◌∷◌, ◌++◌, map, take, drop, Option, Some, None, is_some, if◌then◌else◌}
use Rattle.std.specs.Prelude.{slice_set}
use Rattle.kdf_word.specs.Characters.{codes_of_all}
use Rattle.kdf_media.specs.Media.{through_end}
use Rattle.kdf_transfer.specs.AtOnce.{device_after, order_words, stored}
use Rattle.kdf_transfer.specs.Devices.{Fixture, DeviceProgress, new_progress}
use Rattle.kdf_transfer.specs.declared.order.TransferOrder.{TransferOrder}
use Rattle.kdf_processor.specs.State.{State, StintState, Stock, device_in, fixture_at}
use Rattle.kdf_processor.specs.Effect.{Question, FreeOf, Act, Nothing, Writes, Starts, Asks, Acquires, Releases, Spools, Effect}
use Rattle.kdf_processor.specs.Claims.{taken_device}
use Rattle.kdf_processor.specs.Needs.{next_effect}
use Rattle.kdf_processor.specs.View.{by_itself}
use Rattle.kdf_processor.specs.Outcome.{Outcome, done}

-- a transfer on a device that is such, finished
abbrev pub moved_by : ℕ → TransferOrder → (first last : ℕ) → Fixture → Stock → Stock
moved_by d o first last f k =
    record k {
      store = stored o first last k.store f (device_in k d);
      devices = slice_set k.devices d
          (device_after o first last (order_words o first last k.store) f (device_in k d));
    }

-- a transfer on the program's device of this number, finished; where there is none, nothing moves
abbrev pub transferred : ℕ → TransferOrder → (first last : ℕ) → Option Fixture → Stock → Stock
transferred d o first last None k = k
transferred d o first last (Some f) k = moved_by d o first last f k

-- a device is claimed from now on, or it isn't
abbrev pub with_claimed : ℕ → Bool → Stock → Stock
with_claimed d is k =
    record k { claims = record k.claims { claimed = slice_set k.claims.claimed d is } }

-- a device of the pool is taken: it is claimed from now on, and a stint begins
abbrev pub taking : ℕ → Stock → Stock
taking d k = record (with_claimed d true k) { stints = k.stints ++ record { device = d; left = None } ∷ [] }

-- a device of the pool that has come so far is given back: its stint, which wasn't, is over and keeps that
abbrev pub handed : ℕ → DeviceProgress → StintState → StintState
handed d p x = if x.device == d && not (is_some x.left) then record x { left = Some p } else x

-- a device is given back; one of the pool has moved nothing then, whoever takes it
abbrev pub released : Bool → ℕ → Stock → Stock
released false d k = with_claimed d false k
released true d k =
    record (with_claimed d false k) {
      stints = map (handed d (device_in k d)) k.stints;
      devices = slice_set k.devices d new_progress;
    }

-- an ask takes an answer; one that takes from the pool, the device that is answered
abbrev pub answered : Question → ℕ → Stock → Stock
answered (FreeOf kind) a k = taking (taken_device k.claims kind a) (record k { asked = k.asked + 1 })
answered question a k = record k { asked = k.asked + 1 }

-- the words of an area
abbrev pub area_words : (first last : ℕ) → Stock → List ℕ
area_words first last k = take (last + 1 - first) (drop first k.store)

-- an acting call, done to what a program has
abbrev pub at_once : Act → Stock → Stock
at_once Nothing k = k
at_once (Writes a w) k = record k { store = slice_set k.store a w }
at_once (Starts d o first last) k = transferred d o first last (fixture_at k.claims d) k
at_once (Asks question answer) k = answered question answer k
at_once (Acquires d) k = with_claimed d true k
at_once (Releases pooled d) k = released pooled d k
at_once (Spools stream first last) k =
    record k {
      spooled = k.spooled
          ++ record { stream = stream; text = through_end (codes_of_all (area_words first last k)) } ∷ [];
    }

-- an outcome on a state
abbrev pub taken : Outcome → State → State
taken o s = record { registers = o.registers; stock = at_once o.act s.stock }

-- what an effect comes to, where an order that asks is answered so
abbrev pub done_by : (Question → ℕ) → Effect → State → Outcome
done_by answer e s = done (by_itself answer s.stock) s.registers e

-- the state that an effect leaves, where an order that asks is answered so
abbrev pub perform : (Question → ℕ) → Effect → State → State
perform answer e s = taken (done_by answer e s) s

-- how the next order ends, and the registers after it
abbrev pub next_of : State → (Question → ℕ) → Outcome
next_of s answer = done_by answer (next_effect s) s

-- the state after it
abbrev pub row : State → (Question → ℕ) → State
row s answer = perform answer (next_effect s) s
