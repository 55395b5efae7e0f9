-- What a lone port shows, and what an acting call does to it.
use Rattle.std.specs.Prelude.{◌≡◌, ℕ, ◌+◌, ◌-◌, ◌*◌, ◌^◌, ◌<◌, ◌≤◌, true, map, slice_index_or, vec_len}
use Rattle.std.specs.Vec.{vec_capacity}
use Rattle.kdf_transfer.specs.AtOnce.{is_output}
use Rattle.kdf_transfer.specs.declared.order.TransferOrder.{TransferOrder}
use Rattle.kdf_processor.specs.Claims.{taken_device}
use Rattle.kdf_processor.specs.Effect.{Act, Question, IsBusy, IsOut, Time, FreeOf, OfService}
use Rattle.kdf_processor.specs.Room.{RoomFor}
use Rattle.kdf_processor.specs.Row.{at_once}
use Rattle.kdf_processor.specs.State.{Claims, State, Stock}
use Rattle.kdf_processor.specs.declared.registers.Registers.{Registers}
use Rattle.kdf_processor.specs.View.{View, by_itself}
use Rattle.kdf_alone.specs.declared.lone_port.LonePort.{LonePort}
use Rattle.kdf_alone.specs.declared.lone_place.LonePlace.TheVariants.{Absent}
use Rattle.kdf_alone.specs.LonePlaces.{own_fixture_in, pool_kind_in, progress_in, IsReady}
use Rattle.kdf_alone.specs.Stints.{stint_in}

-- what its program is checked against: the size of its store, its devices by number and those of the pool, and whether it is served
abbrev pub claims_of : LonePort → Claims
claims_of b =
    record {
      size = b.size;
      claimed = b.claimed;
      fixtures = map own_fixture_in b.places.items;
      pool = map pool_kind_in b.places.items;
      served = b.served;
    }

-- what its program has beside its registers
abbrev pub stock_of : LonePort → Stock
stock_of b =
    record {
      claims = claims_of b;
      spooled = b.spooled.items;
      asked = b.asked;
      stints = map stint_in b.stints.items;
      store = b.words.items;
      devices = map progress_in b.places.items;
    }

-- whatever is asked has the one answer, but that one that takes from the pool is answered the device that it takes
abbrev pub given : Claims → ℕ → Question → ℕ
given c a (IsBusy d) = a
given c a (IsOut first last) = a
given c a Time = a
given c a (FreeOf kind) = taken_device c kind a
given c a (OfService word) = a

-- a program that has this, where nothing is locked out, busy or taken
abbrev pub shown_with : Stock → ℕ → View
shown_with k a = by_itself (given k.claims a) k

abbrev pub shown : LonePort → View
shown b = shown_with (stock_of b) b.answer

-- an acting call does at once what it does
abbrev pub Acts : LonePort → Act → LonePort → Type 0
Acts old act new = stock_of new ≡ at_once act (stock_of old)

-- nothing but its spare memory changes
pub record Stays (old new : LonePort) : Type 0 where
  pub stock : stock_of new ≡ stock_of old
  pub answer : new.answer ≡ old.answer

-- there is memory for a transfer: for the blocks that its device gains, and for the characters of its area
pub record CanStart (b : LonePort) (d : ℕ) (order : TransferOrder) (first last : ℕ) : Type 0 where
  pub device : IsReady order (slice_index_or b.places.items d Absent)
  pub block : is_output order ≡ true → 8 * (last + 1 - first) ≤ vec_capacity b.block

-- there is memory for one text more
pub record CanSpool (b : LonePort) (first last : ℕ) : Type 0 where
  pub text : vec_len b.spooled < vec_capacity b.spooled
  pub block : 8 * (last + 1 - first) ≤ vec_capacity b.block

-- an order may ask: its answer can be counted
abbrev pub CanAsk : LonePort → Type 0
CanAsk b = b.asked < 2 ^ 32 - 1

-- there is memory for one stint more, and its answer can be counted
pub record CanTake (b : LonePort) : Type 0 where
  pub stint : vec_len b.stints < vec_capacity b.stints
  pub ask : CanAsk b

-- for what an acting call keeps
abbrev pub HasLoneRoom : LonePort → Act → Type 0
HasLoneRoom b act = RoomFor (CanStart b) (CanSpool b) (CanTake b) (CanAsk b) act

-- what a program by itself shows of its words
abbrev pub words_of : State → View
words_of s = by_itself (λ _. 0) s.stock

-- a program with these registers
abbrev pub state_with : Registers → LonePort → State
state_with r b = record { registers = r; stock = stock_of b }
