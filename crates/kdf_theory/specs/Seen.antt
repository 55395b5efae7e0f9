-- What is seen of a program while its transfers are in flight.
use Rattle.std.specs.Prelude.{ℕ, ◌==◌, ◌||◌, List, length, map, Bool, false, Option, Some, None, if◌then◌else◌, is_some}
use Rattle.std.specs.List.{list_any, range_with_len}
use Rattle.std.proofs.Common.{zero, suc}
use Rattle.kdf_transfer.specs.Devices.{DeviceProgress}
use Rattle.kdf_journal.specs.declared.need.Need.{Need}
use Rattle.kdf_journal.specs.declared.need.Need.TheVariants.{Group, Device, Pool}
use Rattle.kdf_processor.specs.Effect.{Question, Act, Starts, Effect}
use Rattle.kdf_processor.specs.Needs.{next_effect}
use Rattle.kdf_processor.specs.Outcome.{Outcome}
use Rattle.kdf_processor.specs.Row.{at_once, done_by}
use Rattle.kdf_processor.specs.State.{State, Stock, word_at, device_at}
use Rattle.kdf_transfer.specs.ByNumber.{device_count}
use Rattle.kdf_theory.specs.Flights.{Flight, unmoved, touches}

-- the transfer on d has still to move a word to this address
abbrev pub covers : ℕ → Option Flight → ℕ → Bool
covers d None a = false
covers d (Some f) a = list_any (λ m. m.0 == a) (unmoved d f)

-- the word that was there when it began
abbrev pub word_before : Option Flight → ℕ → ℕ
word_before None a = 0
word_before (Some f) a = word_at f.before a

-- what the transfers on the devices below n leave to be seen of the word at an address
abbrev pub seen_word : ℕ → (ℕ → Option Flight) → ℕ → ℕ → ℕ
seen_word zero flights a w = w
seen_word (suc d) flights a w =
    if covers d (flights d) a then word_before (flights d) a else seen_word d flights a w

-- a device is as its transfer found it
abbrev pub seen_device : Option Flight → ℕ → DeviceProgress → DeviceProgress
seen_device None d p = p
seen_device (Some f) d p = device_at f.before d

-- What is seen of a lone state while these transfers are in flight, by the number of their device: a word that an
-- input order has still to move, and each device, are as they were when the transfer began.
abbrev pub seen : (ℕ → Option Flight) → State → State
seen flights s =
    record s {
      stock = record s.stock {
        store = map (λ a. seen_word device_count flights a (word_at s a))
            (range_with_len 0 (length s.stock.store));
        devices = map (λ d. seen_device (flights d) d (device_at s d))
            (range_with_len 0 (length s.stock.devices));
      };
    }

-- a transfer on a device below n touches a group
abbrev pub touched_below : ℕ → (ℕ → Option Flight) → ℕ → Bool
touched_below zero flights g = false
touched_below (suc d) flights g = touches (flights d) g || touched_below d flights g

-- a need of the program is pending, as far as its transfers tell
abbrev pub pending_in_flight : (ℕ → Option Flight) → Need → Bool
pending_in_flight flights (Group g) = touched_below device_count flights g
pending_in_flight flights (Device d) = is_some (flights d)
pending_in_flight flights (Pool kind) = false

-- ---- an order by which a transfer only begins

-- an acting call likewise
abbrev pub begun : Act → Stock → Stock
begun (Starts d o first last) k = k
begun act k = at_once act k

-- an outcome on a state
abbrev pub tried : Outcome → State → State
tried o s = record { registers = o.registers; stock = begun o.act s.stock }

-- an effect
abbrev pub begun_by : (Question → ℕ) → Effect → State → State
begun_by answer e s = tried (done_by answer e s) s

-- the next order
abbrev pub begun_row : State → (Question → ℕ) → State
begun_row s answer = begun_by answer (next_effect s) s

-- ---- a state with other words, and with other devices too

abbrev pub with_store : State → List ℕ → State
with_store s words = record s { stock = record s.stock { store = words } }

abbrev pub with_both : State → List ℕ → List DeviceProgress → State
with_both s words devices =
    record s { stock = record s.stock { store = words; devices = devices } }
