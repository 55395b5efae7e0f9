-- A program with a transfer to its store and one from it, on which what is seen is worked.
use Rattle.std.specs.Prelude.{ℕ, List, [], ◌∷◌, ◌++◌, true, false, Option, Some, None, replicate}
use Rattle.kdf_journal.specs.declared.kind.Kind.TheVariants.{Tp}
use Rattle.kdf_tape.specs.Examples.{block}
use Rattle.kdf_transfer.specs.Devices.{Fixture, DeviceProgress, new_progress}
use Rattle.kdf_transfer.specs.Examples.{ab, all_a, all_b, having, paper, placed, reel, winding, writer}
use Rattle.kdf_transfer.specs.declared.order.TransferOrder.TheVariants.{Prq, Pwq, Mbrq}
use Rattle.kdf_processor.specs.State.{State, new_registers}
use Rattle.kdf_theory.specs.Flights.{Flight, beginning, completed, moved_to, with_flight}

-- a program with a store of 34 words, each of them 7, and two devices, which it has claimed
abbrev pub holding : (one two : Fixture) → (at_one at_two : DeviceProgress) → State
holding one two at_one at_two =
    record {
      registers = new_registers;
      stock = record {
        claims = record {
          size = 34;
          claimed = false ∷ true ∷ true ∷ [];
          fixtures = None ∷ Some one ∷ Some two ∷ [];
          pool = [];
          served = false;
        };
        spooled = [];
        asked = 0;
        stints = [];
        store = replicate 34 7;
        devices = new_progress ∷ at_one ∷ at_two ∷ [];
      };
    }

-- the lone state after a transfer on a device
abbrev pub behind : ℕ → Flight → State
behind d f = record f.before { stock = completed d f }

-- a reader with two words as device 1, and a punch as device 2
abbrev pub ready : State
ready = holding (paper ab) (writer Tp) (placed 0 false) (having [])

-- the words are read to words 0 and 1, and then words 32 and 33 are punched
abbrev pub reading : Flight
reading = beginning Prq 0 1 ready

abbrev pub punching : Flight
punching = beginning Pwq 32 33 (behind 1 reading)

-- the lone state after both
abbrev pub done : State
done = behind 2 punching

-- both in flight, so many words having moved
abbrev pub both : (read punched : ℕ) → ℕ → Option Flight
both read punched =
    with_flight 2 (Some (moved_to punched punching))
    (with_flight 1 (Some (moved_to read reading)) (λ _. None))

-- the characters of the two words that are punched
abbrev pub sevens : List ℕ
sevens = replicate 7 0 ++ 7 ∷ replicate 7 0 ++ 7 ∷ []

-- a tape as device 1, after its one block of two words
abbrev pub wound : State
wound = holding reel (writer Tp) (winding (block (all_a ∷ all_b ∷ []) false ∷ []) 1 false false) (having [])

-- which is read backwards to words 0 and 1
abbrev pub backwards : Flight
backwards = beginning Mbrq 0 1 wound
