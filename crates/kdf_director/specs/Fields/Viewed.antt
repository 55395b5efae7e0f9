-- What is shown of the fields of a machine.
use Rattle.std.specs.Prelude.{List, length, map}
use Rattle.std.specs.List.{range_with_len}
use Rattle.kdf_journal.specs.declared.entry.Entry.{Entry}
use Rattle.kdf_processor.specs.State.{State}
use Rattle.kdf_director.specs.Fields.Following.{asked_at}
use Rattle.kdf_yard.specs.Fields.Parts.{Reach, Seat}
use Rattle.kdf_places.specs.Shared.{Shared}
use Rattle.kdf_yard.specs.Fields.Running.{own_state}
use Rattle.std.specs.Prelude.{ℕ}
use Rattle.kdf_journal.specs.Recorded.{Recorded}
use Rattle.kdf_theory.specs.MachineView.{MachineView}
use Rattle.kdf_yard.specs.Fields.Standing.{Standing}

-- each program's own state, after the answers that the journal tells
abbrev pub states_in : List Reach → List Seat → Shared → List Entry → List State
states_in reaches seats s J =
    map (λ i. own_state reaches seats s (asked_at seats J i) i) (range_with_len 0 (length seats))

-- what a machine shows where things stand so, and this is recorded
abbrev pub shown_of : Standing → Recorded → ℕ → MachineView
shown_of y J room =
    record {
      slots = y.slots;
      states = states_in y.reaches y.seats y.shared J.entries;
      journal = J.entries;
      room = room;
    }
