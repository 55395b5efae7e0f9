-- How the fields of a machine agree with its slots and its journal.
use Rattle.std.specs.Prelude.{◌≡◌, ℕ, ◌+◌, ◌*◌, ◌<◌, ◌≤◌, List, map, true}
use Rattle.std.specs.List.{All}
use Rattle.kdf_journal.specs.declared.entry.Entry.{Entry}
use Rattle.kdf_journal.specs.declared.journal.TheConstants.{CALL_LIMIT, MOVE_LIMIT}
use Rattle.kdf_journal.specs.Recorded.{Recorded}
use Rattle.kdf_journal.specs.Counts.{calls, last_hold, moves}
use Rattle.kdf_transfer.specs.Slots.{Slot}
use Rattle.kdf_director.specs.declared.machine.TheConstants.{EVENT_LIMIT}
use Rattle.kdf_director.specs.Fields.Following.{AreFollowing}
use Rattle.kdf_theory.specs.Legal.{IsLegal, IsTrue}
use Rattle.kdf_yard.specs.Fields.Parts.{Reach, Seat}
use Rattle.kdf_places.specs.Shared.{Shared}
use Rattle.kdf_yard.specs.Fields.Running.{AreLent, IsRunning}
use Rattle.kdf_yard.specs.Fields.Standing.{Standing}
use Rattle.kdf_theory.specs.Slots.{AreSlots}

-- the slots are of four numbers, the programs are theirs and follow the journal over what they share, the pool lends as
-- the journal tells, and the journal is legal and true
pub record Agrees (slots : List Slot) (reaches : List Reach) (seats : List Seat) (s : Shared)
    (J : List Entry) : Type 0 where
  pub are : AreSlots slots
  pub four : All (λ (x : Slot). x.p < 4) slots
  pub numbers : map (λ (x : Seat). x.p) seats ≡ map (λ (x : Slot). x.p) slots
  pub running : IsRunning reaches seats s
  pub following : AreFollowing slots J reaches seats s
  pub lent : AreLent J reaches seats
  pub legal : IsLegal slots J
  pub truly : IsTrue slots J
  pub few_calls : calls J ≤ CALL_LIMIT
  pub few_moves : moves J ≤ MOVE_LIMIT

-- what holds each program is the journal's, how things stand agrees with the journal, and that has room for so many
-- events more, each of which may be a move of 4,096 words
pub record IsReady (y : Standing) (J : Recorded) (room : ℕ) : Type 0 where
  pub agrees : Agrees y.slots y.reaches y.seats y.shared J.entries
  pub holds : y.holds ≡ map (λ (x : Seat). last_hold x.p J.entries) y.seats
  pub fits : room ≤ J.spare
  pub few_events : room ≤ EVENT_LIMIT
  pub few_words : moves J.entries + 4096 * room ≤ MOVE_LIMIT
