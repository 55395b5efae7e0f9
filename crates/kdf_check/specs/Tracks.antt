-- How what is kept beside the programs tells what is pending by the journal so far.
use Rattle.std.specs.Prelude.{◌≡◌, ℕ, ◌<◌, List, length, Option, Some, None, slice_index_or}
use Rattle.kdf_journal.specs.declared.entry.Entry.{Entry}
use Rattle.kdf_journal.specs.Counts.{clock, holder, pending}
use Rattle.kdf_transfer.specs.Slots.{Slot}
use Rattle.kdf_processor.specs.State.{device_limit}
use Rattle.kdf_theory.specs.Flights.{touches}
use Rattle.kdf_theory.specs.ByJournal.{flights_of}
use Rattle.kdf_check.specs.Around.{Around, is_among}
use Rattle.kdf_check.specs.declared.table.Pending.{Pending}

-- what stands at the place of device d tells the transfer there, where the journal has one pending, and which groups its area touches
abbrev pub TellsAt : List Slot → List Entry → ℕ → Option Pending → Type 0
TellsAt slots J d None = pending d J ≡ None
TellsAt slots J d (Some t) =
    (k : ℕ) × (pending d J ≡ Some (t.p, k)) × ((g : ℕ) → touches (flights_of slots J t.p d) g ≡ is_among t.groups g)

-- and so it is at each place, of which there are sixteen
pub record Tells (slots : List Slot) (J : List Entry) (table : List (Option Pending)) : Type 0 where
  pub sixteen : length table ≡ device_limit
  pub each : (d : ℕ) → TellsAt slots J d (slice_index_or table d None)

-- who has the devices of the pool is told too, and the time
pub record IsAround (slots : List Slot) (J : List Entry) (around : Around) : Type 0 where
  pub tells : Tells slots J around.table
  pub held : (d : ℕ) → d < device_limit → around.holders d ≡ holder d J
  pub time : around.time ≡ clock J
