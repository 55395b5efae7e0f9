-- What comes of a run that is made again, with a service, of which `answers n a` says that a is one of its answers to n.
use Rattle.std.specs.Prelude.{ℕ, List}
use Rattle.kdf_transfer.specs.Slots.{Slot}
use Rattle.kdf_journal.specs.declared.entry.Entry.{Entry}
use Rattle.kdf_schedule.specs.declared.event.Event.{Event}
use Rattle.kdf_theory.specs.Served.{IsJournalFor}
use Rattle.kdf_snapshot.specs.Differs.{IsDifference}
use Rattle.kdf_snapshot.specs.declared.rebuilt.RebuildError.{RebuildError}
use Rattle.kdf_snapshot.specs.declared.rebuilt.RebuildError.TheVariants.{Differs, Memory}

-- these entries differ from this journal first at the place that is told
abbrev pub DiffersFrom : List Entry → List Entry → RebuildError → Type 0
DiffersFrom J entries (Differs n) = IsDifference entries J n
DiffersFrom J entries Memory = Unit {0}

-- and from that of the slots under these events
abbrev pub IsRefused : (answers : ℕ → ℕ → Type 0) → List Slot → List Event → List Entry → RebuildError → Type 0
IsRefused answers slots events entries (Differs n) =
    (J : List Entry) × IsJournalFor answers slots events J × IsDifference entries J n
IsRefused answers slots events entries Memory = Unit {0}
