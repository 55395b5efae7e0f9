-- What it is for no order of a journal to ask the service.
use Rattle.std.specs.Prelude.{◌≡◌, ℕ, List, None}
use Rattle.kdf_journal.specs.declared.entry.Entry.{Entry}
use Rattle.kdf_journal.specs.Steps.{Note, steps}
use Rattle.kdf_transfer.specs.Slots.{Slot}
use Rattle.kdf_processor.specs.Ahead.{word_asked}
use Rattle.kdf_processor.specs.Needs.{next_effect}
use Rattle.kdf_course.specs.Legal as course
use Rattle.kdf_theory.specs.ByJournal.{own}

-- the next order of program p, run alone, asks no word of the service, whatever its note is
abbrev pub asks_none : List Slot → List Entry → ℕ → Note → Type 0
asks_none slots J p note = word_asked (next_effect (own slots J p)) ≡ None

-- none of the orders that the journal tells asked the service
abbrev pub AsksNone : List Slot → List Entry → Type 0
AsksNone slots J = course.EachNoted (asks_none slots) (steps J)
