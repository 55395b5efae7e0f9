-- Where a program comes to a place.
use Rattle.std.specs.Prelude.{ℕ, ◌==◌, List}
use Rattle.std.specs.List.{filter, range_with_len}
use Rattle.kdf_journal.specs.declared.entry.Entry.{Entry}
use Rattle.kdf_journal.specs.Counts.{ran}
use Rattle.kdf_transfer.specs.Slots.{Slot}
use Rattle.kdf_theory.specs.ByJournal.{own_after}

-- the numbers of own orders of program k, from the first to the last that the journal counts, after which its next order is at this
-- place: the number of its first syllable is `at`
abbrev pub stops_of : List Slot → List Entry → (k at : ℕ) → List ℕ
stops_of slots J k at =
    filter (λ n. (own_after slots J k n).registers.at == at) (range_with_len 1 (ran k J))
