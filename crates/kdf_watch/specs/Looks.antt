-- The looks of a run.
use Rattle.std.specs.Prelude.{ℕ, List, [], ◌∷◌, ◌++◌}
use Rattle.kdf_journal.specs.declared.entry.Entry.{Entry}
use Rattle.kdf_journal.specs.Counts.{clock, ran}
use Rattle.kdf_journal.specs.Steps.{JournalStep, Obeys, journal_of}
use Rattle.kdf_transfer.specs.Slots.{Slot}
use Rattle.kdf_theory.specs.ByJournal.{own}
use Rattle.kdf_watch.specs.declared.look.Look.{Look}

-- the look at program p, where J is the journal so far
abbrev pub look_at : List Slot → List Entry → ℕ → Look
look_at slots J p =
    record { p = p; ran = ran p J; at = (own slots J p).registers.at; clock = clock J }

-- a step has one where a program obeyed, and J is the journal with it
abbrev pub looks_in : List Slot → List Entry → JournalStep → List Look
looks_in slots J (Obeys p note) = look_at slots J p ∷ []
looks_in slots J s = []

-- those of the steps R after P, the last first
abbrev pub looks : List Slot → List JournalStep → List JournalStep → List Look
looks slots [] P = []
looks slots (s ∷ R) P = looks_in slots (journal_of (s ∷ R ++ P)) s ++ looks slots R P
