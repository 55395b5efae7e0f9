-- The text that is written after the job of a snapshot, and its parts.
use Rattle.std.specs.Prelude.{◌≡◌, ℕ, ◌+◌, ◌==◌, false, List, [], ◌∷◌, ◌++◌, length, map}
use Rattle.std.specs.List.{list_any}
use Rattle.kdf_text.specs.Lines.{is_text}
use Rattle.kdf_text.specs.Text.{text}
use Rattle.kdf_text.specs.declared.lines.TheConstants.{LINE_END}
use Rattle.kdf_journal.specs.declared.entry.Entry.{Entry}
use Rattle.kdf_journal.specs.Printed.{entry_line}
use Rattle.kdf_snapshot.specs.Snapshot.{ShownParts, end_line, journal_line, seal_line}

-- the lines of a journal, with JOURNAL before them and SEAL after them
abbrev pub journal_text : List Entry → List ℕ
journal_text J = text (journal_line ∷ map entry_line J ++ seal_line ∷ [])

-- the lines that are sealed, with ENDSNAPSHOT after them
abbrev pub seal_text : List (List ℕ) → List ℕ
seal_text ls = text (ls ++ end_line ∷ [])

-- a line that may be sealed: no line ends within it, and it isn't ENDSNAPSHOT
pub record CanBeSealed (line : List ℕ) : Type 0 where
  pub whole : list_any (λ byte. byte == LINE_END) line ≡ false
  pub other : is_text end_line line ≡ false

-- the parts of these entries and these sealed lines, where JOURNAL is the line of this number
abbrev pub parts_written : ℕ → List Entry → List (List ℕ) → ShownParts
parts_written first J ls =
    record {
      entries = J;
      seal_from = length (journal_text J);
      seal_to = length (journal_text J) + length (text ls);
      more_from = length (journal_text J) + length (seal_text ls);
      more_line = first + (length J + 2 + length ls) + 1;
    }
