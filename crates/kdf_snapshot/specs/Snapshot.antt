-- The lines of a snapshot after its job: `JOURNAL` and the entries of its journal, `SEAL` and what is sealed, and `ENDSNAPSHOT`. Lines
-- that go on with its schedule may stand after them.
use Rattle.std.specs.Prelude.{ℕ, ◌+◌, List, [], ◌∷◌, Option, Some, None, Result, Ok, Err, codes, drop, if◌then◌else◌, length, min, take}
use Rattle.std.specs.List.{position_from}
use Rattle.kdf_text.specs.Lines.{is_text, line, lines}
use Rattle.kdf_text.specs.Text.{text}
use Rattle.kdf_journal.specs.declared.entry.Entry.{Entry}
use Rattle.kdf_journal.specs.Printed.{entry_in}
use Rattle.kdf_snapshot.specs.declared.fault.SnapshotFault.{SnapshotFault}
use Rattle.kdf_snapshot.specs.declared.fault.SnapshotFault.TheVariants.{NoJournal, BadEntry, NoEnd}

abbrev pub journal_line : List ℕ
journal_line = codes "JOURNAL"

abbrev pub seal_line : List ℕ
seal_line = codes "SEAL"

abbrev pub end_line : List ℕ
end_line = codes "ENDSNAPSHOT"

-- the entry of line n, and those of the lines after it
abbrev pub with_entry : ℕ → Option Entry → Result (List Entry) (SnapshotFault × ℕ) → Result (List Entry) (SnapshotFault × ℕ)
with_entry n None others = Err (BadEntry, n)
with_entry n (Some entry) (Ok others) = Ok (entry ∷ others)
with_entry n (Some entry) (Err found) = Err found

-- the entries of the lines from number n up to SEAL; the end counts as a line that isn't one
abbrev pub entries_from : ℕ → List (List ℕ) → Result (List Entry) (SnapshotFault × ℕ)
entries_from n [] = Err (BadEntry, n)
entries_from n (line ∷ rest) =
    if is_text seal_line line then Ok []
    else with_entry n (entry_in line) (entries_from (n + 1) rest)

-- the offset after the first k lines of a text, the last of which may lack its end
abbrev pub offset : List ℕ → ℕ → ℕ
offset bytes k = min (length (text (take k (lines bytes)))) (length bytes)

-- the entries, the offsets of what is sealed and of the line after ENDSNAPSHOT, and the number of that line
pub record ShownParts : Type 0 where
  pub entries : List Entry
  pub seal_from : ℕ
  pub seal_to : ℕ
  pub more_from : ℕ
  pub more_line : ℕ

-- by the entries, and how many lines stand before ENDSNAPSHOT
abbrev pub parts_to : ℕ → List ℕ → List Entry → Option ℕ → Result ShownParts (SnapshotFault × ℕ)
parts_to first bytes entries None = Err (NoEnd, first + length (lines bytes))
parts_to first bytes entries (Some k) =
    Ok (record {
      entries = entries;
      seal_from = offset bytes (length entries + 2);
      seal_to = offset bytes k;
      more_from = offset bytes (k + 1);
      more_line = first + k + 1;
    })

-- how many lines stand before the first ENDSNAPSHOT after k lines
abbrev pub end_after : ℕ → List (List ℕ) → Option ℕ
end_after k ls = position_from (is_text end_line) k (drop k ls)

abbrev pub parts_after : ℕ → List ℕ → Result (List Entry) (SnapshotFault × ℕ) → Result ShownParts (SnapshotFault × ℕ)
parts_after first bytes (Err found) = Err found
parts_after first bytes (Ok entries) =
    parts_to first bytes entries (end_after (length entries + 2) (lines bytes))

-- the parts of the bytes after a job, whose first line has this number; or the first fault of their lines, and the number of its line
unfoldable pub parts_of : ℕ → List ℕ → Result ShownParts (SnapshotFault × ℕ)
parts_of first bytes =
    if is_text journal_line (line (lines bytes) 1)
    then parts_after first bytes (entries_from (first + 1) (drop 1 (lines bytes)))
    else Err (NoJournal, first)
