-- The text of a snapshot, and one that is read, with what goes on after it. `answers n a` says that a is one of the answers of the
-- installation's service to n.
use Rattle.std.specs.Prelude.{◌≡◌, ◌⊎◌, ℕ, ◌+◌, ◌-◌, ◌==◌, Bool, List, [], ◌∷◌, ◌++◌, Option, Some, None, Result, Ok, Err, drop, if◌then◌else◌, length}
use Rattle.std.specs.Prelude.{slice_index, take}
use Rattle.kdf_text.specs.Lines.{lines}
use Rattle.kdf_text.specs.Text.{text}
use Rattle.kdf_text.specs.declared.lines.TheConstants.{LINE_END}
use Rattle.kdf_journal.specs.declared.entry.Entry.{Entry}
use Rattle.kdf_job.specs.Front.{front, front_fault, front_job, front_length}
use Rattle.kdf_job.specs.Job.{ShownJob}
use Rattle.kdf_job.specs.More.{joined, more_events, more_fault}
use Rattle.kdf_job.specs.Reading.{job}
use Rattle.kdf_job.specs.declared.fault.JobFault.{JobFault}
use Rattle.kdf_processor.specs.State.{State}
use Rattle.kdf_theory.specs.Served.{IsJournalFor}
use Rattle.kdf_theory.specs.ByJournal.{seen_of}
use Rattle.kdf_report.specs.Text.{journal_lines, sections_lines}
use Rattle.kdf_snapshot.specs.Differs.{IsDifference}
use Rattle.kdf_snapshot.specs.Snapshot.{ShownParts, end_line, journal_line, parts_of, seal_line}
use Rattle.kdf_snapshot.specs.Stores.{store_lines}
use Rattle.kdf_snapshot.specs.declared.fault.SnapshotFault.{SnapshotFault}
use Rattle.kdf_snapshot.specs.declared.fault.SnapshotFault.TheVariants.{JournalDiffers, SealDiffers}
use Rattle.kdf_top.specs.Loaded.{slots_of}
use Rattle.kdf_top.specs.declared.status.Status.{Status}
use Rattle.kdf_top.specs.declared.status.Status.TheVariants as status

-- ---- a snapshot that is written

-- the last line of a text has its end
abbrev pub is_ended : List ℕ → Bool
is_ended bytes = slice_index bytes (length bytes - 1) == LINE_END

-- the text, and the end of its last line, where that lacks it
abbrev pub ended : List ℕ → List ℕ
ended bytes = if is_ended bytes then bytes else bytes ++ LINE_END ∷ []

-- what is sealed of a job, from the state of the program of each number: the sections of all slots, and the words that aren't zero
abbrev pub seal_lines : ShownJob → (ℕ → State) → List (List ℕ)
seal_lines j states = sections_lines j states ++ store_lines j states

-- with the line that ends a snapshot
abbrev pub sealed_with : ShownJob → (ℕ → State) → List ℕ
sealed_with j states = text (seal_lines j states ++ end_line ∷ [])

-- the snapshot of a job of these bytes: them, the journal, and what is sealed
abbrev pub snapshot_with : List ℕ → ShownJob → List Entry → (ℕ → State) → List ℕ
snapshot_with bytes j J states = ended bytes ++ text (journal_line ∷ journal_lines J ++ seal_line ∷ []) ++ sealed_with j states

-- where the journal is J, the state of each program is what is seen of its lone run
abbrev pub sealed_text : ShownJob → List Entry → List ℕ
sealed_text j J = sealed_with j (seen_of (slots_of j) J)

abbrev pub snapshot_of : List ℕ → List Entry → List ℕ
snapshot_of bytes J = snapshot_with bytes (job bytes) J (seen_of (slots_of (job bytes)) J)

-- ---- a snapshot that is read: a job, its journal, what is sealed, and further lines of the job's schedule

-- what stands after the job, and the number of the first line there
abbrev pub after_job : List ℕ → List ℕ
after_job bytes = drop (front_length bytes) bytes

abbrev pub line_after_job : List ℕ → ℕ
line_after_job bytes = length (lines (front bytes)) + 1

-- its parts, or the first fault of its lines
abbrev pub parts_in : List ℕ → Result ShownParts (SnapshotFault × ℕ)
parts_in bytes = parts_of (line_after_job bytes) (after_job bytes)

-- where there is a fault, there are none
abbrev pub parts_or_none : Result ShownParts (SnapshotFault × ℕ) → ShownParts
parts_or_none (Ok parts) = parts
parts_or_none (Err found) = record { entries = []; seal_from = 0; seal_to = 0; more_from = 0; more_line = 0 }

abbrev pub parts : List ℕ → ShownParts
parts bytes = parts_or_none (parts_in bytes)

-- the lines after SEAL up to ENDSNAPSHOT, and with it
abbrev pub sealed_lines : List ℕ → ShownParts → List (List ℕ)
sealed_lines bytes p = lines (take (p.more_from - p.seal_from) (drop p.seal_from (after_job bytes)))

-- the further lines of the schedule
abbrev pub further : List ℕ → ShownParts → List ℕ
further bytes p = drop p.more_from (after_job bytes)

-- the job whose schedule is that of the front job, and the further lines after it
abbrev pub resumed_with : List ℕ → ShownParts → ShownJob
resumed_with bytes p = joined (front_job bytes) (more_events (further bytes p))

abbrev pub resumed_job : List ℕ → ShownJob
resumed_job bytes = resumed_with bytes (parts bytes)

-- no line of it is faulty: not of the job, nor of the snapshot, nor of the further lines
pub record IsSnapshot (bytes : List ℕ) : Type 0 where
  pub front : front_fault bytes ≡ None
  pub split : parts_in bytes ≡ Ok (parts bytes)
  pub further : more_fault (parts bytes).more_line (front_job bytes).events (further bytes (parts bytes)) ≡ None

-- the first fault of its lines, as it is answered; Done where there is none
abbrev pub status_of_line : Option (JobFault × ℕ) → Status
status_of_line None = status.Done
status_of_line (Some found) = status.Job found.0 found.1

abbrev pub status_of_parts : List ℕ → Result ShownParts (SnapshotFault × ℕ) → Status
status_of_parts bytes (Err found) = status.Snapshot found.0 found.1
status_of_parts bytes (Ok p) = status_of_line (more_fault p.more_line (front_job bytes).events (further bytes p))

abbrev pub status_of_front : List ℕ → Option (JobFault × ℕ) → Status
status_of_front bytes None = status_of_parts bytes (parts_in bytes)
status_of_front bytes (Some found) = status.Job found.0 found.1

abbrev pub status_of_snapshot : List ℕ → Status
status_of_snapshot bytes = status_of_front bytes (front_fault bytes)

-- ---- what is called for where no line is faulty and the front job's journal is J

-- the snapshot is that of the journal
pub record IsOf (bytes : List ℕ) (J : List Entry) : Type 0 where
  pub entries : (parts bytes).entries ≡ J
  pub sealed : sealed_lines bytes (parts bytes) ≡ lines (sealed_text (front_job bytes) J)

-- the entries differ from the journal, first in this line, where that of SEAL counts as their end
pub record HasOtherJournal (bytes : List ℕ) (J : List Entry) (line : ℕ) : Type 0 where
  pub place : ℕ
  pub line_is : line ≡ line_after_job bytes + 1 + place
  pub differs : IsDifference (parts bytes).entries J place

-- the entries are the journal, and what is sealed differs from its seal, first in this line
pub record HasOtherSeal (bytes : List ℕ) (J : List Entry) (line : ℕ) : Type 0 where
  pub entries : (parts bytes).entries ≡ J
  pub place : ℕ
  pub line_is : line ≡ line_after_job bytes + length J + 2 + place
  pub differs : IsDifference (sealed_lines bytes (parts bytes)) (lines (sealed_text (front_job bytes) J)) place

abbrev pub IsCompared : List ℕ → List Entry → Status → Type 0
IsCompared bytes J called =
    ((called ≡ status.Done) × IsOf bytes J)
    ⊎ (((line : ℕ) × (called ≡ status.Snapshot JournalDiffers line) × HasOtherJournal bytes J line)
    ⊎ ((line : ℕ) × (called ≡ status.Snapshot SealDiffers line) × HasOtherSeal bytes J line))

-- and where it is the journal of the front job, with this service
abbrev pub IsComparedFor : (answers : ℕ → ℕ → Type 0) → List ℕ → Status → Type 0
IsComparedFor answers bytes called =
    (J : List Entry) × IsJournalFor answers (slots_of (front_job bytes)) (front_job bytes).events J × IsCompared bytes J called
