-- What `run_with` answers to its words and to the bytes of its source, and what it writes. `answers n a` says that a is one of
-- the answers of the installation's service to n.
use Rattle.std.specs.Prelude.{◌≡◌, ℕ, ◌&&◌, List, [], ◌∷◌, Bool, true, false, Option, Some, None, if◌then◌else◌}
use Rattle.kdf_io.specs.Outside.{Added, AddedFront}
use Rattle.kdf_text.specs.Text.{text}
use Rattle.kdf_usercode.specs.Faults.{FoundFault}
use Rattle.kdf_job.specs.Front.{front_fault}
use Rattle.kdf_job.specs.Reading.{job, job_fault}
use Rattle.kdf_theory.specs.MachineView.{MachineView}
use Rattle.kdf_command.specs.Commands.{AJob, AReport, ASnapshot, TextForm, command, form_of, input_of, is_read, is_too_long, keeps_machine, limit_by, text_in}
use Rattle.kdf_top.specs.Deck.{deck_fault}
use Rattle.kdf_top.specs.Due.{IsText, IsTextFrom, Keeps, job_of, journal_in}
use Rattle.kdf_top.specs.Snapshots.{IsComparedFor, IsSnapshot, status_of_line, status_of_snapshot}
use Rattle.kdf_top.specs.Text.{usage_line, large_line, job_fault_line, deck_fault_line, snapshot_fault_line}
use Rattle.kdf_command.specs.declared.command.Command.{Command}
use Rattle.kdf_top.specs.declared.status.Status.{Status}
use Rattle.kdf_top.specs.declared.status.Status.TheVariants as status

-- ---- the answer that is called for

-- a fault of a line comes before one of a deck
abbrev pub status_of_decks : Option (ℕ × FoundFault) → Status
status_of_decks None = status.Done
status_of_decks (Some found) = status.Deck found.0 found.1.fault found.1.place

abbrev pub or_decks : Status → Option (ℕ × FoundFault) → Status
or_decks status.Done decks = status_of_decks decks
or_decks called decks = called

-- the first fault of the lines of a command's text, as it is answered; Done where there is none
abbrev pub status_in : TextForm → List ℕ → Status
status_in AJob bytes = status_of_line (job_fault bytes)
status_in AReport bytes = status_of_line (front_fault bytes)
status_in ASnapshot bytes = status_of_snapshot bytes

abbrev pub status_of_lines : Command → List ℕ → Status
status_of_lines c bytes = status_in (form_of c) bytes

-- and then that of a deck
abbrev pub status_of : Command → List ℕ → Status
status_of c bytes = or_decks (status_of_lines c bytes) (deck_fault (job_of c bytes).slots)

-- of a text that is a job
abbrev pub status_of_job : List ℕ → Status
status_of_job bytes = or_decks (status_of_line (job_fault bytes)) (deck_fault (job bytes).slots)

-- the text that a command works on, where these bytes are read
abbrev pub job_text : Command → List ℕ → List ℕ
job_text c bytes = text_in (input_of c) bytes

-- the text that words work on, where these bytes are read: where they are no command, just these bytes
abbrev pub text_by : Option Command → List ℕ → List ℕ
text_by None bytes = bytes
text_by (Some c) bytes = job_text c bytes

-- what the bytes by themselves call for
abbrev pub called_by : Option Command → List ℕ → Status
called_by None bytes = status.Usage
called_by (Some c) bytes =
    if is_too_long (input_of c) bytes then status.Large else status_of c (job_text c bytes)

abbrev pub called_for : List (List ℕ) → List ℕ → Status
called_for words bytes = called_by (command words) bytes

-- this is called for over a text that calls by itself for `found`: where a snapshot calls for nothing else, it goes by the journal
-- of the job at its front
abbrev pub IsCalledIn : (answers : ℕ → ℕ → Type 0) → TextForm → List ℕ → (found called : Status) → Type 0
IsCalledIn answers ASnapshot bytes status.Done called = IsComparedFor answers bytes called
IsCalledIn answers form bytes found called = called ≡ found

abbrev pub IsCalledWhere : (answers : ℕ → ℕ → Type 0) → Command → List ℕ → (found called : Status) → Type 0
IsCalledWhere answers c bytes found called = IsCalledIn answers (form_of c) bytes found called

abbrev pub IsCalled : (answers : ℕ → ℕ → Type 0) → Command → List ℕ → Status → Type 0
IsCalled answers c bytes called = IsCalledWhere answers c bytes (status_of c bytes) called

-- this answer is called for by a command, or by words that are none, where these bytes are read
abbrev pub IsCalledBy : (answers : ℕ → ℕ → Type 0) → Option Command → List ℕ → Status → Type 0
IsCalledBy answers None bytes called = called ≡ status.Usage
IsCalledBy answers (Some c) bytes called = IsCalledWhere answers c (job_text c bytes) (called_by (Some c) bytes) called

abbrev pub IsCalledFor : (answers : ℕ → ℕ → Type 0) → List (List ℕ) → List ℕ → Status → Type 0
IsCalledFor answers words bytes called = IsCalledBy answers (command words) bytes called

-- words that are no command read nothing, and a command that makes its job neither
abbrev pub reads_by : Option Command → Bool
reads_by None = false
reads_by (Some c) = is_read (input_of c)

abbrev pub reads : List (List ℕ) → Bool
reads words = reads_by (command words)

-- the answer is one that is called for; or reading failed, or writing, or there was no memory
abbrev pub Answers : (wanted : Status → Type 0) → (given : Status) → (read_failed write_failed : Type 0) → Type 0
Answers wanted status.ReadFault read_failed write_failed = read_failed
Answers wanted status.WriteFault read_failed write_failed = write_failed
Answers wanted status.Memory read_failed write_failed = Unit {0}
Answers wanted given read_failed write_failed = wanted given

-- ---- the text that is due

-- the lines that say why there is no text of a command, which may read so many bytes
abbrev pub refusal_lines : ℕ → Status → List (List ℕ)
refusal_lines limit status.Usage = usage_line ∷ []
refusal_lines limit (status.Job fault line) = job_fault_line fault line ∷ []
refusal_lines limit (status.Deck slot fault place) = deck_fault_line slot fault place ∷ []
refusal_lines limit status.Large = large_line limit ∷ []
refusal_lines limit (status.Snapshot fault line) = snapshot_fault_line fault line ∷ []
refusal_lines limit _ = []

-- the reason that is told where this answer is given in place of the text of a command, or of words that are none
abbrev pub refusal : Option Command → Status → List ℕ
refusal c called = text (refusal_lines (limit_by c) called)

-- the text of a command over this one
abbrev pub IsTextOf : (answers : ℕ → ℕ → Type 0) → Option Command → List ℕ → List ℕ → Type 0
IsTextOf answers None bytes due = ⊥
IsTextOf answers (Some c) bytes due = IsText answers c bytes due

-- the text that is due where this answer is called for: that of the command, or the reason why there is none
abbrev pub IsDueAt : (answers : ℕ → ℕ → Type 0) → Status → Option Command → List ℕ → List ℕ → Type 0
IsDueAt answers status.Done c bytes due = IsTextOf answers c bytes due
IsDueAt answers called c bytes due = due ≡ refusal c called

-- the text that is due where such an answer is called for
abbrev pub IsDue : (answers : ℕ → ℕ → Type 0) → (wanted : Status → Type 0) → Option Command → List ℕ → List ℕ → Type 0
IsDue answers wanted c bytes due = (called : Status) × wanted called × IsDueAt answers called c bytes due

-- the text that is due by a command, or by words that are none, where these bytes are read
abbrev pub IsDueBy : (answers : ℕ → ℕ → Type 0) → Option Command → List ℕ → List ℕ → Type 0
IsDueBy answers c bytes due = IsDue answers (IsCalledBy answers c bytes) c (text_by c bytes) due

abbrev pub IsDueFor : (answers : ℕ → ℕ → Type 0) → List (List ℕ) → List ℕ → List ℕ → Type 0
IsDueFor answers words bytes due = IsDueBy answers (command words) bytes due

-- ---- what is done

abbrev pub is_done : Status → Bool
is_done status.Done = true
is_done _ = false

-- a machine is kept where a command is done that runs its job under Director
abbrev pub keeps_by : Option Command → Bool
keeps_by None = false
keeps_by (Some c) = keeps_machine c

abbrev pub is_kept : List (List ℕ) → Status → Bool
is_kept words given = is_done given && keeps_by (command words)

-- no line of a command's text is faulty
abbrev pub IsFaultlessIn : TextForm → List ℕ → Type 0
IsFaultlessIn AJob bytes = job_fault bytes ≡ None
IsFaultlessIn AReport bytes = front_fault bytes ≡ None
IsFaultlessIn ASnapshot bytes = IsSnapshot bytes

abbrev pub IsFaultless : Command → List ℕ → Type 0
IsFaultless c bytes = IsFaultlessIn (form_of c) bytes

-- what a snapshot says is what comes of its front job; another text says nothing of that
abbrev pub IsTrustedIn : (answers : ℕ → ℕ → Type 0) → TextForm → List ℕ → Type 0
IsTrustedIn answers ASnapshot bytes = IsComparedFor answers bytes status.Done
IsTrustedIn answers _ bytes = Unit {0}

abbrev pub IsTrusted : (answers : ℕ → ℕ → Type 0) → Command → List ℕ → Type 0
IsTrusted answers c bytes = IsTrustedIn answers (form_of c) bytes

-- nothing is wrong with the text of a command, and this is what it made of it: a text, and the machine that it keeps, or none
pub record IsMade (answers : ℕ → ℕ → Type 0) (c : Command) (bytes made : List ℕ) (kept : Option MachineView) : Type 0 where
  pub faultless : IsFaultless c bytes
  pub assembles : deck_fault (job_of c bytes).slots ≡ None
  pub trusted : IsTrusted answers c bytes
  pub keeps : Keeps answers c bytes kept
  pub text_is : IsTextFrom answers c bytes (journal_in kept) made

-- and that was written
abbrev pub IsWritten : (answers : ℕ → ℕ → Type 0) → Command → List ℕ → Option MachineView → (before after : Option (List ℕ)) → Type 0
IsWritten answers c bytes kept before after = (made : List ℕ) × IsMade answers c bytes made kept × Added before made after

-- there is a command, which was done over this text
abbrev pub IsDoneOver : (answers : ℕ → ℕ → Type 0) → Option Command → List ℕ → Option MachineView → (before after : Option (List ℕ)) → Type 0
IsDoneOver answers None bytes kept before after = ⊥
IsDoneOver answers (Some c) bytes kept before after = IsWritten answers c bytes kept before after

-- there is a command, which was done over the text that it works on where these bytes are read
abbrev pub IsDoneBy : (answers : ℕ → ℕ → Type 0) → Option Command → List ℕ → Option MachineView → (before after : Option (List ℕ)) → Type 0
IsDoneBy answers c bytes kept before after = IsDoneOver answers c (text_by c bytes) kept before after

-- what was written where a command isn't done: the reason, if it is one that is told, and else nothing
abbrev pub Wrote : Option Command → Status → (before after : Option (List ℕ)) → Type 0
Wrote c status.Done before after = Unit {0}
Wrote c status.WriteFault before after = Unit {0}
Wrote c given before after = Added before (refusal c given) after

-- a front of the due text was written, but not all of it
abbrev pub WroteFront : (answers : ℕ → ℕ → Type 0) → (wanted : Status → Type 0) → Option Command → List ℕ → (before after : Option (List ℕ)) → Type 0
WroteFront answers wanted c bytes before after = (due : List ℕ) × IsDue answers wanted c bytes due × AddedFront before due after

abbrev pub WroteFrontBy : (answers : ℕ → ℕ → Type 0) → Option Command → List ℕ → (before after : Option (List ℕ)) → Type 0
WroteFrontBy answers c bytes before after = WroteFront answers (IsCalledBy answers c bytes) c (text_by c bytes) before after
