-- The text that each command makes of a job, and what it is made from. `answers n a` says that a is one of the answers of the
-- installation's service to n.
use Rattle.std.specs.Prelude.{◌≡◌, ℕ, ◌*◌, List, [], ◌∷◌, ◌++◌, codes, decimal, length, map, Bool, Option, Some, None, Result, Ok, Err, true, false}
use Rattle.kdf_journal.specs.declared.entry.Entry.{Entry}
use Rattle.kdf_schedule.specs.Calls.{order_count}
use Rattle.kdf_schedule.specs.declared.event.Event.{Event}
use Rattle.kdf_usercode.specs.Faults.{FoundFault}
use Rattle.kdf_place.specs.Assembled.{assembled, image_words}
use Rattle.kdf_place.specs.Listing.{absent_listing, listing_text}
use Rattle.kdf_place.specs.Placement.{Picture}
use Rattle.kdf_job.specs.Front.{front_job}
use Rattle.kdf_job.specs.Job.{ShownJob, ShownSlot}
use Rattle.kdf_job.specs.Reading.{job}
use Rattle.kdf_job.specs.Slots.{slot_of}
use Rattle.kdf_processor.specs.Lone.{is_live, lone}
use Rattle.kdf_processor.specs.State.{State, begin}
use Rattle.kdf_theory.specs.Served.{IsJournalFor}
use Rattle.kdf_theory.specs.MachineView.{MachineView, ShowsSeen}
use Rattle.kdf_theory.specs.ByJournal.{flights_of, own, seen_of}
use Rattle.kdf_text.specs.Text.{end_line, text}
use Rattle.kdf_check.specs.Report.{IsCheck}
use Rattle.kdf_check.specs.declared.verdict.Verdict.{Verdict}
use Rattle.kdf_check.specs.declared.verdict.Verdict.TheVariants.{Yes, No}
use Rattle.kdf_report.specs.Text.{absent_text, alone_text, report_text}
use Rattle.kdf_report.specs.Summary.{summary_text}
use Rattle.kdf_watch.specs.Stops.{stops_of}
use Rattle.kdf_command.specs.Commands.{AJob, AReport, ASnapshot, TextForm, form_of, keeps_machine}
use Rattle.kdf_top.specs.Loaded.{slot_numbered, slots_of}
use Rattle.kdf_top.specs.Snapshots.{after_job, resumed_job, snapshot_of}
use Rattle.kdf_command.specs.declared.command.Command.{Command}
use Rattle.kdf_command.specs.declared.command.Command.TheVariants.{Run, Save, Resume, Check, Alone, Asm, Make, Watch}

-- ---- a program by itself

-- the state of a slot's program that ran alone, with transfers finishing at once and every ask answered 0, for as many orders
-- as the schedule has
abbrev pub alone_state : List Event → ShownSlot → State
alone_state events slot =
    lone (begin (slot_of slot (image_words slot.size slot.deck))) [] (order_count events)

abbrev pub alone_by : List Event → ℕ → Option ShownSlot → List ℕ
alone_by events p None = absent_text p
alone_by events p (Some slot) = alone_text slot (alone_state events slot)

abbrev pub alone_of : ℕ → ShownJob → List ℕ
alone_of p j = alone_by j.events p (slot_numbered j.slots p)

-- ---- the listing of a deck

abbrev pub listing_of_picture : ℕ → Result Picture FoundFault → List ℕ
listing_of_picture p (Ok picture) = listing_text p picture
listing_of_picture p (Err fault) = absent_listing p

abbrev pub listing_by : ℕ → Option ShownSlot → List ℕ
listing_by p None = absent_listing p
listing_by p (Some slot) = listing_of_picture p (assembled slot.size slot.deck)

abbrev pub listing_of : ℕ → ShownJob → List ℕ
listing_of p j = listing_by p (slot_numbered j.slots p)

-- ---- a job under Director

-- the report of a job whose journal is J: the state of each program is what is seen of its lone run
abbrev pub report_of : ShownJob → List Entry → List ℕ
report_of j J = report_text j J (seen_of (slots_of j) J)

-- the summary of the job that was made from n, and whose journal is J
abbrev pub summary_of : ℕ → List ℕ → List Entry → List ℕ
summary_of n bytes J = summary_text n (length bytes) (job bytes) J (seen_of (slots_of (job bytes)) J)

-- ---- a job under Director that is watched

-- the first line of a watch at an address of a slot, and the line of a stop after so many orders
abbrev pub watch_line : (slot address : ℕ) → List ℕ
watch_line slot address = codes "KDF9 WATCH " ++ decimal slot ++ codes " " ++ decimal address

abbrev pub stop_line : ℕ → List ℕ
stop_line n = codes "STOP " ++ decimal n

-- the lines of all stops, after the first line
abbrev pub stops_text : (slot address : ℕ) → (stops : List ℕ) → List ℕ
stops_text slot address stops = text (watch_line slot address ∷ map stop_line stops)

-- the stops of a job whose journal is J: the numbers of those orders of the slot's program by itself after which its next one is at
-- syllable 0 of the word at the address; and then the job's report
abbrev pub watched_of : (slot address : ℕ) → ShownJob → List Entry → List ℕ
watched_of slot address j J = stops_text slot address (stops_of (slots_of j) J slot (6 * address)) ++ report_of j J

-- ---- the verdict on a report that stands after its job

abbrev pub check_line : List ℕ
check_line = codes "KDF9 CHECK"

abbrev pub verdict_line : Verdict → List ℕ
verdict_line Yes = codes "YES"
verdict_line (No k) = codes "NO " ++ decimal k

abbrev pub verdict_lines : Verdict → List (List ℕ)
verdict_lines v = check_line ∷ verdict_line v ∷ end_line ∷ []

-- the text tells the verdict on what stands after the job at the front
abbrev pub IsVerdictOf : (answers : ℕ → ℕ → Type 0) → List ℕ → List ℕ → Type 0
IsVerdictOf answers bytes due =
    (v : Verdict) × IsCheck answers (slots_of (front_job bytes)) (front_job bytes).events (after_job bytes) v × (due ≡ text (verdict_lines v))

-- ---- all of them

-- the job that a command works on, where this is its text
abbrev pub job_in : TextForm → List ℕ → ShownJob
job_in AJob bytes = job bytes
job_in AReport bytes = front_job bytes
job_in ASnapshot bytes = resumed_job bytes

abbrev pub job_of : Command → List ℕ → ShownJob
job_of c bytes = job_in (form_of c) bytes

-- the text that a command makes of this one, where J is the journal of its job; what `check` writes is none that a journal gives
abbrev pub text_from : Command → List ℕ → List Entry → Option (List ℕ)
text_from Run bytes J = Some (report_of (job bytes) J)
text_from Save bytes J = Some (snapshot_of bytes J)
text_from Resume bytes J = Some (report_of (resumed_job bytes) J)
text_from Check bytes J = None
text_from (Alone p) bytes J = Some (alone_of p (job bytes))
text_from (Asm p) bytes J = Some (listing_of p (job bytes))
text_from (Make n) bytes J = Some (summary_of n bytes J)
text_from (Watch slot address) bytes J = Some (watched_of slot address (job bytes) J)

-- it is the text of a journal, or else a verdict
abbrev pub IsTextBy : (answers : ℕ → ℕ → Type 0) → Option (List ℕ) → List ℕ → List ℕ → Type 0
IsTextBy answers (Some made) bytes due = due ≡ made
IsTextBy answers None bytes due = IsVerdictOf answers bytes due

abbrev pub IsTextFrom : (answers : ℕ → ℕ → Type 0) → Command → List ℕ → List Entry → List ℕ → Type 0
IsTextFrom answers c bytes J due = IsTextBy answers (text_from c bytes J) bytes due

-- the journal that a command's text is made from: where it runs its job under Director it is the job's, legal and whole, and true
-- for the service; and where it doesn't, it is empty
abbrev pub IsJournalWhere : (answers : ℕ → ℕ → Type 0) → Bool → ShownJob → List Entry → Type 0
IsJournalWhere answers true j J = IsJournalFor answers (slots_of j) j.events J
IsJournalWhere answers false j J = J ≡ []

abbrev pub IsJournalOf : (answers : ℕ → ℕ → Type 0) → Command → List ℕ → List Entry → Type 0
IsJournalOf answers c bytes J = IsJournalWhere answers (keeps_machine c) (job_of c bytes) J

-- the text that is due of a command over one without a fault
abbrev pub IsText : (answers : ℕ → ℕ → Type 0) → Command → List ℕ → List ℕ → Type 0
IsText answers c bytes due = (J : List Entry) × IsJournalOf answers c bytes J × IsTextFrom answers c bytes J due

-- ---- the machine that is kept

-- the machine is that of a job: its journal is legal and whole, and true for the service, what it shows is what is seen of the
-- lone runs, and a program that isn't live has no transfer in flight
pub record IsMachineOf (answers : ℕ → ℕ → Type 0) (j : ShownJob) (m : MachineView) : Type 0 where
  pub slots : m.slots ≡ slots_of j
  pub journal : IsJournalFor answers m.slots j.events m.journal
  pub seen : ShowsSeen m
  pub over : (p : ℕ) → is_live (own m.slots m.journal p).registers.state ≡ false
      → (d : ℕ) → flights_of m.slots m.journal p d ≡ None

-- a command that runs its job under Director keeps its machine, and another keeps none
abbrev pub Keeps : (answers : ℕ → ℕ → Type 0) → Command → List ℕ → Option MachineView → Type 0
Keeps answers c bytes None = keeps_machine c ≡ false
Keeps answers c bytes (Some m) = (keeps_machine c ≡ true) × IsMachineOf answers (job_of c bytes) m

-- the journal of the machine that is kept, or the empty one
abbrev pub journal_in : Option MachineView → List Entry
journal_in None = []
journal_in (Some m) = m.journal
