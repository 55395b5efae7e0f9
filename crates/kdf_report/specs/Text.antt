-- The lines that are written of a program, of a journal and of a job, each without the byte that ends it.
use Rattle.std.specs.Prelude.{ℕ, ◌+◌, ◌-◌, ◌/◌, ◌%◌, List, [], ◌∷◌, ◌++◌, map, length, ◌==◌, ◌&&◌, if◌then◌else◌, codes, decimal}
use Rattle.std.specs.List.{flat_map, range_with_len}
use Rattle.kdf_text.specs.Text.{text, octal, word_line}
pub use Rattle.kdf_text.specs.Text.{end_line}
use Rattle.kdf_qstore.specs.declared.triple.Triple.{Triple}
use Rattle.kdf_qstore.specs.Triples.{triple_at}
use Rattle.kdf_journal.specs.Failures.{name_of}
use Rattle.kdf_journal.specs.declared.entry.Entry.{Entry}
pub use Rattle.kdf_journal.specs.Printed.{entry_line}
use Rattle.kdf_processor.specs.declared.registers.Life.{Life}
use Rattle.kdf_processor.specs.declared.registers.Life.TheVariants as life
use Rattle.kdf_processor.specs.declared.registers.Registers.{Registers}
use Rattle.kdf_processor.specs.declared.spooled.Spooled.{Spooled}
use Rattle.kdf_processor.specs.State.{State, lendings, word_at}
use Rattle.kdf_job.specs.Job.{ShownJob, ShownSlot}
use Rattle.kdf_report.specs.Devices.{bit, device_lines, device_numbers, host_text, stint_lines}

-- each number after a space
abbrev pub spaced_numbers : List ℕ → List ℕ
spaced_numbers numbers = flat_map (λ n. codes " " ++ decimal n) numbers

-- a life, as it is printed
abbrev pub life_name : Life → List ℕ
life_name life.Live = codes "LIVE"
life_name life.Ended = codes "ENDED"
life_name (life.Failed kind) = codes "FAILED " ++ name_of kind

abbrev pub life_line : Life → List ℕ
life_line life = codes "STATE " ++ life_name life

-- the nest, the top first, after its number of words
abbrev pub nest_line : List ℕ → List ℕ
nest_line nest = codes "NEST " ++ decimal (length nest) ++ flat_map (λ w. codes " " ++ octal w) nest

-- the links, the top first, after their number: of each the word and the syllable
abbrev pub links_line : List ℕ → List ℕ
links_line links =
    codes "LINKS " ++ decimal (length links)
    ++ flat_map (λ l. codes " " ++ decimal (l % 8192) ++ codes "/" ++ decimal (l / 8192)) links

-- a Q-store, unless all its parts are zero
abbrev pub q_line : ℕ → Triple → List (List ℕ)
q_line q t =
    if t.c == 0 && t.i == 0 && t.m == 0 then []
    else (codes "Q " ++ decimal q ++ codes " " ++ decimal t.c ++ codes " " ++ decimal t.i
    ++ codes " " ++ decimal t.m) ∷ []

-- Q1 to Q15
abbrev pub q_lines : List Triple → List (List ℕ)
q_lines qs = flat_map (λ q. q_line q (triple_at qs q)) (range_with_len 1 15)

-- the registers; AT has the word and the syllable of the next order, FLAGS has V and TR
abbrev pub registers_lines : Registers → List (List ℕ)
registers_lines r =
    life_line r.state
    ∷ (codes "ORDERS " ++ decimal r.ran)
    ∷ (codes "AT " ++ decimal (r.at / 6) ++ codes " " ++ decimal (r.at % 6))
    ∷ (codes "FLAGS " ++ bit r.flags.v ++ codes " " ++ bit r.flags.tr)
    ∷ nest_line r.nest
    ∷ links_line r.links
    ∷ q_lines r.q

-- the word at an address
abbrev pub word_line_at : State → ℕ → List ℕ
word_line_at s a = word_line a (word_at s a)

-- the words from the first to the last address
abbrev pub show_lines : State → ℕ × ℕ → List (List ℕ)
show_lines s show = map (word_line_at s) (range_with_len show.0 (show.1 + 1 - show.0))

-- a text that was spooled, after its stream
abbrev pub spool_line : Spooled → List ℕ
spool_line x = codes "SPOOL " ++ decimal x.stream ++ codes " " ++ host_text x.text

-- the section of a slot, from the state of its program
unfoldable pub section : ShownSlot → State → List (List ℕ)
section slot s =
    (codes "SLOT " ++ decimal slot.p)
    ∷ registers_lines s.registers
    ++ flat_map (show_lines s) slot.shows
    ++ map spool_line s.stock.spooled
    ++ flat_map (device_lines s) (device_numbers slot)
    ++ flat_map stint_lines (lendings s.stock)

-- the first line of the text of a program that ran alone
abbrev pub alone_line : ℕ → List ℕ
alone_line p = codes "KDF9 ALONE " ++ decimal p

-- the text of a program that ran alone
abbrev pub alone_text : ShownSlot → State → List ℕ
alone_text slot s = text (alone_line slot.p ∷ section slot s ++ end_line ∷ [])

-- the text of a slot that the job doesn't have
abbrev pub absent_text : ℕ → List ℕ
absent_text p = text (alone_line p ∷ end_line ∷ [])

-- the first line of a report
abbrev pub head_line : List ℕ
head_line = codes "KDF9 REPORT 1"

-- the lines of a journal
abbrev pub journal_lines : List Entry → List (List ℕ)
journal_lines J = map entry_line J

-- the lines of the sections of all slots of a job, each from the state of the program of its number
abbrev pub sections_lines : ShownJob → (ℕ → State) → List (List ℕ)
sections_lines job states = flat_map (λ (slot : ShownSlot). section slot (states slot.p)) job.slots

-- the report of a job: its journal, and a section for each slot, from the state of the program of its number
unfoldable pub report_lines : ShownJob → List Entry → (ℕ → State) → List (List ℕ)
report_lines job J states =
    (head_line ∷ journal_lines J) ++ sections_lines job states ++ end_line ∷ []

abbrev pub report_text : ShownJob → List Entry → (ℕ → State) → List ℕ
report_text job J states = text (report_lines job J states)
