-- The summary of a made job: its lines, each without the byte that ends it.
use Rattle.std.specs.Prelude.{ℕ, ◌+◌, ◌*◌, List, [], ◌∷◌, ◌++◌, length, map, Option, Some, None, codes, decimal}
use Rattle.kdf_text.specs.Text.{text, octal}
use Rattle.kdf_journal.specs.declared.entry.Entry.{Entry}
use Rattle.kdf_journal.specs.declared.kind.Kind.{Kind}
use Rattle.kdf_journal.specs.declared.kind.Kind.TheVariants.{Tp}
use Rattle.kdf_transfer.specs.Devices.{Fixture, DeviceProgress}
use Rattle.kdf_processor.specs.declared.registers.Registers.{Registers}
use Rattle.kdf_processor.specs.State.{State, device_at, own_fixture_at, word_at}
use Rattle.kdf_job.specs.Job.{ShownJob, ShownSlot}
use Rattle.kdf_report.specs.Text.{end_line, life_name}

-- how many blocks a paper tape punch has finished; those of no other device are counted
abbrev pub punched : Kind → DeviceProgress → ℕ
punched Tp x = length x.blocks
punched _ x = 0

abbrev pub punched_on : Option Fixture → DeviceProgress → ℕ
punched_on None x = 0
punched_on (Some f) x = punched f.kind x

-- those of device d of a program's own
abbrev pub blocks_at : State → ℕ → ℕ
blocks_at s d = punched_on (own_fixture_at s.stock.claims d) (device_at s d)

-- the number of which the job was made, the bytes of the job, and how many entries its journal has
abbrev pub make_line : ℕ → List ℕ
make_line n = codes "KDF9 MAKE " ++ decimal n

abbrev pub job_line : ℕ → List ℕ
job_line bytes = codes "JOB " ++ decimal bytes

abbrev pub entries_line : List Entry → List ℕ
entries_line J = codes "ENTRIES " ++ decimal (length J)

-- a slot: the life and the orders of its program, how many blocks it punched, and a word of it
abbrev pub slot_line : ℕ → Registers → ℕ → ℕ → List ℕ
slot_line p r blocks word =
    codes "SLOT " ++ decimal p ++ codes " " ++ life_name r.state ++ codes " ORDERS " ++ decimal r.ran
    ++ codes " BLOCKS " ++ decimal blocks ++ codes " WORD " ++ octal word

-- from the state of the program: the blocks are those of device 2p + 1, and the word is word 12
abbrev pub program_line : ℕ → State → List ℕ
program_line p s = slot_line p s.registers (blocks_at s (2 * p + 1)) (word_at s 12)

-- the summary of a job that was made of n and has so many bytes, from its journal and the state of each program
unfoldable pub summary_lines : ℕ → ℕ → ShownJob → List Entry → (ℕ → State) → List (List ℕ)
summary_lines n bytes job J states =
    (make_line n ∷ job_line bytes ∷ entries_line J ∷ [])
    ++ map (λ (slot : ShownSlot). program_line slot.p (states slot.p)) job.slots
    ++ end_line ∷ []

abbrev pub summary_text : ℕ → ℕ → ShownJob → List Entry → (ℕ → State) → List ℕ
summary_text n bytes job J states = text (summary_lines n bytes job J states)
