-- The words after the program's name that are a command.
use Rattle.std.specs.Prelude.{◌<◌, ℕ, Bool, true, false, List, [], ◌∷◌, Option, Some, None, is_some, length, nat_lt, option_map, if◌then◌else◌, codes}
use Rattle.kdf_text.specs.Lines.{is_text}
use Rattle.kdf_text.specs.Numbers.{number_in}
use Rattle.kdf_job.specs.Made.{made_text}
use Rattle.kdf_job.specs.declared.job.TheConstants.{TEXT_LIMIT}
use Rattle.kdf_limits.specs.declared.store.TheConstants.{LAST_ADDRESS, PROGRAM_WORDS}
use Rattle.kdf_command.specs.declared.command.TheConstants.{JOB_LIMIT}
use Rattle.kdf_command.specs.declared.command.Input.{Input}
use Rattle.kdf_command.specs.declared.command.Input.TheVariants.{Read, Made}
use Rattle.kdf_command.specs.declared.command.Command.{Command}
use Rattle.kdf_command.specs.declared.command.Command.TheVariants.{Run, Save, Resume, Check, Alone, Asm, Make, Watch}

-- a slot's number as a word: 0, 1, 2 or 3
abbrev pub slot_of_word : List ℕ → Option ℕ
slot_of_word word = number_in 0 3 word

-- the number of a made job as a word: 0 to 65535, decimal, without leading zeros
abbrev pub made_of_word : List ℕ → Option ℕ
made_of_word word = number_in 0 65535 word

-- an address of the largest store as a word
abbrev pub address_of_word : List ℕ → Option ℕ
address_of_word word = number_in 0 LAST_ADDRESS word

-- the watch at an address of a slot, where there are both
abbrev pub watch_at : Option ℕ → Option ℕ → Option Command
watch_at (Some slot) (Some address) = Some (Watch slot address)
watch_at _ _ = None

-- the commands of a name alone
abbrev pub command_of_name : List ℕ → Option Command
command_of_name name =
    if is_text (codes "run") name then Some Run
    else (if is_text (codes "save") name then Some Save
    else (if is_text (codes "resume") name then Some Resume
    else (if is_text (codes "check") name then Some Check
    else None)))

-- the commands of a name and a value
abbrev pub command_of_value : List ℕ → List ℕ → Option Command
command_of_value name value =
    if is_text (codes "alone") name then option_map Alone (slot_of_word value)
    else (if is_text (codes "asm") name then option_map Asm (slot_of_word value)
    else (if is_text (codes "make") name then option_map Make (made_of_word value)
    else None))

-- the command of a name and two values
abbrev pub command_of_values : List ℕ → List ℕ → List ℕ → Option Command
command_of_values name value second =
    if is_text (codes "watch") name then watch_at (slot_of_word value) (address_of_word second)
    else None

-- what the words ask for: `run`, `alone K`, `asm K`, `make N`, `save`, `resume`, `check` or `watch K W`; no other list of words is a
-- command
unfoldable pub command : List (List ℕ) → Option Command
command (name ∷ []) = command_of_name name
command (name ∷ value ∷ []) = command_of_value name value
command (name ∷ value ∷ second ∷ []) = command_of_values name value second
command _ = None

-- the words are a command
abbrev pub is_command : List (List ℕ) → Bool
is_command words = is_some (command words)

-- what the text of a command is: a job, a job with a report after it, or a snapshot with what its schedule has more
pub data TextForm : Type 0 where
  AJob : TextForm
  AReport : TextForm
  ASnapshot : TextForm

abbrev pub form_of : Command → TextForm
form_of Resume = ASnapshot
form_of Check = AReport
form_of _ = AJob

-- a job that is read has at most so many bytes
abbrev pub job_limit : ℕ
job_limit = JOB_LIMIT

-- and a text that goes on after a job, at most so many
abbrev pub text_limit : ℕ
text_limit = TEXT_LIMIT

-- how many bytes the text of a command may have
abbrev pub limit_in : TextForm → ℕ
limit_in AJob = job_limit
limit_in _ = text_limit

abbrev pub limit_of : Command → ℕ
limit_of c = limit_in (form_of c)

abbrev pub limit_by : Option Command → ℕ
limit_by None = job_limit
limit_by (Some c) = limit_of c

-- the number that a command makes its job from, if it makes one
abbrev pub made_from : Command → Option ℕ
made_from (Make n) = Some n
made_from _ = None

-- where a command's text comes from: it is read, or made from a number
abbrev pub input_from : Option ℕ → ℕ → Input
input_from None limit = Read limit
input_from (Some n) limit = Made n

abbrev pub input_of : Command → Input
input_of c = input_from (made_from c) (limit_of c)

-- a text is read
abbrev pub is_read : Input → Bool
is_read (Read limit) = true
is_read (Made n) = false

-- these are more bytes than may be read
abbrev pub is_too_long : Input → List ℕ → Bool
is_too_long (Read limit) bytes = nat_lt limit (length bytes)
is_too_long (Made n) bytes = false

-- the text of a command: the job that is made, or else the bytes that are read
abbrev pub text_in : Input → List ℕ → List ℕ
text_in (Read limit) bytes = bytes
text_in (Made n) bytes = made_text n

-- a command that runs a job under Director, and keeps the machine
abbrev pub keeps_machine : Command → Bool
keeps_machine Run = true
keeps_machine Save = true
keeps_machine Resume = true
keeps_machine (Make n) = true
keeps_machine (Watch slot address) = true
keeps_machine _ = false

-- the slot that a command names is one of the four
abbrev pub HasSlot : Command → Type 0
HasSlot (Alone slot) = slot < 4
HasSlot (Asm slot) = slot < 4
HasSlot (Watch slot address) = slot < 4
HasSlot _ = Unit {0}

-- the address that a command names is one of the largest store
abbrev pub HasAddress : Command → Type 0
HasAddress (Watch slot address) = address < PROGRAM_WORDS
HasAddress _ = Unit {0}
