-- The forms of the lines of a job, and which of them may stand where.
use Rattle.std.specs.Prelude.{ℕ, ◌==◌, Bool, true, false, List, [], ◌∷◌, Option, Some, None, Result, Ok, Err, if◌then◌else◌, codes}
use Rattle.std.specs.Option.{ok_or, option_zip}
use Rattle.kdf_text.specs.Lines.{words, is_text}
use Rattle.kdf_text.specs.Numbers.{number_in}
use Rattle.kdf_journal.specs.declared.kind.Kind.{Kind}
use Rattle.kdf_journal.specs.declared.kind.Kind.TheVariants.{Tr, Tp, Cr, Lp, Mt}
use Rattle.kdf_schedule.specs.declared.event.Event.{Event}
use Rattle.kdf_schedule.specs.declared.event.EventFault.{EventFault}
use Rattle.kdf_schedule.specs.declared.event.EventFault.TheVariants as event_fault
use Rattle.kdf_schedule.specs.Events.{event}
use Rattle.kdf_job.specs.declared.line_place.LinePlace.{LinePlace}
use Rattle.kdf_job.specs.declared.line_place.LinePlace.TheVariants.{First, BehindHeader, BehindSlot, BehindStore, InDeck, BehindDeck, BehindService}
use Rattle.kdf_job.specs.declared.line_place.LinePlace.TheVariants.{BehindDevice}
use Rattle.kdf_job.specs.declared.line_place.LinePlace.TheVariants.{BehindShow, BehindPool, InSchedule, BehindEnd}
use Rattle.kdf_job.specs.declared.fault.JobFault.{JobFault}
use Rattle.kdf_job.specs.declared.fault.JobFault.TheVariants.{Header, BadLine, BadNumber, BadMedium}
use Rattle.kdf_limits.specs.declared.store.TheConstants.{LAST_ADDRESS}
use Rattle.kdf_job.specs.Limits.{group, most_words}

-- what a line tells
pub data Form : Type 0 where
  AHeader : Form
  ASlot : (p : ℕ) → Form
  AStore : (n : ℕ) → Form
  ADeck : Form
  ADeckLine : (text : List ℕ) → Form
  AnEndDeck : Form
  AService : Form
  ADevice : (d : ℕ) (kind : Kind) (label : List ℕ) → Form
  AMedium : (marked : Bool) (text : List ℕ) → Form
  AShow : (a b : ℕ) → Form
  APool : Form
  APoolDevice : (d : ℕ) (kind : Kind) (label : List ℕ) → Form
  ASchedule : Form
  AnEvent : (what : Event) → Form
  AnEndJob : Form

-- where the line after one of this form stands
abbrev pub next_place : Form → LinePlace
next_place AHeader = BehindHeader
next_place (ASlot p) = BehindSlot p
next_place (AStore n) = BehindStore
next_place ADeck = InDeck
next_place (ADeckLine text) = InDeck
next_place AnEndDeck = BehindDeck
next_place AService = BehindService
next_place (ADevice d kind label) = BehindDevice
next_place (AMedium marked text) = BehindDevice
next_place (AShow a b) = BehindShow
next_place APool = BehindPool
next_place (APoolDevice d kind label) = BehindPool
next_place ASchedule = InSchedule
next_place (AnEvent what) = InSchedule
next_place AnEndJob = BehindEnd

-- a line has a form, with what it tells or with a bad number; or it hasn't that form
abbrev pub Told : Type 0
Told = Option (Result Form JobFault)

-- such a form, made of what its words spell
abbrev pub told : {X : Type 0} → (X → Form) → Option (Result X JobFault) → Told
told make None = None
told make (Some (Ok x)) = Some (Ok (make x))
told make (Some (Err fault)) = Some (Err fault)

-- what words spell, where a word in a number's place may be bad
abbrev pub or_bad : {X : Type 0} → Option X → Result X JobFault
or_bad spelt = ok_or spelt BadNumber

-- a line of a name alone
abbrev pub alone : List ℕ → Form → List ℕ → Told
alone name form line = if is_text name line then Some (Ok form) else None

-- a name and a number in a range
abbrev pub one_number : ℕ → ℕ → List (List ℕ) → Option (Result ℕ JobFault)
one_number low high (n ∷ []) = Some (or_bad (number_in low high n))
one_number low high _ = None

abbrev pub number_line : List ℕ → ℕ → ℕ → List (List ℕ) → Option (Result ℕ JobFault)
number_line name low high [] = None
number_line name low high (first ∷ rest) =
    if is_text name first then one_number low high rest else None

-- `SLOT p`
abbrev pub slot_line : List ℕ → Told
slot_line line = told ASlot (number_line (codes "SLOT") 0 3 (words line))

-- `STORE n`
abbrev pub store_line : List ℕ → Told
store_line line = told AStore (number_line (codes "STORE") group most_words (words line))

-- `SHOW a b`
abbrev pub two_addresses : List (List ℕ) → Option (Result (ℕ × ℕ) JobFault)
two_addresses (a ∷ b ∷ []) =
    Some (or_bad (option_zip (number_in 0 LAST_ADDRESS a) (number_in 0 LAST_ADDRESS b)))
two_addresses _ = None

abbrev pub addresses : List (List ℕ) → Option (Result (ℕ × ℕ) JobFault)
addresses [] = None
addresses (name ∷ rest) = if is_text (codes "SHOW") name then two_addresses rest else None

abbrev pub show_line : List ℕ → Told
show_line line = told (λ x. AShow x.0 x.1) (addresses (words line))

-- the kinds of devices without a label
abbrev pub kind_named : List ℕ → Option Kind
kind_named name =
    if is_text (codes "TR") name then Some Tr
    else (if is_text (codes "TP") name then Some Tp
    else (if is_text (codes "CR") name then Some Cr
    else (if is_text (codes "LP") name then Some Lp
    else None)))

-- the number of a device of this kind
abbrev pub numbered : Kind → List ℕ → List ℕ → Told
numbered kind label d = told (λ n. ADevice n kind label) (Some (or_bad (number_in 0 15 d)))

abbrev pub device_named : List ℕ → Option Kind → Told
device_named d None = None
device_named d (Some kind) = numbered kind [] d

-- `DEVICE d k`, and `DEVICE d MT label`
abbrev pub described : List (List ℕ) → Told
described (d ∷ kind ∷ []) = device_named d (kind_named kind)
described (d ∷ kind ∷ label ∷ []) =
    if is_text (codes "MT") kind then numbered Mt label d else None
described _ = None

abbrev pub device_words : List (List ℕ) → Told
device_words [] = None
device_words (name ∷ rest) = if is_text (codes "DEVICE") name then described rest else None

abbrev pub device_line : List ℕ → Told
device_line line = device_words (words line)

-- `+text`, and `=text`; the text isn't cut
abbrev pub medium_line : List ℕ → Told
medium_line [] = None
medium_line (byte ∷ text) =
    if byte == 43 then Some (Ok (AMedium false text))
    else (if byte == 61 then Some (Ok (AMedium true text))
    else None)

-- an event of the schedule
abbrev pub of_event : Result Event EventFault → Told
of_event (Ok what) = Some (Ok (AnEvent what))
of_event (Err event_fault.Form) = None
of_event (Err event_fault.Number) = Some (Err BadNumber)

abbrev pub event_line : List ℕ → Told
event_line line = of_event (event line)

-- the first of these forms that a line has; without one it is a bad line
abbrev pub first_told : List Told → Result Form JobFault
first_told [] = Err BadLine
first_told (None ∷ forms) = first_told forms
first_told (Some told ∷ forms) = told

-- a device of the pool, where a line tells a device
abbrev pub pooled : Told → Told
pooled (Some (Ok (ADevice d kind label))) = Some (Ok (APoolDevice d kind label))
pooled (Some (Err fault)) = Some (Err fault)
pooled _ = None

-- a line of a medium, where no device has one
abbrev pub no_medium : Told → Told
no_medium None = None
no_medium (Some medium) = Some (Err BadMedium)

-- the forms that may stand after the last slot
abbrev pub job_ends : List ℕ → List Told
job_ends line = alone (codes "POOL") APool line ∷ alone (codes "SCHEDULE") ASchedule line ∷ []

-- the forms that may stand after a slot's devices and what it shows
abbrev pub slot_ends : List ℕ → List Told
slot_ends line = show_line line ∷ slot_line line ∷ job_ends line

abbrev pub device_or_end : List ℕ → List Told
device_or_end line = device_line line ∷ slot_ends line

-- the forms that may stand directly after a deck
abbrev pub service_or_device : List ℕ → List Told
service_or_device line = alone (codes "SERVICE") AService line ∷ device_or_end line

-- the forms of the pool, and that of its end
abbrev pub pool_device_or_end : List ℕ → List Told
pool_device_or_end line =
    pooled (device_line line) ∷ alone (codes "SCHEDULE") ASchedule line ∷ []

-- what a line tells in its place: a line of a deck may be anything but its end
abbrev pub told_at : LinePlace → List ℕ → Result Form JobFault
told_at First line = if is_text (codes "KDF9 JOB 1") line then Ok AHeader else Err Header
told_at BehindHeader line = first_told (slot_line line ∷ [])
told_at (BehindSlot p) line = first_told (store_line line ∷ [])
told_at BehindStore line = first_told (alone (codes "DECK") ADeck line ∷ [])
told_at InDeck line = if is_text (codes "ENDDECK") line then Ok AnEndDeck else Ok (ADeckLine line)
told_at BehindDeck line = first_told (service_or_device line)
told_at BehindService line = first_told (device_or_end line)
told_at BehindDevice line = first_told (medium_line line ∷ device_or_end line)
told_at BehindShow line = first_told (slot_ends line)
told_at BehindPool line = first_told (no_medium (medium_line line) ∷ pool_device_or_end line)
told_at InSchedule line =
    first_told (event_line line ∷ alone (codes "ENDJOB") AnEndJob line ∷ [])
told_at BehindEnd line = Err BadLine
