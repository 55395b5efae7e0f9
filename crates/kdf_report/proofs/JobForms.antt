-- The form of a line: its numbers, and where it stands.
use Rattle.std.proofs.Common.{◌≡◌, ℕ, ◌≤◌, Bool, true, false, cond, ◌&&◌, List, [], ◌∷◌, Option, Some, None, Result, Ok, Err, codes, refl, subst, arith}
use Rattle.std.specs.Prelude.{nat_eq, nat_le}
use Rattle.std.proofs.lemmas.Bool.Decides.{nat_tests}
use Rattle.kdf_text.specs.Lines.{is_text, words}
use Rattle.kdf_text.specs.Numbers.{is_number, number_in, value}
use Rattle.kdf_journal.specs.declared.kind.Kind.{Kind}
use Rattle.kdf_journal.specs.declared.kind.Kind.TheVariants.{Mt}
use Rattle.kdf_schedule.specs.declared.event.Event.{Event}
use Rattle.kdf_schedule.specs.declared.event.EventFault.{EventFault}
use Rattle.kdf_schedule.specs.declared.event.EventFault.TheVariants as event_fault
use Rattle.kdf_schedule.specs.Events.{event}
use Rattle.kdf_job.specs.declared.fault.JobFault.{JobFault}
use Rattle.kdf_job.specs.declared.line_place.LinePlace.{LinePlace}
use Rattle.kdf_job.specs.declared.line_place.LinePlace.TheVariants.{First, BehindHeader, BehindSlot, BehindStore, InDeck, BehindDeck, BehindService}
use Rattle.kdf_job.specs.declared.line_place.LinePlace.TheVariants.{BehindDevice}
use Rattle.kdf_job.specs.declared.line_place.LinePlace.TheVariants.{BehindShow, BehindPool, InSchedule, BehindEnd}
use Rattle.kdf_job.specs.Forms.{Form, AHeader, ASlot, AStore, ADeck, ADeckLine, AnEndDeck, AService, ADevice, AMedium, AShow, APool, APoolDevice, ASchedule}
use Rattle.kdf_job.specs.Forms.{AnEndJob, Told, told, or_bad, alone, addresses, described, device_line, device_named, device_or_end, device_words, event_line}
use Rattle.kdf_job.specs.Forms.{first_told, job_ends, kind_named, medium_line, no_medium, number_line, numbered, of_event, one_number, pool_device_or_end}
use Rattle.kdf_job.specs.Forms.{pooled, service_or_device, show_line, slot_ends, slot_line, store_line, told_at}

-- the numbers are in their ranges
abbrev pub IsInRange : Form → Type 0
IsInRange (ASlot p) = p ≤ 3
IsInRange (AStore n) = (32 ≤ n) × (n ≤ 8192)
IsInRange (ADevice n kind label) = n ≤ 15
IsInRange (APoolDevice n kind label) = n ≤ 15
IsInRange form = Unit {0}

abbrev pub is_store : Form → Bool
is_store (AStore n) = true
is_store form = false

-- and the line tells no size
abbrev pub IsElse : Form → Type 0
IsElse form = IsInRange form × (is_store form ≡ false)

-- a size is told after the number of a slot alone
abbrev pub IsToldAt : LinePlace → Form → Type 0
IsToldAt (BehindSlot p) form = IsInRange form
IsToldAt place form = IsElse form

-- so it is with the form, if the line has this one
abbrev Fits : (Form → Type 0) → Told → Type 0
Fits P None = Unit {0}
Fits P (Some (Ok form)) = P form
Fits P (Some (Err fault)) = Unit {0}

abbrev FitAll : (Form → Type 0) → List Told → Type 0
FitAll P [] = Unit {0}
FitAll P (one ∷ forms) = Fits P one × FitAll P forms

first_fits : (P : Form → Type 0) (forms : List Told) (form : Form) → FitAll P forms → first_told forms ≡ Ok form → P form
first_fits P [] form all e = absurd cc
first_fits P (None ∷ forms) form all e = first_fits P forms form all.1 e
first_fits P (Some (Ok x) ∷ forms) form all e = let is : x ≡ form = cc in subst P is all.0
first_fits P (Some (Err fault) ∷ forms) form all e = absurd cc

told_fits : {X : Type 0} (P : Form → Type 0) (make : X → Form) → ((x : X) → P (make x)) → (o : Option (Result X JobFault)) → Fits P (told make o)
told_fits P make all None = tt
told_fits P make all (Some (Ok x)) = all x
told_fits P make all (Some (Err fault)) = tt

named_fits : (P : Form → Type 0) (named : Bool) (rest : Told) → Fits P rest → Fits P (cond named rest None)
named_fits P true rest fits = fits
named_fits P false rest fits = tt

alone_fits : (P : Form → Type 0) (name : List ℕ) (form : Form) (line : List ℕ) → P form → Fits P (alone name form line)
alone_fits P name form line fits = named_fits P (is_text name line) (Some (Ok form)) fits

low_range : (is : Bool) (low high v n : ℕ) → cond (is && nat_le low v && nat_le v high) (Some v) None ≡ Some n → low ≤ n
low_range is low high v n e = grind (arith, nat_tests)

high_range : (is : Bool) (low high v n : ℕ) → cond (is && nat_le low v && nat_le v high) (Some v) None ≡ Some n → n ≤ high
high_range is low high v n e = grind (arith, nat_tests)

spelt_fits : (P : Form → Type 0) (make : ℕ → Form) (o : Option ℕ) → ((n : ℕ) → o ≡ Some n → P (make n)) → Fits P (told make (Some (or_bad o)))
spelt_fits P make None all = tt
spelt_fits P make (Some n) all = all n refl

-- a number in a range
number_fits : (P : Form → Type 0) (make : ℕ → Form) (low high : ℕ) → ((n : ℕ) → low ≤ n → n ≤ high → P (make n)) → (word : List ℕ)
    → Fits P (told make (Some (or_bad (number_in low high word))))
number_fits P make low high all word =
    spelt_fits P make (number_in low high word)
    (λ n e. all n (low_range (is_number word) low high (value word) n e) (high_range (is_number word) low high (value word) n e))

one_fits : (P : Form → Type 0) (make : ℕ → Form) (low high : ℕ) → ((n : ℕ) → low ≤ n → n ≤ high → P (make n)) → (rest : List (List ℕ))
    → Fits P (told make (one_number low high rest))
one_fits P make low high all [] = tt
one_fits P make low high all (word ∷ []) = number_fits P make low high all word
one_fits P make low high all (word ∷ other ∷ rest) = tt

told_if : (P : Form → Type 0) (make : ℕ → Form) (named : Bool) (o : Option (Result ℕ JobFault)) → Fits P (told make o) → Fits P (told make (cond named o None))
told_if P make true o fits = fits
told_if P make false o fits = tt

line_fits : (P : Form → Type 0) (make : ℕ → Form) (name : List ℕ) (low high : ℕ) → ((n : ℕ) → low ≤ n → n ≤ high → P (make n)) → (line : List (List ℕ))
    → Fits P (told make (number_line name low high line))
line_fits P make name low high all [] = tt
line_fits P make name low high all (first ∷ rest) = told_if P make (is_text name first) (one_number low high rest) (one_fits P make low high all rest)

slot_fits : (line : List ℕ) → Fits IsElse (slot_line line)
slot_fits line = line_fits IsElse ASlot (codes "SLOT") 0 3 (λ n low high. (high, refl)) (words line)

store_fits : (line : List ℕ) → Fits IsInRange (store_line line)
store_fits line = line_fits IsInRange AStore (codes "STORE") 32 8192 (λ n low high. (low, high)) (words line)

show_fits : (line : List ℕ) → Fits IsElse (show_line line)
show_fits line = told_fits IsElse (λ (x : ℕ × ℕ). AShow x.0 x.1) (λ x. (tt, refl)) (addresses (words line))

numbered_fits : (kind : Kind) (label d : List ℕ) → Fits IsElse (numbered kind label d)
numbered_fits kind label d = number_fits IsElse (λ n. ADevice n kind label) 0 15 (λ n low high. (high, refl)) d

kind_fits : (d : List ℕ) (o : Option Kind) → Fits IsElse (device_named d o)
kind_fits d None = tt
kind_fits d (Some kind) = numbered_fits kind [] d

described_fits : (rest : List (List ℕ)) → Fits IsElse (described rest)
described_fits [] = tt
described_fits (d ∷ []) = tt
described_fits (d ∷ kind ∷ []) = kind_fits d (kind_named kind)
described_fits (d ∷ kind ∷ label ∷ []) = named_fits IsElse (is_text (codes "MT") kind) (numbered Mt label d) (numbered_fits Mt label d)
described_fits (d ∷ kind ∷ label ∷ other ∷ rest) = tt

device_words_fit : (line : List (List ℕ)) → Fits IsElse (device_words line)
device_words_fit [] = tt
device_words_fit (name ∷ rest) = named_fits IsElse (is_text (codes "DEVICE") name) (described rest) (described_fits rest)

device_fits : (line : List ℕ) → Fits IsElse (device_line line)
device_fits line = device_words_fit (words line)

marked_fits : (plain marked : Bool) (text : List ℕ)
    → Fits IsElse (cond plain (Some (Ok (AMedium false text))) (cond marked (Some (Ok (AMedium true text))) None))
marked_fits true marked text = (tt, refl)
marked_fits false true text = (tt, refl)
marked_fits false false text = tt

medium_fits : (line : List ℕ) → Fits IsElse (medium_line line)
medium_fits [] = tt
medium_fits (byte ∷ text) = marked_fits (nat_eq byte 43) (nat_eq byte 61) text

of_event_fits : (r : Result Event EventFault) → Fits IsElse (of_event r)
of_event_fits (Ok what) = (tt, refl)
of_event_fits (Err event_fault.Form) = tt
of_event_fits (Err event_fault.Number) = tt

event_fits : (line : List ℕ) → Fits IsElse (event_line line)
event_fits line = of_event_fits (event line)

schedule_fits : (line : List ℕ) → Fits IsElse (alone (codes "SCHEDULE") ASchedule line)
schedule_fits line = alone_fits IsElse (codes "SCHEDULE") ASchedule line (tt, refl)

job_ends_fit : (line : List ℕ) → FitAll IsElse (job_ends line)
job_ends_fit line = (alone_fits IsElse (codes "POOL") APool line (tt, refl), (schedule_fits line, tt))

ends_fit : (line : List ℕ) → FitAll IsElse (slot_ends line)
ends_fit line = (show_fits line, (slot_fits line, job_ends_fit line))

device_or_end_fit : (line : List ℕ) → FitAll IsElse (device_or_end line)
device_or_end_fit line = (device_fits line, ends_fit line)

service_or_device_fit : (line : List ℕ) → FitAll IsElse (service_or_device line)
service_or_device_fit line = (alone_fits IsElse (codes "SERVICE") AService line (tt, refl), device_or_end_fit line)

-- after a pool
pooled_fits : (one : Told) → Fits IsElse one → Fits IsElse (pooled one)
pooled_fits None fits = tt
pooled_fits (Some (Err fault)) fits = tt
pooled_fits (Some (Ok (ADevice d kind label))) fits = fits
pooled_fits (Some (Ok form)) fits = tt

no_medium_fits : (one : Told) → Fits IsElse (no_medium one)
no_medium_fits None = tt
no_medium_fits (Some medium) = tt

pool_fits : (line : List ℕ) → FitAll IsElse (no_medium (medium_line line) ∷ pool_device_or_end line)
pool_fits line = (no_medium_fits (medium_line line), (pooled_fits (device_line line) (device_fits line), (schedule_fits line, tt)))

if_header : (is : Bool) (fault : JobFault) (form : Form) → cond is (Ok AHeader) (Err fault) ≡ Ok form → IsElse form
if_header true fault form e = let is : AHeader ≡ form = cc in subst IsElse is (tt, refl)
if_header false fault form e = absurd cc

if_end : (is : Bool) (line : List ℕ) (form : Form) → ◌≡◌ {A = Result Form JobFault} (cond is (Ok AnEndDeck) (Ok (ADeckLine line))) (Ok form) → IsElse form
if_end true line form e = let is : AnEndDeck ≡ form = cc in subst IsElse is (tt, refl)
if_end false line form e = let is : ADeckLine line ≡ form = cc in subst IsElse is (tt, refl)

pub told_form : (place : LinePlace) (line : List ℕ) (form : Form) → told_at place line ≡ Ok form → IsToldAt place form
told_form First line form e = if_header (is_text (codes "KDF9 JOB 1") line) _ form e
told_form BehindHeader line form e = first_fits IsElse (slot_line line ∷ []) form (slot_fits line, tt) e
told_form (BehindSlot p) line form e = first_fits IsInRange (store_line line ∷ []) form (store_fits line, tt) e
told_form BehindStore line form e = first_fits IsElse (alone (codes "DECK") ADeck line ∷ []) form (alone_fits IsElse (codes "DECK") ADeck line (tt, refl), tt) e
told_form InDeck line form e = if_end (is_text (codes "ENDDECK") line) line form e
told_form BehindDeck line form e = first_fits IsElse (service_or_device line) form (service_or_device_fit line) e
told_form BehindService line form e = first_fits IsElse (device_or_end line) form (device_or_end_fit line) e
told_form BehindDevice line form e = first_fits IsElse (medium_line line ∷ device_or_end line) form (medium_fits line, device_or_end_fit line) e
told_form BehindShow line form e = first_fits IsElse (slot_ends line) form (ends_fit line) e
told_form BehindPool line form e = first_fits IsElse (no_medium (medium_line line) ∷ pool_device_or_end line) form (pool_fits line) e
told_form InSchedule line form e =
    first_fits IsElse (event_line line ∷ alone (codes "ENDJOB") AnEndJob line ∷ []) form
    (event_fits line, (alone_fits IsElse (codes "ENDJOB") AnEndJob line (tt, refl), tt)) e
told_form BehindEnd line form e = absurd cc
