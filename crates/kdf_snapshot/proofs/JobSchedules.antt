-- The schedule of a job without a fault keeps its rules.
use Rattle.std.proofs.Common.{◌≡◌, ℕ, ◌+◌, Bool, true, false, cond, List, [], ◌∷◌, Option, Some, None, Result, Ok, Err, codes, refl, subst, arith}
use Rattle.std.specs.Prelude.{nat_eq}
use Rattle.kdf_text.specs.Lines.{is_text, lines, words}
use Rattle.kdf_text.specs.Numbers.{number_in}
use Rattle.kdf_text.proofs.Decimals.{decimal-number}
use Rattle.kdf_journal.specs.declared.kind.Kind.{Kind}
use Rattle.kdf_journal.specs.declared.kind.Kind.TheVariants.{Mt}
use Rattle.kdf_schedule.specs.declared.event.Event.{Event}
use Rattle.kdf_schedule.specs.declared.event.Event.TheVariants.{Orders, Move, End, Clock, Swap}
use Rattle.kdf_schedule.specs.declared.event.EventFault.{EventFault}
use Rattle.kdf_schedule.specs.declared.event.EventFault.TheVariants as event_fault
use Rattle.kdf_schedule.specs.Events.{IsInRange, clock, end, event, moving, of_number, of_numbers, of_one, of_two, of_words, orders, swap}
use Rattle.kdf_job.specs.declared.fault.JobFault.{JobFault}
use Rattle.kdf_job.specs.declared.line_place.LinePlace.{LinePlace}
use Rattle.kdf_job.specs.declared.line_place.LinePlace.TheVariants.{First, BehindHeader, BehindSlot, BehindStore, InDeck, BehindDeck, BehindService}
use Rattle.kdf_job.specs.declared.line_place.LinePlace.TheVariants.{BehindDevice}
use Rattle.kdf_job.specs.declared.line_place.LinePlace.TheVariants.{BehindShow, BehindPool, InSchedule, BehindEnd}
use Rattle.kdf_job.specs.Draft.{ShownDraft, blank, fault_of, with_line}
use Rattle.kdf_job.specs.Forms.{Form, AHeader, ASlot, AStore, ADeck, ADeckLine, AnEndDeck, ADevice, AMedium, AService, AShow, APool, ASchedule, AnEvent}
use Rattle.kdf_job.specs.Forms.{AnEndJob, Told, addresses, alone, described, device_line, device_named, device_or_end, device_words, event_line, first_told}
use Rattle.kdf_job.specs.Forms.{medium_line, no_medium, number_line, numbered, kind_named, of_event, or_bad, pool_device_or_end, pooled, service_or_device}
use Rattle.kdf_job.specs.Forms.{show_line, slot_ends, slot_line, store_line, told, told_at}
use Rattle.kdf_job.specs.Reading.{behind_line, draft_of, fault_from, job, job_fault, or_fault, or_same, read_line, with_told}
use Rattle.kdf_job.specs.WellFormed.{IsSchedule}
use Rattle.kdf_job.proofs.Schedules.{schedule_push}

-- ---- the numbers of an event are in their ranges

abbrev IsRight : Result Event EventFault → Type 0
IsRight (Ok what) = IsInRange what
IsRight (Err fault) = Unit {0}

if_right : (b : Bool) (x y : Result Event EventFault) → IsRight x → IsRight y → IsRight (cond b x y)
if_right true x y first other = first
if_right false x y first other = other

number_right : (make : ℕ → Event) (o : Option ℕ) → ((n : ℕ) → o ≡ Some n → IsInRange (make n)) → IsRight (of_number make o)
number_right make None each = tt
number_right make (Some n) each = each n refl

numbers_right : (make : ℕ → ℕ → Event) (o p : Option ℕ) → ((m n : ℕ) → o ≡ Some m → p ≡ Some n → IsInRange (make m n)) → IsRight (of_numbers make o p)
numbers_right make None p each = tt
numbers_right make (Some m) p each = number_right (make m) p (λ n is. each m n refl is)

orders_right : (w : List ℕ) → IsRight (orders w)
orders_right w = number_right Orders (number_in 1 20000000 w) (λ n is. let s = decimal-number 1 20000000 n w (omega arith) is in (s.from, s.to))

end_right : (w : List ℕ) → IsRight (end w)
end_right w = number_right End (number_in 0 15 w) (λ n is. (decimal-number 0 15 n w (omega arith) is).to)

clock_right : (w : List ℕ) → IsRight (clock w)
clock_right w = number_right Clock (number_in 0 140737488355327 w) (λ n is. (decimal-number 0 140737488355327 n w (omega arith) is).to)

moving_right : (v w : List ℕ) → IsRight (moving v w)
moving_right v w =
    numbers_right Move (number_in 0 15 v) (number_in 1 4096 w)
    (λ m n is also. let s = decimal-number 1 4096 n w (omega arith) also in ((decimal-number 0 15 m v (omega arith) is).to, s.from, s.to))

swap_right : (v w : List ℕ) → IsRight (swap v w)
swap_right v w =
    numbers_right Swap (number_in 0 3 v) (number_in 0 3 w)
    (λ m n is also. ((decimal-number 0 3 m v (omega arith) is).to, (decimal-number 0 3 n w (omega arith) also).to))

one_right : (name w : List ℕ) → IsRight (of_one name w)
one_right name w =
    if_right (is_text (codes "ORDERS") name) (orders w) _ (orders_right w)
    (if_right (is_text (codes "END") name) (end w) _ (end_right w)
    (if_right (is_text (codes "CLOCK") name) (clock w) (Err event_fault.Form) (clock_right w) tt))

two_right : (name v w : List ℕ) → IsRight (of_two name v w)
two_right name v w =
    if_right (is_text (codes "MOVE") name) (moving v w) _ (moving_right v w)
    (if_right (is_text (codes "SWAP") name) (swap v w) (Err event_fault.Form) (swap_right v w) tt)

words_right : (ws : List (List ℕ)) → IsRight (of_words ws)
words_right [] = tt
words_right (name ∷ []) = tt
words_right (name ∷ w ∷ []) = one_right name w
words_right (name ∷ v ∷ w ∷ []) = two_right name v w
words_right (name ∷ v ∷ w ∷ x ∷ ws) = tt

event_right : (line : List ℕ) → IsRight (event line)
unfolding event
event_right line = words_right (words line)

-- ---- and so are those of a line that tells one, wherever it stands

abbrev IsTold : Form → Type 0
IsTold (AnEvent what) = IsInRange what
IsTold form = Unit {0}

abbrev Fits : Told → Type 0
Fits None = Unit {0}
Fits (Some (Ok form)) = IsTold form
Fits (Some (Err fault)) = Unit {0}

abbrev FitAll : List Told → Type 0
FitAll [] = Unit {0}
FitAll (one ∷ forms) = Fits one × FitAll forms

first_fits : (forms : List Told) (form : Form) → FitAll forms → first_told forms ≡ Ok form → IsTold form
first_fits [] form all e = absurd cc
first_fits (None ∷ forms) form all e = first_fits forms form all.1 e
first_fits (Some (Ok x) ∷ forms) form all e = let is : x ≡ form = cc in subst IsTold is all.0
first_fits (Some (Err fault) ∷ forms) form all e = absurd cc

told_fits : {X : Type 0} (make : X → Form) → ((x : X) → IsTold (make x)) → (o : Option (Result X JobFault)) → Fits (told make o)
told_fits make all None = tt
told_fits make all (Some (Ok x)) = all x
told_fits make all (Some (Err fault)) = tt

named_fits : (named : Bool) (rest : Told) → Fits rest → Fits (cond named rest None)
named_fits true rest fits = fits
named_fits false rest fits = tt

alone_fits : (name : List ℕ) (form : Form) (line : List ℕ) → IsTold form → Fits (alone name form line)
alone_fits name form line fits = named_fits (is_text name line) (Some (Ok form)) fits

slot_fits : (line : List ℕ) → Fits (slot_line line)
slot_fits line = told_fits ASlot (λ n. tt) (number_line (codes "SLOT") 0 3 (words line))

store_fits : (line : List ℕ) → Fits (store_line line)
store_fits line = told_fits AStore (λ n. tt) (number_line (codes "STORE") 32 8192 (words line))

show_fits : (line : List ℕ) → Fits (show_line line)
show_fits line = told_fits (λ (x : ℕ × ℕ). AShow x.0 x.1) (λ x. tt) (addresses (words line))

numbered_fits : (kind : Kind) (label d : List ℕ) → Fits (numbered kind label d)
numbered_fits kind label d = told_fits (λ n. ADevice n kind label) (λ n. tt) (Some (or_bad (number_in 0 15 d)))

kind_fits : (d : List ℕ) (o : Option Kind) → Fits (device_named d o)
kind_fits d None = tt
kind_fits d (Some kind) = numbered_fits kind [] d

described_fits : (rest : List (List ℕ)) → Fits (described rest)
described_fits [] = tt
described_fits (d ∷ []) = tt
described_fits (d ∷ kind ∷ []) = kind_fits d (kind_named kind)
described_fits (d ∷ kind ∷ label ∷ []) = named_fits (is_text (codes "MT") kind) (numbered Mt label d) (numbered_fits Mt label d)
described_fits (d ∷ kind ∷ label ∷ other ∷ rest) = tt

device_words_fit : (line : List (List ℕ)) → Fits (device_words line)
device_words_fit [] = tt
device_words_fit (name ∷ rest) = named_fits (is_text (codes "DEVICE") name) (described rest) (described_fits rest)

device_fits : (line : List ℕ) → Fits (device_line line)
device_fits line = device_words_fit (words line)

marked_fits : (plain marked : Bool) (text : List ℕ) → Fits (cond plain (Some (Ok (AMedium false text))) (cond marked (Some (Ok (AMedium true text))) None))
marked_fits true marked text = tt
marked_fits false true text = tt
marked_fits false false text = tt

medium_fits : (line : List ℕ) → Fits (medium_line line)
medium_fits [] = tt
medium_fits (byte ∷ text) = marked_fits (nat_eq byte 43) (nat_eq byte 61) text

of_event_fits : (r : Result Event EventFault) → IsRight r → Fits (of_event r)
of_event_fits (Ok what) right = right
of_event_fits (Err event_fault.Form) right = tt
of_event_fits (Err event_fault.Number) right = tt

schedule_fits : (line : List ℕ) → Fits (alone (codes "SCHEDULE") ASchedule line)
schedule_fits line = alone_fits (codes "SCHEDULE") ASchedule line tt

ends_fit : (line : List ℕ) → FitAll (slot_ends line)
ends_fit line = (show_fits line, (slot_fits line, (alone_fits (codes "POOL") APool line tt, (schedule_fits line, tt))))

device_or_end_fit : (line : List ℕ) → FitAll (device_or_end line)
device_or_end_fit line = (device_fits line, ends_fit line)

pooled_fits : (one : Told) → Fits (pooled one)
pooled_fits None = tt
pooled_fits (Some (Err fault)) = tt
pooled_fits (Some (Ok (ADevice d kind label))) = tt
pooled_fits (Some (Ok form)) = tt

no_medium_fits : (one : Told) → Fits (no_medium one)
no_medium_fits None = tt
no_medium_fits (Some medium) = tt

if_header : (is : Bool) (fault : JobFault) (form : Form) → cond is (Ok AHeader) (Err fault) ≡ Ok form → IsTold form
if_header true fault form e = let is : AHeader ≡ form = cc in subst IsTold is tt
if_header false fault form e = absurd cc

if_end : (is : Bool) (line : List ℕ) (form : Form) → ◌≡◌ {A = Result Form JobFault} (cond is (Ok AnEndDeck) (Ok (ADeckLine line))) (Ok form) → IsTold form
if_end true line form e = let is : AnEndDeck ≡ form = cc in subst IsTold is tt
if_end false line form e = let is : ADeckLine line ≡ form = cc in subst IsTold is tt

told_form : (place : LinePlace) (line : List ℕ) (form : Form) → told_at place line ≡ Ok form → IsTold form
told_form First line form e = if_header (is_text (codes "KDF9 JOB 1") line) _ form e
told_form BehindHeader line form e = first_fits (slot_line line ∷ []) form (slot_fits line, tt) e
told_form (BehindSlot p) line form e = first_fits (store_line line ∷ []) form (store_fits line, tt) e
told_form BehindStore line form e = first_fits (alone (codes "DECK") ADeck line ∷ []) form (alone_fits (codes "DECK") ADeck line tt, tt) e
told_form InDeck line form e = if_end (is_text (codes "ENDDECK") line) line form e
told_form BehindDeck line form e = first_fits (service_or_device line) form (alone_fits (codes "SERVICE") AService line tt, device_or_end_fit line) e
told_form BehindService line form e = first_fits (device_or_end line) form (device_or_end_fit line) e
told_form BehindDevice line form e = first_fits (medium_line line ∷ device_or_end line) form (medium_fits line, device_or_end_fit line) e
told_form BehindShow line form e = first_fits (slot_ends line) form (ends_fit line) e
told_form BehindPool line form e =
    first_fits (no_medium (medium_line line) ∷ pool_device_or_end line) form
    (no_medium_fits (medium_line line), (pooled_fits (device_line line), (schedule_fits line, tt))) e
told_form InSchedule line form e =
    first_fits (event_line line ∷ alone (codes "ENDJOB") AnEndJob line ∷ []) form
    (of_event_fits (event line) (event_right line), (alone_fits (codes "ENDJOB") AnEndJob line tt, tt)) e
told_form BehindEnd line form e = absurd cc

-- ---- line by line

with_form : (form : Form) (d : ShownDraft) → IsSchedule d.events → IsTold form → fault_of form d ≡ None → IsSchedule (with_line form d).events
with_form (AnEvent what) d was range free = schedule_push d.events what was range free
with_form form d was range free = was

with_fault : (form : Form) (d e : ShownDraft) (o : Option JobFault) → fault_of form d ≡ o → IsSchedule d.events → IsTold form → or_fault form d o ≡ Ok e
    → IsSchedule e.events
with_fault form d e None free was told_so is =
    let same : with_line form d ≡ e = cc in
    subst (λ (x : ShownDraft). IsSchedule x.events) same (with_form form d was told_so free)
with_fault form d e (Some fault) free was told_so is = absurd cc

with_told_form : (d e : ShownDraft) (line : List ℕ) (r : Result Form JobFault) → told_at d.place line ≡ r → IsSchedule d.events → with_told d r ≡ Ok e
    → IsSchedule e.events
with_told_form d e line (Err fault) tells was is = absurd cc
with_told_form d e line (Ok form) tells was is = with_fault form d e (fault_of form d) refl was (told_form d.place line form tells) is

line_read : (d e : ShownDraft) (line : List ℕ) → IsSchedule d.events → read_line d line ≡ Ok e → IsSchedule e.events
unfolding read_line
line_read d e line was is = with_told_form d e line (told_at d.place line) refl was is

behind : (n : ℕ) (d : ShownDraft) (rest : List (List ℕ)) (r : Result ShownDraft JobFault)
    → ((e : ShownDraft) → r ≡ Ok e → fault_from (n + 1) e rest ≡ None → IsSchedule (draft_of e rest).events)
    → behind_line n r (λ e. fault_from (n + 1) e rest) ≡ None → IsSchedule (draft_of (or_same d r) rest).events
behind n d rest (Err fault) then free = absurd cc
behind n d rest (Ok e) then free = then e refl free

lines_read : (n : ℕ) (d : ShownDraft) (ls : List (List ℕ)) → IsSchedule d.events → fault_from n d ls ≡ None → IsSchedule (draft_of d ls).events
lines_read n d [] was free = was
lines_read n d (line ∷ rest) was free =
    behind n d rest (read_line d line) (λ e is clear. lines_read (n + 1) e rest (line_read d e line was is) clear) free

blank_schedule : IsSchedule []
blank_schedule = record { each = λ k d lt. absurd (omega arith); few = omega arith; few_orders = omega arith; rising = tt }

pub schedule_read : (bytes : List ℕ) → job_fault bytes ≡ None → IsSchedule (job bytes).events
unfolding job_fault job
schedule_read bytes free = lines_read 1 blank (lines bytes) blank_schedule free
