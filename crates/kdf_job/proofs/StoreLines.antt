-- A line tells the size of a store after `SLOT p` alone, a device of the pool in the pool alone, and the job's end in the schedule alone.
use Rattle.std.proofs.Common.{◌≡◌, ℕ, Bool, true, false, cond, List, [], ◌∷◌, Option, Some, None, Result, Ok, Err, subst}
use Rattle.std.specs.Prelude.{◌==◌, codes}
use Rattle.kdf_text.specs.Lines.{is_text, words}
use Rattle.kdf_text.specs.Numbers.{number_in}
use Rattle.kdf_journal.specs.declared.kind.Kind.{Kind}
use Rattle.kdf_journal.specs.declared.kind.Kind.TheVariants.{Mt}
use Rattle.kdf_schedule.specs.declared.event.Event.{Event}
use Rattle.kdf_schedule.specs.declared.event.EventFault.{EventFault}
use Rattle.kdf_schedule.specs.declared.event.EventFault.TheVariants as event_fault
use Rattle.kdf_schedule.specs.Events.{event}
use Rattle.kdf_job.specs.declared.fault.JobFault.{JobFault}
use Rattle.kdf_job.specs.declared.fault.JobFault.TheVariants.{Header}
use Rattle.kdf_job.specs.declared.line_place.LinePlace.{LinePlace}
use Rattle.kdf_job.specs.declared.line_place.LinePlace.TheVariants.{First, BehindHeader, BehindSlot, BehindStore, InDeck, BehindDeck, BehindService}
use Rattle.kdf_job.specs.declared.line_place.LinePlace.TheVariants.{BehindDevice}
use Rattle.kdf_job.specs.declared.line_place.LinePlace.TheVariants.{BehindShow, BehindPool, InSchedule, BehindEnd}
use Rattle.kdf_job.specs.Forms.{Form, AHeader, ASlot, AStore, ADeck, ADeckLine, AnEndDeck, AService, ADevice, AMedium, AShow, APool, APoolDevice, ASchedule}
use Rattle.kdf_job.specs.Forms.{AnEvent, AnEndJob, Told, told, first_told, addresses, alone, described, device_named, device_or_end, device_words, device_line}
use Rattle.kdf_job.specs.Forms.{kind_named, medium_line, no_medium, number_line, numbered, of_event, or_bad, pooled, service_or_device, show_line, slot_ends}
use Rattle.kdf_job.specs.Forms.{slot_line, told_at}
use Rattle.kdf_job.specs.Limits.{group, most_words}

abbrev pub IsBehindSlot : LinePlace → Type 0
IsBehindSlot (BehindSlot p) = Unit {0}
IsBehindSlot _ = ⊥

abbrev pub IsInPool : LinePlace → Type 0
IsInPool BehindPool = Unit {0}
IsInPool _ = ⊥

abbrev pub IsScheduled : LinePlace → Type 0
IsScheduled InSchedule = Unit {0}
IsScheduled _ = ⊥

-- a form that stands in other places
abbrev IsElsewhere : Form → Type 0
IsElsewhere (AStore n) = ⊥
IsElsewhere (APoolDevice n kind label) = ⊥
IsElsewhere AnEndJob = ⊥
IsElsewhere _ = Unit {0}

abbrev TellsNone : Result Form JobFault → Type 0
TellsNone (Ok form) = IsElsewhere form
TellsNone (Err fault) = Unit {0}

abbrev MayTellNone : Told → Type 0
MayTellNone None = Unit {0}
MayTellNone (Some r) = TellsNone r

abbrev AllTellNone : List Told → Type 0
AllTellNone [] = Unit {0}
AllTellNone (t ∷ ts) = MayTellNone t × AllTellNone ts

first_none : (ts : List Told) → AllTellNone ts → TellsNone (first_told ts)
first_none [] h = tt {0}
first_none (None ∷ ts) h = first_none ts h.1
first_none (Some r ∷ ts) h = h.0

either : (b : Bool) (r s : Result Form JobFault) → TellsNone r → TellsNone s → TellsNone (cond b r s)
either true r s h k = h
either false r s h k = k

choice : (b : Bool) (t u : Told) → MayTellNone t → MayTellNone u → MayTellNone (cond b t u)
choice true t u h k = h
choice false t u h k = k

made : {X : Type 0} (make : X → Form) → ((x : X) → IsElsewhere (make x)) → (o : Option (Result X JobFault)) → MayTellNone (told make o)
made make none None = tt {0}
made make none (Some (Ok x)) = none x
made make none (Some (Err fault)) = tt {0}

slot_none : (line : List ℕ) → MayTellNone (slot_line line)
slot_none line = made ASlot (λ p. tt {0}) (number_line (codes "SLOT") 0 3 (words line))

show_none : (line : List ℕ) → MayTellNone (show_line line)
show_none line = made (λ (x : ℕ × ℕ). AShow x.0 x.1) (λ x. tt {0}) (addresses (words line))

medium_none : (line : List ℕ) → MayTellNone (medium_line line)
medium_none [] = tt {0}
medium_none (byte ∷ text) =
    choice (byte == 43) (Some (Ok (AMedium false text))) (cond (byte == 61) (Some (Ok (AMedium true text))) None) (tt {0})
    (choice (byte == 61) (Some (Ok (AMedium true text))) None (tt {0}) (tt {0}))

numbered_none : (kind : Kind) (label d : List ℕ) → MayTellNone (numbered kind label d)
numbered_none kind label d = made (λ (n : ℕ). ADevice n kind label) (λ n. tt {0}) (Some (or_bad (number_in 0 15 d)))

named_none : (d : List ℕ) (kind : Option Kind) → MayTellNone (device_named d kind)
named_none d None = tt {0}
named_none d (Some kind) = numbered_none kind [] d

described_none : (ws : List (List ℕ)) → MayTellNone (described ws)
described_none [] = tt {0}
described_none (d ∷ []) = tt {0}
described_none (d ∷ kind ∷ []) = named_none d (kind_named kind)
described_none (d ∷ kind ∷ label ∷ []) =
    choice (is_text (codes "MT") kind) (numbered Mt label d) None (numbered_none Mt label d) (tt {0})
described_none (d ∷ kind ∷ label ∷ more ∷ ws) = tt {0}

device_none : (ws : List (List ℕ)) → MayTellNone (device_words ws)
device_none [] = tt {0}
device_none (name ∷ rest) = choice (is_text (codes "DEVICE") name) (described rest) None (described_none rest) (tt {0})

schedule_none : (line : List ℕ) → MayTellNone (alone (codes "SCHEDULE") ASchedule line)
schedule_none line = choice (is_text (codes "SCHEDULE") line) (Some (Ok ASchedule)) None (tt {0}) (tt {0})

pool_none : (line : List ℕ) → MayTellNone (alone (codes "POOL") APool line)
pool_none line = choice (is_text (codes "POOL") line) (Some (Ok APool)) None (tt {0}) (tt {0})

service_none : (line : List ℕ) → MayTellNone (alone (codes "SERVICE") AService line)
service_none line = choice (is_text (codes "SERVICE") line) (Some (Ok AService)) None (tt {0}) (tt {0})

ends_none : (line : List ℕ) → AllTellNone (slot_ends line)
ends_none line = (show_none line, (slot_none line, (pool_none line, (schedule_none line, tt {0}))))

tells_none : (place : LinePlace) (line : List ℕ) → (IsBehindSlot place → ⊥) → (IsInPool place → ⊥) → (IsScheduled place → ⊥) → TellsNone (told_at place line)
tells_none First line away out before = either (is_text (codes "KDF9 JOB 1") line) (Ok AHeader) (Err Header) (tt {0}) (tt {0})
tells_none BehindHeader line away out before = first_none (slot_line line ∷ []) (slot_none line, tt {0})
tells_none (BehindSlot p) line away out before = absurd (away (tt {0}))
tells_none BehindStore line away out before =
    first_none (alone (codes "DECK") ADeck line ∷ []) (choice (is_text (codes "DECK") line) (Some (Ok ADeck)) None (tt {0}) (tt {0}), tt {0})
tells_none InDeck line away out before = either (is_text (codes "ENDDECK") line) (Ok AnEndDeck) (Ok (ADeckLine line)) (tt {0}) (tt {0})
tells_none BehindDeck line away out before = first_none (service_or_device line) (service_none line, (device_none (words line), ends_none line))
tells_none BehindService line away out before = first_none (device_or_end line) (device_none (words line), ends_none line)
tells_none BehindDevice line away out before = first_none (medium_line line ∷ device_or_end line) (medium_none line, (device_none (words line), ends_none line))
tells_none BehindShow line away out before = first_none (slot_ends line) (ends_none line)
tells_none BehindPool line away out before = absurd (out (tt {0}))
tells_none InSchedule line away out before = absurd (before (tt {0}))
tells_none BehindEnd line away out before = tt {0}

-- after `SLOT p`, and in the pool
abbrev IsStoreTold : Result Form JobFault → Type 0
IsStoreTold (Ok (AStore n)) = Unit {0}
IsStoreTold (Ok _) = ⊥
IsStoreTold (Err fault) = Unit {0}

store_told : (o : Option (Result ℕ JobFault)) → IsStoreTold (first_told (told AStore o ∷ []))
store_told None = tt {0}
store_told (Some (Ok n)) = tt {0}
store_told (Some (Err fault)) = tt {0}

abbrev pub IsPoolTold : Result Form JobFault → Type 0
IsPoolTold (Ok (APoolDevice n kind label)) = Unit {0}
IsPoolTold (Ok ASchedule) = Unit {0}
IsPoolTold (Ok _) = ⊥
IsPoolTold (Err fault) = Unit {0}

end_told : (b : Bool) → IsPoolTold (first_told (cond b (Some (Ok ASchedule)) None ∷ []))
end_told true = tt {0}
end_told false = tt {0}

in_pool_told : (m d : Told) (b : Bool) → IsPoolTold (first_told (no_medium m ∷ pooled d ∷ cond b (Some (Ok ASchedule)) None ∷ []))
in_pool_told (Some r) d b = tt {0}
in_pool_told None None b = end_told b
in_pool_told None (Some (Err fault)) b = tt {0}
in_pool_told None (Some (Ok (ADevice n kind label))) b = tt {0}
in_pool_told None (Some (Ok form)) b = end_told b

-- a line of the pool tells a device of it, or ends it
pub pool_tells : (line : List ℕ) → IsPoolTold (told_at BehindPool line)
pool_tells line = in_pool_told (medium_line line) (device_line line) (is_text (codes "SCHEDULE") line)

abbrev IsEventTold : Result Form JobFault → Type 0
IsEventTold (Ok (AnEvent what)) = Unit {0}
IsEventTold (Ok AnEndJob) = Unit {0}
IsEventTold (Ok _) = ⊥
IsEventTold (Err fault) = Unit {0}

event_told : (r : Result Event EventFault) (b : Bool) → IsEventTold (first_told (of_event r ∷ cond b (Some (Ok AnEndJob)) None ∷ []))
event_told (Ok what) b = tt {0}
event_told (Err event_fault.Number) b = tt {0}
event_told (Err event_fault.Form) true = tt {0}
event_told (Err event_fault.Form) false = tt {0}

-- a line of the schedule tells an event, or ends it
schedule_tells : (line : List ℕ) → IsEventTold (told_at InSchedule line)
schedule_tells line = event_told (event line) (is_text (codes "ENDJOB") line)

pub stores_only : (place : LinePlace) (line : List ℕ) (n : ℕ) → told_at place line ≡ Ok (AStore n) → IsBehindSlot place
stores_only (BehindSlot p) line n e = tt {0}
stores_only BehindPool line n e = subst IsPoolTold e (pool_tells line)
stores_only First line n e = subst TellsNone e (tells_none First line (λ no. no) (λ no. no) (λ no. no))
stores_only BehindHeader line n e = subst TellsNone e (tells_none BehindHeader line (λ no. no) (λ no. no) (λ no. no))
stores_only BehindStore line n e = subst TellsNone e (tells_none BehindStore line (λ no. no) (λ no. no) (λ no. no))
stores_only InDeck line n e = subst TellsNone e (tells_none InDeck line (λ no. no) (λ no. no) (λ no. no))
stores_only BehindDeck line n e = subst TellsNone e (tells_none BehindDeck line (λ no. no) (λ no. no) (λ no. no))
stores_only BehindService line n e = subst TellsNone e (tells_none BehindService line (λ no. no) (λ no. no) (λ no. no))
stores_only BehindDevice line n e = subst TellsNone e (tells_none BehindDevice line (λ no. no) (λ no. no) (λ no. no))
stores_only BehindShow line n e = subst TellsNone e (tells_none BehindShow line (λ no. no) (λ no. no) (λ no. no))
stores_only InSchedule line n e = subst IsEventTold e (schedule_tells line)
stores_only BehindEnd line n e = subst TellsNone e (tells_none BehindEnd line (λ no. no) (λ no. no) (λ no. no))

pub pools_only : (place : LinePlace) (line : List ℕ) (n : ℕ) (kind : Kind) (label : List ℕ) → told_at place line ≡ Ok (APoolDevice n kind label)
    → IsInPool place
pools_only BehindPool line n kind label e = tt {0}
pools_only (BehindSlot p) line n kind label e = subst IsStoreTold e (store_told (number_line (codes "STORE") group most_words (words line)))
pools_only First line n kind label e = subst TellsNone e (tells_none First line (λ no. no) (λ no. no) (λ no. no))
pools_only BehindHeader line n kind label e = subst TellsNone e (tells_none BehindHeader line (λ no. no) (λ no. no) (λ no. no))
pools_only BehindStore line n kind label e = subst TellsNone e (tells_none BehindStore line (λ no. no) (λ no. no) (λ no. no))
pools_only InDeck line n kind label e = subst TellsNone e (tells_none InDeck line (λ no. no) (λ no. no) (λ no. no))
pools_only BehindDeck line n kind label e = subst TellsNone e (tells_none BehindDeck line (λ no. no) (λ no. no) (λ no. no))
pools_only BehindService line n kind label e = subst TellsNone e (tells_none BehindService line (λ no. no) (λ no. no) (λ no. no))
pools_only BehindDevice line n kind label e = subst TellsNone e (tells_none BehindDevice line (λ no. no) (λ no. no) (λ no. no))
pools_only BehindShow line n kind label e = subst TellsNone e (tells_none BehindShow line (λ no. no) (λ no. no) (λ no. no))
pools_only InSchedule line n kind label e = subst IsEventTold e (schedule_tells line)
pools_only BehindEnd line n kind label e = subst TellsNone e (tells_none BehindEnd line (λ no. no) (λ no. no) (λ no. no))

pub ends_only : (place : LinePlace) (line : List ℕ) → told_at place line ≡ Ok AnEndJob → IsScheduled place
ends_only InSchedule line e = tt {0}
ends_only (BehindSlot p) line e = subst IsStoreTold e (store_told (number_line (codes "STORE") group most_words (words line)))
ends_only BehindPool line e = subst IsPoolTold e (pool_tells line)
ends_only First line e = subst TellsNone e (tells_none First line (λ no. no) (λ no. no) (λ no. no))
ends_only BehindHeader line e = subst TellsNone e (tells_none BehindHeader line (λ no. no) (λ no. no) (λ no. no))
ends_only BehindStore line e = subst TellsNone e (tells_none BehindStore line (λ no. no) (λ no. no) (λ no. no))
ends_only InDeck line e = subst TellsNone e (tells_none InDeck line (λ no. no) (λ no. no) (λ no. no))
ends_only BehindDeck line e = subst TellsNone e (tells_none BehindDeck line (λ no. no) (λ no. no) (λ no. no))
ends_only BehindService line e = subst TellsNone e (tells_none BehindService line (λ no. no) (λ no. no) (λ no. no))
ends_only BehindDevice line e = subst TellsNone e (tells_none BehindDevice line (λ no. no) (λ no. no) (λ no. no))
ends_only BehindShow line e = subst TellsNone e (tells_none BehindShow line (λ no. no) (λ no. no) (λ no. no))
ends_only BehindEnd line e = subst TellsNone e (tells_none BehindEnd line (λ no. no) (λ no. no) (λ no. no))
