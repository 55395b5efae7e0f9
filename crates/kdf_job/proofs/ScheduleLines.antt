-- A line of a schedule after some events.
use Rattle.std.proofs.Common.{◌≡◌, ℕ, ◌<◌, Bool, true, false, cond, List, [], ◌∷◌, ◌++◌, length, Option, Some, None, Result, Ok, Err, refl, sym, ap, subst, ◌∙◌}
use Rattle.std.proofs.Common.{arith, append_assoc, append-nil}
use Rattle.std.specs.Prelude.{◌&&◌, codes, nat_eq, nat_lt, not}
use Rattle.std.proofs.lemmas.Bool.Decides.{nat_tests}
use Rattle.std.specs.Option.{option_map}
use Rattle.kdf_text.specs.declared.lines.Lines.{Lines}
use Rattle.kdf_text.specs.Ahead.{ahead}
use Rattle.kdf_text.specs.Lines.{is_text, line}
use Rattle.kdf_text.proofs.Cutting.{no-lines}
use Rattle.kdf_schedule.specs.declared.event.Event.{Event}
use Rattle.kdf_schedule.specs.declared.event.EventFault.{EventFault}
use Rattle.kdf_schedule.specs.declared.event.EventFault.TheVariants as fault_of_event
use Rattle.kdf_schedule.specs.Events.{event}
use Rattle.kdf_job.specs.declared.fault.JobFault.{JobFault}
use Rattle.kdf_job.specs.declared.fault.JobFault.TheVariants.{BadLine}
use Rattle.kdf_job.specs.declared.line_place.LinePlace.{LinePlace}
use Rattle.kdf_job.specs.declared.line_place.LinePlace.TheVariants.{InSchedule, BehindEnd}
use Rattle.kdf_job.specs.Draft.{ShownSlotDraft, ShownDraft, event_fault, tells, with_line}
use Rattle.kdf_job.specs.Forms.{Form, AnEndJob, AnEvent, first_told, of_event, told_at}
use Rattle.kdf_job.specs.Front.{is_behind_end}
use Rattle.kdf_job.specs.More.{events_in, one_event, scheduled}
use Rattle.kdf_job.specs.Passes.{Reads}
use Rattle.kdf_job.specs.Reading.{at_line, end_fault, fault_from, or_fault, read_line, with_told}
use Rattle.kdf_job.proofs.Passing.{next_ahead}

-- a line of a schedule stands there, or the schedule is ended
abbrev pub IsInSchedule : LinePlace → Type 0
IsInSchedule InSchedule = Unit {0}
IsInSchedule BehindEnd = Unit {0}
IsInSchedule _ = ⊥

abbrev with_events : LinePlace → List Event → ShownDraft → ShownDraft
with_events place events d = record d { place = place; events = events }

-- what a line of a schedule does to any draft
pub record Goes (d : ShownDraft) (told : Result Form JobFault) (read : Result Event EventFault) (place : LinePlace) (events : List Event) : Type 0 where
  pub told_so : with_told d told ≡ Ok (with_events place events d)
  pub stands : IsInSchedule place
  pub more : events ≡ d.events ++ one_event read

pub same_slot : (what : Event) (o : Option ShownSlotDraft) → option_map (tells (AnEvent what)) o ≡ o
same_slot what None = refl
same_slot what (Some s) = refl

pub same_end : (o : Option ShownSlotDraft) → option_map (tells AnEndJob) o ≡ o
same_end None = refl
same_end (Some s) = refl

same_draft : (x y : ShownDraft) (r : Result ShownDraft JobFault) → r ≡ Ok x → r ≡ Ok y → x ≡ y
same_draft x y r is h = cc

pub goes : (d : ShownDraft) (place : LinePlace) (events : List Event) (l : List ℕ) → with_told (scheduled InSchedule d.events) (told_at InSchedule l)
    ≡ Ok (scheduled place events)
    → Goes d (told_at InSchedule l) (event l) place events
goes d place events l h = by_event (event l) (is_text (codes "ENDJOB") l) h
  where
    by_fault : (what : Event) (f : Option JobFault) → event_fault what d.events ≡ f → or_fault (AnEvent what) (scheduled InSchedule d.events) f
        ≡ Ok (scheduled place events)
        → Goes d (Ok (AnEvent what)) (Ok what) place events
    by_fault what (Some f) e h = absurd cc
    by_fault what None e h =
        let same = same_draft (with_line (AnEvent what) (scheduled InSchedule d.events)) (scheduled place events)
        (or_fault (AnEvent what) (scheduled InSchedule d.events) None) refl h in
        let p : InSchedule ≡ place = ap (λ (x : ShownDraft). x.place) same in
        let es : d.events ++ what ∷ [] ≡ events = ap (λ (x : ShownDraft). x.events) same in
        record {
          told_so = ap (or_fault (AnEvent what) d) e
              ∙ ap Ok (ap (λ (o : Option ShownSlotDraft). record d { place = InSchedule; slot = o; events = d.events ++ what ∷ [] }) (same_slot what d.slot)
              ∙ ap (λ (x : LinePlace). with_events x (d.events ++ what ∷ []) d) p ∙ ap (λ (x : List Event). with_events place x d) es);
          stands = subst IsInSchedule p (tt {0});
          more = sym es;
        }

    by_event : (r : Result Event EventFault) (b : Bool)
        → with_told (scheduled InSchedule d.events) (first_told (of_event r ∷ cond b (Some (Ok AnEndJob)) None ∷ [])) ≡ Ok (scheduled place events)
        → Goes d (first_told (of_event r ∷ cond b (Some (Ok AnEndJob)) None ∷ [])) r place events
    by_event (Ok what) b h = by_fault what (event_fault what d.events) refl h
    by_event (Err fault_of_event.Number) b h = absurd cc
    by_event (Err fault_of_event.Form) false h = absurd cc
    by_event (Err fault_of_event.Form) true h =
        let same = same_draft (with_line AnEndJob (scheduled InSchedule d.events)) (scheduled place events)
        (with_told (scheduled InSchedule d.events) (Ok AnEndJob)) refl h in
        let p : BehindEnd ≡ place = ap (λ (x : ShownDraft). x.place) same in
        let es : d.events ≡ events = ap (λ (x : ShownDraft). x.events) same in
        record {
          told_so = ap Ok (ap (λ (o : Option ShownSlotDraft). record d { place = BehindEnd; slot = o }) (same_end d.slot)
              ∙ ap (λ (x : LinePlace). with_events x d.events d) p ∙ ap (λ (x : List Event). with_events place x d) es);
          stands = subst IsInSchedule p (tt {0});
          more = sym es ∙ sym (append-nil d.events);
        }

-- a fault of a line is its fault after any draft in a schedule
refused : (d : ShownDraft) (l : List ℕ) (error : JobFault) → with_told (scheduled InSchedule d.events) (told_at InSchedule l) ≡ Err error
    → with_told d (told_at InSchedule l) ≡ Err error
refused d l error h = by_event (event l) (is_text (codes "ENDJOB") l) h
  where
    by_fault : (what : Event) (f : Option JobFault) → or_fault (AnEvent what) (scheduled InSchedule d.events) f ≡ Err error
        → or_fault (AnEvent what) d f ≡ Err error
    by_fault what (Some f) h = ap (λ (x : JobFault). Err x) cc
    by_fault what None h = absurd cc

    by_event : (r : Result Event EventFault) (b : Bool)
        → with_told (scheduled InSchedule d.events) (first_told (of_event r ∷ cond b (Some (Ok AnEndJob)) None ∷ [])) ≡ Err error
        → with_told d (first_told (of_event r ∷ cond b (Some (Ok AnEndJob)) None ∷ [])) ≡ Err error
    by_event (Ok what) b h = by_fault what (event_fault what d.events) h
    by_event (Err fault_of_event.Number) b h = ap (λ (x : JobFault). Err x) cc
    by_event (Err fault_of_event.Form) false h = ap (λ (x : JobFault). Err x) cc
    by_event (Err fault_of_event.Form) true h = absurd cc

-- ---- further lines

pub read_goes : (es more : List Event) (place : LinePlace) (l : List ℕ) → read_line (scheduled InSchedule es) l ≡ Ok (scheduled place more)
    → Goes (scheduled InSchedule es) (told_at InSchedule l) (event l) place more
unfolding read_line
read_goes es more place l h = goes (scheduled InSchedule es) place more l h

pub in_schedule : (place : LinePlace) → IsInSchedule place → is_behind_end place ≡ false → place ≡ InSchedule
in_schedule InSchedule s h = refl
in_schedule BehindEnd s h = absurd cc
in_schedule _ s h = absurd s

-- the events so far and those of the lines ahead are all
pub events_on : (old new : Lines) (es more : List Event) (place : LinePlace) → Reads old (scheduled InSchedule es) new (scheduled place more)
    → es ++ events_in (ahead old) ≡ more ++ events_in (ahead new)
events_on old new es more place p =
    let l = line (ahead old) 1 in
    let g = read_goes es more place l p.read in
    ap (λ (ls : List (List ℕ)). es ++ events_in ls) p.here
    ∙ sym (append_assoc es (one_event (event l)) (events_in (ahead new)))
    ∙ ap (λ (x : List Event). x ++ events_in (ahead new)) (sym g.more)

no_line : (at : Lines) → nat_eq (length at.rest.now) 0 ≡ true → ahead at ≡ []
no_line at none = no-lines at.rest.now none

-- the schedule is ended, and no line is ahead
pub over : (at : Lines) (place : LinePlace) (es : List Event) (b : Bool) → b ≡ (nat_eq (length at.rest.now) 0 && is_behind_end place) → b ≡ true
    → (fault_from at.number (scheduled place es) (ahead at) ≡ None) × (ahead at ≡ [])
over at place es b is h =
    let both = and_true (nat_eq (length at.rest.now) 0) (is_behind_end place) (sym is ∙ h) in
    let none = no_line at both.0 in
    (ap (fault_from at.number (scheduled place es)) none ∙ ended place both.1, none)
  where
    ended : (x : LinePlace) → is_behind_end x ≡ true → at_line at.number (end_fault x) ≡ None
    ended BehindEnd h = refl
    ended _ h = absurd cc

    and_true : (x y : Bool) → (x && y) ≡ true → (x ≡ true) × (y ≡ true)
    and_true true true h = (refl, refl)
    and_true true false h = absurd cc
    and_true false y h = absurd cc

-- it isn't ended, or a line is ahead
pub not_over : (at : Lines) (place : LinePlace) (es : List Event) (b goes_on : Bool) → IsInSchedule place
    → goes_on ≡ (nat_lt 0 (length at.rest.now) && not (is_behind_end place)) → goes_on ≡ false
    → b ≡ (nat_eq (length at.rest.now) 0 && is_behind_end place) → b ≡ false → fault_from at.number (scheduled place es) (ahead at) ≡ Some (BadLine, at.number)
unfolding read_line
not_over at InSchedule es b goes_on s on off is h =
    let none : nat_eq (length at.rest.now) 0 ≡ true = grind (arith, nat_tests) in
    ap (fault_from at.number (scheduled InSchedule es)) (no_line at none)
not_over at BehindEnd es b goes_on s on off is h =
    let some : 0 < length at.rest.now = grind (arith, nat_tests) in
    ap (fault_from at.number (scheduled BehindEnd es)) (next_ahead at some)
not_over at _ es b goes_on s on off is h = absurd s
