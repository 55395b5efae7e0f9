-- A job whose schedule goes on with further lines.
use Rattle.std.proofs.Common.{◌≡◌, ℕ, ◌+◌, Bool, true, false, cond, List, [], ◌∷◌, ◌++◌, length, map, Option, Some, None, Result, Ok, Err, refl, sym, ap, ◌∙◌}
use Rattle.std.proofs.Common.{arith, append_assoc, append-nil}
use Rattle.std.specs.Prelude.{codes}
use Rattle.std.specs.Option.{option_map, option_to_list}
use Rattle.kdf_text.specs.Lines.{is_text, lines, words}
use Rattle.kdf_schedule.specs.declared.event.Event.{Event}
use Rattle.kdf_schedule.specs.declared.event.EventFault.{EventFault}
use Rattle.kdf_schedule.specs.declared.event.EventFault.TheVariants as fault_of_event
use Rattle.kdf_schedule.specs.Events.{event}
use Rattle.kdf_job.specs.declared.fault.JobFault.{JobFault}
use Rattle.kdf_job.specs.declared.fault.JobFault.TheVariants.{BadLine}
use Rattle.kdf_job.specs.declared.line_place.LinePlace.{LinePlace}
use Rattle.kdf_job.specs.declared.line_place.LinePlace.TheVariants.{InSchedule, BehindEnd}
use Rattle.kdf_job.specs.Draft.{ShownSlotDraft, ShownDraft, blank, event_fault, job_of, slot_of, with_line, with_pool}
use Rattle.kdf_job.specs.Forms.{AnEndJob, AnEvent, first_told, of_event, told_at}
use Rattle.kdf_job.specs.Job.{ShownJob}
use Rattle.kdf_job.specs.More.{events_in, joined, more_events, more_fault, one_event, scheduled}
use Rattle.kdf_job.specs.Reading.{at_line, behind_line, draft_of, end_fault, fault_from, job, job_fault, or_fault, or_same, read_line, with_told}
use Rattle.kdf_job.proofs.ScheduleLines.{IsInSchedule, same_end, same_slot}

a_fault : (x : JobFault × ℕ) → Some x ≡ None → ⊥
a_fault x h = cc

-- lines that are read, and more after them
told_through : (d : ShownDraft) (ls more : List (List ℕ)) → draft_of d (ls ++ more) ≡ draft_of (draft_of d ls) more
told_through d [] more = refl
told_through d (l ∷ ls) more = told_through (or_same d (read_line d l)) ls more

read_through : (n : ℕ) (d : ShownDraft) (ls others more : List (List ℕ)) → fault_from n d (ls ++ others) ≡ None
    → fault_from n d (ls ++ more) ≡ fault_from (n + length ls) (draft_of d ls) more
read_through n d [] others more none = let e : n ≡ n + 0 = omega arith in ap (λ (m : ℕ). fault_from m d more) e
read_through n d (l ∷ ls) others more none = step (read_line d l) (λ (e : ShownDraft). read_through (n + 1) e ls others more) none
  where
    step : (r : Result ShownDraft JobFault) → ((e : ShownDraft) → fault_from (n + 1) e (ls ++ others) ≡ None
        → fault_from (n + 1) e (ls ++ more) ≡ fault_from (n + 1 + length ls) (draft_of e ls) more)
        → behind_line n r (λ e. fault_from (n + 1) e (ls ++ others)) ≡ None
        → behind_line n r (λ e. fault_from (n + 1) e (ls ++ more)) ≡ fault_from (n + length (l ∷ ls)) (draft_of (or_same d r) ls) more
    step (Err fault) rest h = absurd (a_fault _ h)
    step (Ok e) rest h = let m : n + 1 + length ls ≡ n + length (l ∷ ls) = omega arith in rest e h ∙ ap (λ (m : ℕ). fault_from m (draft_of e ls) more) m

-- a line after the end of a job
after_end : (n : ℕ) (d : ShownDraft) (l : List ℕ) (ls : List (List ℕ)) → d.place ≡ BehindEnd → fault_from n d (l ∷ ls) ≡ Some (BadLine, n)
unfolding read_line
after_end n d l ls at = ap (λ (place : LinePlace). behind_line n (with_told d (told_at place l)) (λ e. fault_from (n + 1) e ls)) at

in_place : (n : ℕ) (d : ShownDraft) (l : List ℕ) (ls : List (List ℕ)) → d.place ≡ InSchedule
    → fault_from n d (l ∷ ls) ≡ behind_line n (with_told d (told_at InSchedule l)) (λ e. fault_from (n + 1) e ls)
unfolding read_line
in_place n d l ls at = ap (λ (place : LinePlace). behind_line n (with_told d (told_at place l)) (λ e. fault_from (n + 1) e ls)) at

-- lines of a schedule ask for nothing but its events
pub as_scheduled : (n : ℕ) (place : LinePlace) (d : ShownDraft) (ls : List (List ℕ)) → d.place ≡ place → IsInSchedule place
    → fault_from n d ls ≡ fault_from n (scheduled place d.events) ls
as_scheduled n place d [] at s = ap (λ (x : LinePlace). at_line n (end_fault x)) at
as_scheduled n BehindEnd d (l ∷ ls) at s = after_end n d l ls at ∙ sym (after_end n (scheduled BehindEnd d.events) l ls refl)
as_scheduled n InSchedule d (l ∷ ls) at s =
    in_place n d l ls at
    ∙ by_event (event l) (is_text (codes "ENDJOB") l) (λ (x : LinePlace) (e : ShownDraft). as_scheduled (n + 1) x e ls)
    ∙ sym (in_place n (scheduled InSchedule d.events) l ls refl)
  where
    by_fault : (what : Event) (f : Option JobFault)
        → ((x : LinePlace) (e : ShownDraft) → e.place ≡ x → IsInSchedule x → fault_from (n + 1) e ls ≡ fault_from (n + 1) (scheduled x e.events) ls)
        → behind_line n (or_fault (AnEvent what) d f) (λ e. fault_from (n + 1) e ls) ≡ behind_line n
        (or_fault (AnEvent what) (scheduled InSchedule d.events) f) (λ e. fault_from (n + 1) e ls)
    by_fault what (Some f) rest = refl
    by_fault what None rest = rest InSchedule (with_line (AnEvent what) d) refl (tt {0})

    by_event : (r : Result Event EventFault) (b : Bool)
        → ((x : LinePlace) (e : ShownDraft) → e.place ≡ x → IsInSchedule x → fault_from (n + 1) e ls ≡ fault_from (n + 1) (scheduled x e.events) ls)
        → behind_line n (with_told d (first_told (of_event r ∷ cond b (Some (Ok AnEndJob)) None ∷ []))) (λ e. fault_from (n + 1) e ls)
        ≡ behind_line n (with_told (scheduled InSchedule d.events) (first_told (of_event r ∷ cond b (Some (Ok AnEndJob)) None ∷ [])))
        (λ e. fault_from (n + 1) e ls)
    by_event (Ok what) b rest = by_fault what (event_fault what d.events) rest
    by_event (Err fault_of_event.Number) b rest = refl
    by_event (Err fault_of_event.Form) false rest = refl
    by_event (Err fault_of_event.Form) true rest = rest BehindEnd (with_line AnEndJob d) refl (tt {0})
as_scheduled n _ d (l ∷ ls) at s = absurd s

-- the job of a draft with this slot and these events
abbrev job_with : ShownDraft → Option ShownSlotDraft → List Event → ShownJob
job_with d slot events = record { slots = map (with_pool d.pool) (d.slots ++ option_to_list (option_map slot_of slot)); events = events; pool = d.pool }

in_place_told : (d : ShownDraft) (l : List ℕ) (ls : List (List ℕ)) → d.place ≡ InSchedule
    → draft_of d (l ∷ ls) ≡ draft_of (or_same d (with_told d (told_at InSchedule l))) ls
unfolding read_line
in_place_told d l ls at = ap (λ (place : LinePlace). draft_of (or_same d (with_told d (told_at place l))) ls) at

-- lines of a schedule without a fault tell their events, and nothing else
pub told_joined : (n : ℕ) (place : LinePlace) (d : ShownDraft) (ls : List (List ℕ)) → d.place ≡ place → IsInSchedule place → fault_from n d ls ≡ None
    → job_of (draft_of d ls) ≡ joined (job_of d) (events_in ls)
told_joined n place d [] at s none = ap (job_with d d.slot) (sym (append-nil d.events))
told_joined n BehindEnd d (l ∷ ls) at s none = absurd (a_fault _ (sym (after_end n d l ls at) ∙ none))
told_joined n InSchedule d (l ∷ ls) at s none =
    ap job_of (in_place_told d l ls at)
    ∙ by_event (event l) (is_text (codes "ENDJOB") l) (λ (x : LinePlace) (e : ShownDraft). told_joined (n + 1) x e ls) (sym (in_place n d l ls at) ∙ none)
  where
    by_fault : (what : Event) (f : Option JobFault) → ((x : LinePlace) (e : ShownDraft) → e.place ≡ x → IsInSchedule x → fault_from (n + 1) e ls ≡ None
        → job_of (draft_of e ls) ≡ joined (job_of e) (events_in ls))
        → behind_line n (or_fault (AnEvent what) d f) (λ e. fault_from (n + 1) e ls) ≡ None
        → job_of (draft_of (or_same d (or_fault (AnEvent what) d f)) ls) ≡ joined (job_of d) (what ∷ events_in ls)
    by_fault what (Some f) rest h = absurd (a_fault _ h)
    by_fault what None rest h =
        rest InSchedule (with_line (AnEvent what) d) refl (tt {0}) h
        ∙ ap (λ (o : Option ShownSlotDraft). job_with d o ((d.events ++ what ∷ []) ++ events_in ls)) (same_slot what d.slot)
        ∙ ap (job_with d d.slot) (append_assoc d.events (what ∷ []) (events_in ls))

    by_event : (r : Result Event EventFault) (b : Bool) → ((x : LinePlace) (e : ShownDraft) → e.place ≡ x → IsInSchedule x → fault_from (n + 1) e ls ≡ None
        → job_of (draft_of e ls) ≡ joined (job_of e) (events_in ls))
        → behind_line n (with_told d (first_told (of_event r ∷ cond b (Some (Ok AnEndJob)) None ∷ []))) (λ e. fault_from (n + 1) e ls) ≡ None
        → job_of (draft_of (or_same d (with_told d (first_told (of_event r ∷ cond b (Some (Ok AnEndJob)) None ∷ [])))) ls) ≡ joined (job_of d)
        (one_event r ++ events_in ls)
    by_event (Ok what) b rest h = by_fault what (event_fault what d.events) rest h
    by_event (Err fault_of_event.Number) b rest h = absurd (a_fault _ h)
    by_event (Err fault_of_event.Form) false rest h = absurd (a_fault _ h)
    by_event (Err fault_of_event.Form) true rest h =
        rest BehindEnd (with_line AnEndJob d) refl (tt {0}) h ∙ ap (λ (o : Option ShownSlotDraft). job_with d o (d.events ++ events_in ls)) (same_end d.slot)
told_joined n _ d (l ∷ ls) at s none = absurd s

-- the line `ENDJOB` ends a job in its schedule alone
ends_there : (n : ℕ) (place : LinePlace) (d : ShownDraft) → d.place ≡ place → fault_from n d (codes "ENDJOB" ∷ []) ≡ None → place ≡ InSchedule
unfolding read_line words event
ends_there n place d at none =
    here place (sym (ap (λ (x : LinePlace). behind_line n (with_told d (told_at x (codes "ENDJOB"))) (λ e. at_line (n + 1) (end_fault e.place))) at) ∙ none)
  where
    here : (x : LinePlace) → behind_line n (with_told d (told_at x (codes "ENDJOB"))) (λ e. at_line (n + 1) (end_fault e.place)) ≡ None → x ≡ InSchedule
    here InSchedule h = refl
    here _ h = absurd (a_fault _ h)

no_event : events_in (codes "ENDJOB" ∷ []) ≡ []
unfolding event words
no_event = refl

-- ---- a job of these lines and `ENDJOB`, and a text of the same lines and further ones

-- what the lines before `ENDJOB` tell
record Before (one : List ℕ) (ls : List (List ℕ)) : Type 0 where
  at : (draft_of blank ls).place ≡ InSchedule
  job_is : job one ≡ joined (job_of (draft_of blank ls)) []
  events_are : (job one).events ≡ (draft_of blank ls).events

before : (one : List ℕ) (ls : List (List ℕ)) → lines one ≡ ls ++ codes "ENDJOB" ∷ [] → job_fault one ≡ None → Before one ls
unfolding job job_fault
before one ls are none =
    let end = codes "ENDJOB" ∷ [] in
    let all : fault_from 1 blank (ls ++ end) ≡ None = sym (ap (fault_from 1 blank) are) ∙ none in
    let d = draft_of blank ls in
    let left : fault_from (1 + length ls) d end ≡ None = sym (read_through 1 blank ls end end all) ∙ all in
    let at = ends_there (1 + length ls) d.place d refl left in
    let is : job_of (draft_of blank (lines one)) ≡ joined (job_of d) [] =
    ap (λ (x : List (List ℕ)). job_of (draft_of blank x)) are
    ∙ ap job_of (told_through blank ls end)
    ∙ told_joined (1 + length ls) InSchedule d end at (tt {0}) left
    ∙ ap (joined (job_of d)) no_event in
    record { at = at; job_is = is; events_are = ap (λ (j : ShownJob). j.events) is ∙ append-nil d.events }

pub joined_fault : (one other more : List ℕ) (ls : List (List ℕ)) → lines one ≡ ls ++ codes "ENDJOB" ∷ [] → job_fault one ≡ None
    → lines other ≡ ls ++ lines more
    → job_fault other ≡ more_fault (length ls + 1) (job one).events more
unfolding more_fault job_fault
joined_fault one other more ls are none others =
    let b = before one ls are none in
    let d = draft_of blank ls in
    let all : fault_from 1 blank (ls ++ codes "ENDJOB" ∷ []) ≡ None = sym (ap (fault_from 1 blank) are) ∙ none in
    let n : 1 + length ls ≡ length ls + 1 = omega arith in
    ap (fault_from 1 blank) others
    ∙ read_through 1 blank ls (codes "ENDJOB" ∷ []) (lines more) all
    ∙ as_scheduled (1 + length ls) InSchedule d (lines more) b.at (tt {0})
    ∙ ap (λ (m : ℕ). fault_from m (scheduled InSchedule d.events) (lines more)) n
    ∙ ap (λ (es : List Event). fault_from (length ls + 1) (scheduled InSchedule es) (lines more)) (sym b.events_are)

pub joined_job : (one other more : List ℕ) (ls : List (List ℕ)) → lines one ≡ ls ++ codes "ENDJOB" ∷ [] → job_fault one ≡ None → lines other ≡ ls ++ lines more
    → job_fault other ≡ None
    → job other ≡ joined (job one) (more_events more)
unfolding more_events job job_fault
joined_job one other more ls are none others faultless =
    let b = before one ls are none in
    let d = draft_of blank ls in
    let all : fault_from 1 blank (ls ++ codes "ENDJOB" ∷ []) ≡ None = sym (ap (fault_from 1 blank) are) ∙ none in
    let left : fault_from (1 + length ls) d (lines more) ≡ None =
    sym (read_through 1 blank ls (codes "ENDJOB" ∷ []) (lines more) all) ∙ sym (ap (fault_from 1 blank) others) ∙ faultless in
    ap (λ (x : List (List ℕ)). job_of (draft_of blank x)) others
    ∙ ap job_of (told_through blank ls (lines more))
    ∙ told_joined (1 + length ls) InSchedule d (lines more) b.at (tt {0}) left
    ∙ sym (ap (λ (j : ShownJob). joined j (events_in (lines more))) b.job_is ∙ ap (λ (es : List Event). job_with d d.slot (es ++ events_in (lines more)))
    (append-nil d.events))
