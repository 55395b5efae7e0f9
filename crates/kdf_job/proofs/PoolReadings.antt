-- The pool of a job without a fault, by its lines.
use Rattle.std.proofs.Common.{◌≡◌, ℕ, ◌+◌, Bool, true, false, cond, List, [], ◌∷◌, ◌++◌, Option, Some, None, Result, Ok, Err, refl, sym, ap, ◌∙◌, append_assoc}
use Rattle.std.proofs.Common.{append-nil}
use Rattle.std.specs.Prelude.{codes}
use Rattle.kdf_text.specs.Lines.{is_text, lines}
use Rattle.kdf_journal.specs.declared.kind.Kind.{Kind}
use Rattle.kdf_schedule.specs.declared.event.Event.{Event}
use Rattle.kdf_schedule.specs.declared.event.EventFault.{EventFault}
use Rattle.kdf_schedule.specs.declared.event.EventFault.TheVariants as event_fault
use Rattle.kdf_schedule.specs.Events.{event}
use Rattle.kdf_job.specs.declared.fault.JobFault.{JobFault}
use Rattle.kdf_job.specs.declared.line_place.LinePlace.{LinePlace}
use Rattle.kdf_job.specs.declared.line_place.LinePlace.TheVariants.{First, BehindPool, InSchedule, BehindEnd}
use Rattle.kdf_job.specs.Draft.{ShownDraft, blank, fault_of, pool_with, with_line}
use Rattle.kdf_job.specs.Forms.{Form, APool, APoolDevice, ASchedule, AnEndJob, next_place, first_told, of_event, told_at}
use Rattle.kdf_job.specs.Reading.{behind_line, draft_of, fault_from, job_fault, or_fault, or_same, read_line, with_told}
use Rattle.kdf_job.specs.SlotLines.{closes, opens, place_behind, pool_from, pool_lines, rest_of_pool}
use Rattle.kdf_job.proofs.StoreLines.{IsInPool, IsPoolTold, pool_tells, pools_only}

-- ---- the devices that lines lend out, of which only the places count

abbrev lent_by : Result Form JobFault → List (ℕ × Kind)
lent_by (Ok (APoolDevice n kind label)) = (n, kind) ∷ []
lent_by _ = []

abbrev lent_on : LinePlace → Result Form JobFault → (LinePlace → List (ℕ × Kind)) → List (ℕ × Kind)
lent_on place r follows = lent_by r ++ follows (place_behind place r)

abbrev lent_from : LinePlace → List (List ℕ) → List (ℕ × Kind)
lent_from place [] = []
lent_from place (line ∷ ls) = lent_on place (told_at place line) (λ at. lent_from at ls)

pool_split : (form : Form) (pool : List (ℕ × Kind)) → pool_with form pool ≡ pool ++ lent_by (Ok form)
pool_split (APoolDevice n kind label) pool = refl
pool_split form pool = sym (append-nil pool)

-- lines without a fault tell these
told_pool : (n : ℕ) (d : ShownDraft) (ls : List (List ℕ)) → fault_from n d ls ≡ None → (draft_of d ls).pool ≡ d.pool ++ lent_from d.place ls
unfolding read_line
told_pool n d [] none = sym (append-nil d.pool)
told_pool n d (line ∷ ls) none = step (told_at d.place line) (λ (e : ShownDraft). told_pool (n + 1) e ls) none
  where
    taken : (form : Form) (fault : Option JobFault)
        → ((e : ShownDraft) → fault_from (n + 1) e ls ≡ None → (draft_of e ls).pool ≡ e.pool ++ lent_from e.place ls)
        → behind_line n (or_fault form d fault) (λ e. fault_from (n + 1) e ls) ≡ None
        → (draft_of (or_same d (or_fault form d fault)) ls).pool ≡ d.pool ++ (lent_by (Ok form) ++ lent_from (next_place form) ls)
    taken form (Some fault) rest none = absurd cc
    taken form None rest none =
        rest (with_line form d) none
        ∙ ap (λ (xs : List (ℕ × Kind)). xs ++ lent_from (next_place form) ls) (pool_split form d.pool)
        ∙ append_assoc d.pool (lent_by (Ok form)) (lent_from (next_place form) ls)

    step : (r : Result Form JobFault) → ((e : ShownDraft) → fault_from (n + 1) e ls ≡ None → (draft_of e ls).pool ≡ e.pool ++ lent_from e.place ls)
        → behind_line n (with_told d r) (λ e. fault_from (n + 1) e ls) ≡ None
        → (draft_of (or_same d (with_told d r)) ls).pool ≡ d.pool ++ lent_on d.place r (λ at. lent_from at ls)
    step (Err fault) rest none = absurd cc
    step (Ok form) rest none = taken form (fault_of form d) rest none

-- ---- the pool that its lines tell

-- its first line is `POOL`
abbrev pub lent_of_lines : List (List ℕ) → List (ℕ × Kind)
lent_of_lines [] = []
lent_of_lines (first ∷ ls) = lent_from BehindPool ls

-- the schedule lends nothing
at_the_end : (ls : List (List ℕ)) → lent_from BehindEnd ls ≡ []
at_the_end [] = refl
at_the_end (line ∷ ls) = at_the_end ls

in_schedule : (ls : List (List ℕ)) → lent_from InSchedule ls ≡ []
in_schedule [] = refl
in_schedule (line ∷ ls) = step (event line) (is_text (codes "ENDJOB") line) (in_schedule ls)
  where
    step : (r : Result Event EventFault) (b : Bool) → lent_from InSchedule ls ≡ []
        → lent_on InSchedule (first_told (of_event r ∷ cond b (Some (Ok AnEndJob)) None ∷ [])) (λ at. lent_from at ls) ≡ []
    step (Ok what) b rest = rest
    step (Err event_fault.Number) b rest = rest
    step (Err event_fault.Form) true rest = at_the_end ls
    step (Err event_fault.Form) false rest = rest

-- in the pool
inside : (ls : List (List ℕ)) → lent_from BehindPool ls ≡ lent_from BehindPool (rest_of_pool ls)
inside [] = refl
inside (line ∷ ls) = step (told_at BehindPool line) refl (pool_tells line) (inside ls)
  where
    step : (r : Result Form JobFault) → told_at BehindPool line ≡ r → IsPoolTold r → lent_from BehindPool ls ≡ lent_from BehindPool (rest_of_pool ls)
        → lent_on BehindPool r (λ at. lent_from at ls) ≡ lent_from BehindPool (cond (closes r) [] (line ∷ rest_of_pool ls))
    step (Err fault) e is rest = rest ∙ ap (λ (r : Result Form JobFault). lent_on BehindPool r (λ at. lent_from at (rest_of_pool ls))) (sym e)
    step (Ok (APoolDevice n kind label)) e is rest =
        ap (λ (xs : List (ℕ × Kind)). (n, kind) ∷ xs) rest ∙ ap (λ (r : Result Form JobFault). lent_on BehindPool r (λ at. lent_from at (rest_of_pool ls)))
        (sym e)
    step (Ok ASchedule) e is rest = in_schedule ls
    step (Ok form) e is rest = absurd is

-- before the pool
outside : (place : LinePlace) (ls : List (List ℕ)) → (IsInPool place → ⊥) → lent_from place ls ≡ lent_of_lines (pool_from place ls)
outside place [] away = refl
outside place (line ∷ ls) away = step (told_at place line) refl (λ (at : LinePlace). outside at ls)
  where
    step : (r : Result Form JobFault) → told_at place line ≡ r → ((at : LinePlace) → (IsInPool at → ⊥) → lent_from at ls ≡ lent_of_lines (pool_from at ls))
        → lent_on place r (λ at. lent_from at ls) ≡ lent_of_lines (cond (opens r) (line ∷ rest_of_pool ls) (pool_from (place_behind place r) ls))
    step (Err fault) e rest = rest place away
    step (Ok APool) e rest = inside ls
    step (Ok (APoolDevice n kind label)) e rest = absurd (away (pools_only place line n kind label e))
    step (Ok form) e rest = rest (next_place form) (λ no. no)

pub pool_told : (bytes : List ℕ) → job_fault bytes ≡ None → (draft_of blank (lines bytes)).pool ≡ lent_of_lines (pool_lines bytes)
unfolding job_fault pool_lines
pool_told bytes none = told_pool 1 blank (lines bytes) none ∙ outside First (lines bytes) (λ no. no)
