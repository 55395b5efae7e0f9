-- A job without a fault ends with its line `ENDJOB`.
use Rattle.std.proofs.Common.{◌≡◌, ℕ, ◌+◌, Bool, true, false, cond, List, [], ◌∷◌, ◌++◌, Some, None, Result, Ok, Err, refl, sym, ap, subst, ◌∙◌}
use Rattle.std.proofs.lemmas.Slice.Eq.{bytes_eq-Decides}
use Rattle.std.specs.Prelude.{codes}
use Rattle.kdf_text.specs.Lines.{is_text, lines}
use Rattle.kdf_schedule.specs.declared.event.Event.{Event}
use Rattle.kdf_schedule.specs.declared.event.EventFault.{EventFault}
use Rattle.kdf_schedule.specs.declared.event.EventFault.TheVariants as event_fault
use Rattle.kdf_schedule.specs.Events.{event}
use Rattle.kdf_job.specs.declared.fault.JobFault.{JobFault}
use Rattle.kdf_job.specs.declared.line_place.LinePlace.{LinePlace}
use Rattle.kdf_job.specs.declared.line_place.LinePlace.TheVariants.{InSchedule, BehindEnd}
use Rattle.kdf_job.specs.Draft.{ShownDraft, blank}
use Rattle.kdf_job.specs.Forms.{Form, AnEndJob, first_told, of_event, told_at}
use Rattle.kdf_job.specs.Front.{is_behind_end}
use Rattle.kdf_job.specs.Reading.{at_line, behind_line, end_fault, fault_from, job_fault, read_line}
use Rattle.kdf_job.specs.SlotLines.{place_behind}
use Rattle.kdf_job.proofs.FrontLaws.{not_ended}
use Rattle.kdf_job.proofs.Fronts.{place_after}
use Rattle.kdf_job.proofs.StoreLines.{ends_only}

end_text : (place : LinePlace) (l : List ℕ) → told_at place l ≡ Ok AnEndJob → l ≡ codes "ENDJOB"
end_text InSchedule l e = by_event (event l) (is_text (codes "ENDJOB") l) refl e
  where
    by_event : (r : Result Event EventFault) (b : Bool) → is_text (codes "ENDJOB") l ≡ b → first_told (of_event r ∷ cond b (Some (Ok AnEndJob)) None ∷ [])
        ≡ Ok AnEndJob → l ≡ codes "ENDJOB"
    by_event (Ok what) b is h = absurd cc
    by_event (Err event_fault.Number) b is h = absurd cc
    by_event (Err event_fault.Form) false is h = absurd cc
    by_event (Err event_fault.Form) true is h = (bytes_eq-Decides l (codes "ENDJOB")).0 is
end_text place l e = absurd (ends_only place l e)

-- the line that ends a job
last_line : (d e : ShownDraft) (l : List ℕ) → read_line d l ≡ Ok e → is_behind_end e.place ≡ true → l ≡ codes "ENDJOB"
last_line d e l read ends =
    found (told_at d.place l) refl (subst (λ (x : LinePlace). is_behind_end x ≡ true) (sym (place_after d e l read)) ends)
  where
    found : (r : Result Form JobFault) → told_at d.place l ≡ r → is_behind_end (place_behind d.place r) ≡ true → l ≡ codes "ENDJOB"
    found (Err fault) is h = let before = not_ended d e l read in absurd cc
    found (Ok AnEndJob) is h = end_text d.place l is
    found (Ok _) is h = absurd cc

-- no line stands after it
none_after : (n : ℕ) (e : ShownDraft) (ls : List (List ℕ)) → is_behind_end e.place ≡ true → fault_from n e ls ≡ None → ls ≡ []
none_after n e [] ends none = refl
none_after n e (l ∷ ls) ends none = step (read_line e l) refl none
  where
    step : (r : Result ShownDraft JobFault) → read_line e l ≡ r → behind_line n r (λ x. fault_from (n + 1) x ls) ≡ None → l ∷ ls ≡ []
    step (Err fault) is h = absurd cc
    step (Ok x) is h = let before = not_ended e x l is in absurd cc

abbrev pub HasEnd : List (List ℕ) → Type 0
HasEnd ls = (before : List (List ℕ)) × (ls ≡ before ++ codes "ENDJOB" ∷ [])

has_end : (n : ℕ) (d : ShownDraft) (ls : List (List ℕ)) → is_behind_end d.place ≡ false → fault_from n d ls ≡ None → HasEnd ls
has_end n d [] before none = let after = ended d.place none in absurd cc
  where
    ended : (place : LinePlace) → at_line n (end_fault place) ≡ None → is_behind_end place ≡ true
    ended BehindEnd h = refl
    ended _ h = absurd cc
has_end n d (l ∷ ls) before none = step (read_line d l) refl (λ (e : ShownDraft). has_end (n + 1) e ls) none
  where
    chosen : (e : ShownDraft) (b : Bool) → read_line d l ≡ Ok e → is_behind_end e.place ≡ b
        → (is_behind_end e.place ≡ false → fault_from (n + 1) e ls ≡ None → HasEnd ls) → fault_from (n + 1) e ls ≡ None
        → HasEnd (l ∷ ls)
    chosen e true is ends rest h = (
      [],
      ap (λ (xs : List (List ℕ)). l ∷ xs) (none_after (n + 1) e ls ends h)
          ∙ ap (λ (x : List ℕ). x ∷ []) (last_line d e l is ends),
    )
    chosen e false is goes_on rest h = let has = rest goes_on h in (l ∷ has.0, ap (λ (xs : List (List ℕ)). l ∷ xs) has.1)

    step : (r : Result ShownDraft JobFault) → read_line d l ≡ r
        → ((e : ShownDraft) → is_behind_end e.place ≡ false → fault_from (n + 1) e ls ≡ None → HasEnd ls)
        → behind_line n r (λ e. fault_from (n + 1) e ls) ≡ None → HasEnd (l ∷ ls)
    step (Err fault) is rest h = absurd cc
    step (Ok e) is rest h = chosen e (is_behind_end e.place) is refl (rest e) h

pub job_has_end : (bytes : List ℕ) → job_fault bytes ≡ None → HasEnd (lines bytes)
unfolding job_fault
job_has_end bytes none = has_end 1 blank (lines bytes) refl none
