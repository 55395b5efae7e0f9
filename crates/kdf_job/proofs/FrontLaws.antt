-- The front of a job without a fault, and the first fault of a front.
use Rattle.std.proofs.Common.{◌≡◌, ℕ, ◌+◌, Bool, true, false, cond, List, [], ◌∷◌, ◌++◌, length, take, min, Some, None, Result, Ok, Err, refl, sym, ap, subst}
use Rattle.std.proofs.Common.{◌∙◌, arith, append_assoc, append-nil}
use Rattle.std.proofs.lemmas.Bool.{ne_eqb}
use Rattle.std.proofs.lemmas.List.{take_min}
use Rattle.std.proofs.Math.Seq.{take-append_seam, take-length}
use Rattle.kdf_text.specs.Lines.{lines}
use Rattle.kdf_text.specs.Text.{text}
use Rattle.kdf_text.proofs.Cutting.{some-lines}
use Rattle.kdf_job.specs.declared.fault.JobFault.{JobFault}
use Rattle.kdf_job.specs.declared.line_place.LinePlace.{LinePlace}
use Rattle.kdf_job.specs.declared.line_place.LinePlace.TheVariants.{First, BehindEnd}
use Rattle.kdf_job.specs.Draft.{ShownDraft, blank}
use Rattle.kdf_job.specs.Forms.{told_at}
use Rattle.kdf_job.specs.Front.{front, front_fault, front_job, front_length, front_lines, is_behind_end, lines_to_end}
use Rattle.kdf_job.specs.Reading.{at_line, behind_line, end_fault, fault_from, job, job_fault, read_line, with_told}
use Rattle.kdf_job.specs.SlotLines.{place_behind}
use Rattle.kdf_job.proofs.Fronts.{front_has, place_after, to_end_on}
use Rattle.kdf_job.proofs.LineCuts.{cut_at, lines_append, text_lines}

-- nothing is read after the job's end
pub not_ended : (d e : ShownDraft) (l : List ℕ) → read_line d l ≡ Ok e → is_behind_end d.place ≡ false
unfolding read_line
not_ended d e l h = here d.place h
  where
    here : (place : LinePlace) → with_told d (told_at place l) ≡ Ok e → is_behind_end place ≡ false
    here BehindEnd h = absurd cc
    here _ h = refl

-- lines without a fault are the front of whatever begins with them
pub front_of : (n : ℕ) (d : ShownDraft) (ls more : List (List ℕ)) → fault_from n d ls ≡ None → lines_to_end d.place (ls ++ more) ≡ ls
front_of n d [] more none = ended d.place more none
  where
    ended : (place : LinePlace) (more : List (List ℕ)) → at_line n (end_fault place) ≡ None → lines_to_end place more ≡ []
    ended BehindEnd [] h = refl
    ended BehindEnd (l ∷ ls) h = refl
    ended _ more h = absurd cc
front_of n d (l ∷ ls) more none = step (read_line d l) refl (λ (e : ShownDraft). front_of (n + 1) e ls more) none
  where
    step : (r : Result ShownDraft JobFault) → read_line d l ≡ r → ((e : ShownDraft) → fault_from (n + 1) e ls ≡ None → lines_to_end e.place (ls ++ more) ≡ ls)
        → behind_line n r (λ e. fault_from (n + 1) e ls) ≡ None → lines_to_end d.place (l ∷ (ls ++ more)) ≡ l ∷ ls
    step (Err fault) is rest h = absurd cc
    step (Ok e) is rest h =
        to_end_on d.place l (ls ++ more) (not_ended d e l is)
        ∙ ap (λ (place : LinePlace). l ∷ lines_to_end place (ls ++ more)) (place_after d e l is)
        ∙ ap (λ (x : List (List ℕ)). l ∷ x) (rest e h)

all_front : (bytes : List ℕ) → job_fault bytes ≡ None → front_lines bytes ≡ lines bytes
unfolding front_lines job_fault
all_front bytes none = ap (lines_to_end First) (sym (append-nil (lines bytes))) ∙ front_of 1 blank (lines bytes) [] none

no_bytes : (bytes : List ℕ) → lines bytes ≡ [] → bytes ≡ []
no_bytes [] none = refl
no_bytes (b ∷ bytes) none =
    let some = some-lines (b ∷ bytes) (ne_eqb (length (b ∷ bytes)) 0 (λ e. omega arith)) in
    let e = ap (λ (ls : List (List ℕ)). length ls) none in
    absurd (omega arith)

all_bytes : (bytes : List ℕ) → min (length (text (lines bytes))) (length bytes) ≡ length bytes
all_bytes bytes =
    let c = cut_at (lines bytes) [] bytes (sym (append-nil (lines bytes))) in
    let rest = no_bytes c.rest c.others in
    let e : bytes ≡ c.front = c.is ∙ ap (λ (x : List ℕ). c.front ++ x) rest ∙ append-nil c.front in
    sym c.many ∙ ap (λ (x : List ℕ). length x) (sym e)

pub whole_front : (bytes : List ℕ) → job_fault bytes ≡ None → front_length bytes ≡ length bytes
unfolding front_length
whole_front bytes none = ap (λ (ls : List (List ℕ)). min (length (text ls)) (length bytes)) (all_front bytes none) ∙ all_bytes bytes

front_is_all : (bytes : List ℕ) → job_fault bytes ≡ None → front bytes ≡ bytes
front_is_all bytes none = ap (λ (n : ℕ). take n bytes) (whole_front bytes none) ∙ take-length bytes

pub same_job : (bytes : List ℕ) → job_fault bytes ≡ None → (front_fault bytes ≡ None) × (front_job bytes ≡ job bytes)
same_job bytes none = (ap job_fault (front_is_all bytes none) ∙ none, ap job (front_is_all bytes none))

-- a job of which the last line has its end, and what follows it
pub front_before : (bytes follows : List ℕ) → job_fault (bytes ++ 10 ∷ []) ≡ None → front (bytes ++ 10 ∷ follows) ≡ bytes ++ 10 ∷ []
unfolding front_length front_lines job_fault
front_before bytes follows none =
    let all = bytes ++ 10 ∷ follows in
    let job = bytes ++ 10 ∷ [] in
    let is : lines_to_end First (lines all) ≡ lines job = ap (lines_to_end First) (lines_append bytes follows)
    ∙ front_of 1 blank (lines job) (lines follows) none in
    take_min (length (text (lines_to_end First (lines all)))) all
    ∙ ap (λ (ls : List (List ℕ)). take (length (text ls)) all) is
    ∙ ap (λ (x : List ℕ). take (length x) all) (text_lines bytes)
    ∙ ap (take (length job)) (sym (append_assoc bytes (10 ∷ []) follows))
    ∙ take-append_seam job follows

-- the first faulty line of a front is that of the text as a job
front_first : (n : ℕ) (d : ShownDraft) (ls : List (List ℕ)) (found : JobFault × ℕ) → fault_from n d (lines_to_end d.place ls) ≡ Some found
    → fault_from n d ls ≡ Some found
front_first n d [] found h = h
front_first n d (l ∷ ls) found h = chosen (is_behind_end d.place) refl (λ (e : ShownDraft). front_first (n + 1) e ls found) h
  where
    next : LinePlace
    next = place_behind d.place (told_at d.place l)

    ended : (place : LinePlace) → is_behind_end place ≡ true → at_line n (end_fault place) ≡ None
    ended BehindEnd h = refl
    ended _ h = absurd cc

    step : (r : Result ShownDraft JobFault) → read_line d l ≡ r
        → ((e : ShownDraft) → fault_from (n + 1) e (lines_to_end e.place ls) ≡ Some found → fault_from (n + 1) e ls ≡ Some found)
        → behind_line n r (λ e. fault_from (n + 1) e (lines_to_end next ls)) ≡ Some found → behind_line n r (λ e. fault_from (n + 1) e ls) ≡ Some found
    step (Err fault) is rest h = h
    step (Ok e) is rest h = rest e (subst (λ (place : LinePlace). fault_from (n + 1) e (lines_to_end place ls) ≡ Some found) (place_after d e l is) h)

    chosen : (b : Bool) → is_behind_end d.place ≡ b
        → ((e : ShownDraft) → fault_from (n + 1) e (lines_to_end e.place ls) ≡ Some found → fault_from (n + 1) e ls ≡ Some found)
        → fault_from n d (cond b [] (l ∷ lines_to_end next ls)) ≡ Some found → fault_from n d (l ∷ ls) ≡ Some found
    chosen true is rest h = let e = ended d.place is in absurd cc
    chosen false is rest h = step (read_line d l) refl rest h

pub first_fault : (bytes : List ℕ) (found : JobFault × ℕ) → front_fault bytes ≡ Some found → job_fault bytes ≡ Some found
unfolding job_fault front_lines
first_fault bytes found h = front_first 1 blank (lines bytes) found (subst (λ (ls : List (List ℕ)). fault_from 1 blank ls ≡ Some found) (front_has bytes) h)
