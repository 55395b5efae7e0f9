-- The lines of the job at the front of a text.
use Rattle.std.proofs.Common.{◌≡◌, ℕ, ◌+◌, ◌<◌, Bool, true, false, cond, eqb, List, [], ◌∷◌, ◌++◌, length, drop, min, Option, Some, None, Result, Ok, Err, refl}
use Rattle.std.proofs.Common.{sym, ap, subst, ◌∙◌, arith, ⊎_elim}
use Rattle.std.proofs.lemmas.Bool.{cases_Bool}
use Rattle.std.proofs.lemmas.Bool.Decides.{nat_tests}
use Rattle.std.specs.Prelude.{◌&&◌, nat_lt, not}
use Rattle.kdf_text.specs.declared.lines.Lines.{Lines}
use Rattle.kdf_text.specs.Ahead.{ahead}
use Rattle.kdf_text.specs.Lines.{line, lines}
use Rattle.kdf_text.specs.Text.{text}
use Rattle.kdf_text.proofs.Cutting.{no-lines}
use Rattle.kdf_job.specs.declared.fault.JobError.{JobError}
use Rattle.kdf_job.specs.declared.fault.JobFault.{JobFault}
use Rattle.kdf_job.specs.declared.line_place.LinePlace.{LinePlace}
use Rattle.kdf_job.specs.declared.line_place.LinePlace.TheVariants.{First}
use Rattle.kdf_job.specs.Draft.{ShownDraft, blank, fault_of, job_of}
use Rattle.kdf_job.specs.Forms.{Form, next_place, told_at}
use Rattle.kdf_job.specs.Front.{front, front_fault, front_job, front_length, front_lines, is_behind_end, lines_to_end}
use Rattle.kdf_job.specs.Passes.{Reads, next_fault}
use Rattle.kdf_job.specs.Reading.{Says, at_line, draft_of, end_fault, fault_from, job, job_fault, or_fault, read_line, with_told}
use Rattle.kdf_job.specs.SlotLines.{place_behind}
use Rattle.kdf_job.proofs.LineCuts.{lines_behind, lines_before, text_length}
use Rattle.kdf_job.proofs.Passing.{fault_on, next_ahead, says_first, told_on}

-- the place after a line that was read
pub place_after : (d e : ShownDraft) (l : List ℕ) → read_line d l ≡ Ok e → place_behind d.place (told_at d.place l) ≡ e.place
unfolding read_line
place_after d e l h = told (told_at d.place l) h
  where
    taken : (form : Form) (fault : Option JobFault) → or_fault form d fault ≡ Ok e → next_place form ≡ e.place
    taken form (Some fault) h = absurd cc
    taken form None h = ap (λ (r : Result ShownDraft JobFault). place_of r) h
      where
        place_of : Result ShownDraft JobFault → LinePlace
        place_of (Ok x) = x.place
        place_of (Err fault) = First

    told : (r : Result Form JobFault) → with_told d r ≡ Ok e → place_behind d.place r ≡ e.place
    told (Err fault) h = absurd cc
    told (Ok form) h = taken form (fault_of form d) h

pub to_end_on : (place : LinePlace) (l : List ℕ) (ls : List (List ℕ)) → is_behind_end place ≡ false
    → lines_to_end place (l ∷ ls) ≡ l ∷ lines_to_end (place_behind place (told_at place l)) ls
to_end_on place l ls goes_on = rw goes_on refl

-- a line of the front
front_on : (old new : Lines) (d e : ShownDraft) → is_behind_end d.place ≡ false → Reads old d new e
    → lines_to_end d.place (ahead old) ≡ line (ahead old) 1 ∷ lines_to_end e.place (ahead new)
front_on old new d e goes_on p =
    let l = line (ahead old) 1 in
    ap (lines_to_end d.place) p.here
    ∙ to_end_on d.place l (ahead new) goes_on
    ∙ ap (λ (place : LinePlace). l ∷ lines_to_end place (ahead new)) (place_after d e l p.read)

-- what comes of the front's lines from here is what comes of all of them
pub front_fault_on : (old new : Lines) (d e : ShownDraft) → is_behind_end d.place ≡ false → Reads old d new e
    → fault_from old.number d (lines_to_end d.place (ahead old)) ≡ fault_from new.number e (lines_to_end e.place (ahead new))
front_fault_on old new d e goes_on p =
    ap (fault_from old.number d) (front_on old new d e goes_on p) ∙ fault_on old.number new.number d e (line (ahead old) 1) (lines_to_end e.place (ahead new))
    p.next p.read

pub front_told_on : (old new : Lines) (d e : ShownDraft) → is_behind_end d.place ≡ false → Reads old d new e
    → draft_of d (lines_to_end d.place (ahead old)) ≡ draft_of e (lines_to_end e.place (ahead new))
front_told_on old new d e goes_on p = ap (draft_of d) (front_on old new d e goes_on p)
    ∙ told_on d e (line (ahead old) 1) (lines_to_end e.place (ahead new)) p.read

pub front_longer : (old new : Lines) (d e : ShownDraft) → is_behind_end d.place ≡ false → Reads old d new e
    → length (text (lines_to_end d.place (ahead old))) ≡ length (line (ahead old) 1) + 1 + length (text (lines_to_end e.place (ahead new)))
front_longer old new d e goes_on p = ap (λ (ls : List (List ℕ)). length (text ls)) (front_on old new d e goes_on p)
    ∙ text_length (line (ahead old) 1) (lines_to_end e.place (ahead new))

-- a line of the front that has a fault
pub front_stopped : (at : Lines) (d : ShownDraft) (e : JobError) → is_behind_end d.place ≡ false → 0 < length at.rest.now → Says e (next_fault at d)
    → Says e (fault_from at.number d (lines_to_end d.place (ahead at)))
front_stopped at d e goes_on some h =
    let l = line (ahead at) 1 in
    let rest = lines_to_end (place_behind d.place (told_at d.place l)) (drop 1 (ahead at)) in
    let is : lines_to_end d.place (ahead at) ≡ l ∷ rest = ap (lines_to_end d.place) (next_ahead at some) ∙ to_end_on d.place l (drop 1 (ahead at)) goes_on in
    subst (λ (ls : List (List ℕ)). Says e (fault_from at.number d ls)) (sym is)
    (says_first e at.number (read_line d l) (λ x. fault_from (at.number + 1) x rest) h)

-- a line of the front is ahead, or none
pub some_to_end : (at : Lines) (place : LinePlace) (goes_on : Bool) → goes_on ≡ (nat_lt 0 (length at.rest.now) && not (is_behind_end place)) → goes_on ≡ true
    → (0 < length at.rest.now) × (is_behind_end place ≡ false)
some_to_end at place b is h = grind (arith, nat_tests)

pub none_to_end : (at : Lines) (place : LinePlace) (goes_on : Bool) → goes_on ≡ (nat_lt 0 (length at.rest.now) && not (is_behind_end place)) → goes_on ≡ false
    → lines_to_end place (ahead at) ≡ []
none_to_end at place b is h =
    ⊎_elim
    (λ (none : eqb (length at.rest.now) 0 ≡ true). ap (lines_to_end place) (no-lines at.rest.now none))
    (λ (some : eqb (length at.rest.now) 0 ≡ false). ended (ahead at) (over (is_behind_end place) some (sym is ∙ h)))
    (cases_Bool (eqb (length at.rest.now) 0))
  where
    over : (e : Bool) → eqb (length at.rest.now) 0 ≡ false → (nat_lt 0 (length at.rest.now) && not e) ≡ false → e ≡ true
    over true some h = refl
    over false some h = absurd (grind (arith, nat_tests))

    ended : (ls : List (List ℕ)) → is_behind_end place ≡ true → lines_to_end place ls ≡ []
    ended [] e = refl
    ended (l ∷ ls) e = rw e refl

-- ---- the bytes of the front

-- the lines that stand after the job
abbrev pub lines_after : LinePlace → List (List ℕ) → List (List ℕ)
lines_after place [] = []
lines_after place (l ∷ ls) = cond (is_behind_end place) (l ∷ ls) (lines_after (place_behind place (told_at place l)) ls)

all_lines : (place : LinePlace) (ls : List (List ℕ)) → ls ≡ lines_to_end place ls ++ lines_after place ls
all_lines place [] = refl
all_lines place (l ∷ ls) =
    elim (is_behind_end place) as (λ (b : Bool). l ∷ ls ≡ cond b [] (l ∷ lines_to_end next ls) ++ cond b (l ∷ ls) (lines_after next ls))
    [ true ↦ refl | false ↦ ap (λ (x : List (List ℕ)). l ∷ x) (all_lines next ls) ]
  where
    next : LinePlace
    next = place_behind place (told_at place l)

pub front_has : (bytes : List ℕ) → lines (front bytes) ≡ front_lines bytes
unfolding front_lines front_length
front_has bytes = lines_before (front_lines bytes) (lines_after First (lines bytes)) bytes (all_lines First (lines bytes))

pub front_leaves : (bytes : List ℕ) → lines bytes ≡ front_lines bytes ++ lines (drop (front_length bytes) bytes)
unfolding front_lines front_length
front_leaves bytes =
    let all = all_lines First (lines bytes) in
    all ∙ ap (λ (ls : List (List ℕ)). front_lines bytes ++ ls) (sym (lines_behind (front_lines bytes) (lines_after First (lines bytes)) bytes all))

pub front_read : (bytes : List ℕ) (at : Lines) (d : ShownDraft)
    → fault_from 1 blank (front_lines bytes) ≡ fault_from at.number d (lines_to_end d.place (ahead at))
    → front_fault bytes ≡ fault_from at.number d (lines_to_end d.place (ahead at))
unfolding job_fault
front_read bytes at d e = ap (fault_from 1 blank) (front_has bytes) ∙ e

-- the fault of the front and what it tells, where all of its lines are read
pub front_ends : (bytes : List ℕ) (at : Lines) (d : ShownDraft)
    → fault_from 1 blank (front_lines bytes) ≡ fault_from at.number d (lines_to_end d.place (ahead at))
    → lines_to_end d.place (ahead at) ≡ []
    → front_fault bytes ≡ at_line at.number (end_fault d.place)
front_ends bytes at d e over = front_read bytes at d e ∙ ap (fault_from at.number d) over

pub front_tells : (bytes : List ℕ) (at : Lines) (d : ShownDraft) → draft_of blank (front_lines bytes) ≡ draft_of d (lines_to_end d.place (ahead at))
    → lines_to_end d.place (ahead at) ≡ [] → front_job bytes ≡ job_of d
unfolding job
front_tells bytes at d e over = ap (λ (ls : List (List ℕ)). job_of (draft_of blank ls)) (front_has bytes) ∙ ap job_of (e ∙ ap (draft_of d) over)

pub front_is_so_long : (bytes : List ℕ) (n : ℕ) (at : Lines) (place : LinePlace)
    → length (text (front_lines bytes)) ≡ n + length (text (lines_to_end place (ahead at))) → lines_to_end place (ahead at) ≡ []
    → min n (length bytes) ≡ front_length bytes
unfolding front_length text
front_is_so_long bytes n at place e over =
    let f = ap (λ (ls : List (List ℕ)). length (text ls)) over in
    let g : n ≡ length (text (front_lines bytes)) = omega arith in
    ap (λ (x : ℕ). min x (length bytes)) g

-- nothing is read
pub front_begins : (bytes : List ℕ) (d : ShownDraft) (at : Lines) → d ≡ blank → at.rest.now ≡ bytes → front_lines bytes ≡ lines_to_end d.place (ahead at)
unfolding front_lines
front_begins bytes d at blank rest = ap (λ (bs : List ℕ). lines_to_end First (lines bs)) (sym rest)
    ∙ ap (λ (x : ShownDraft). lines_to_end x.place (ahead at)) (sym blank)
