-- One line more of a job.
use Rattle.std.proofs.Common.{◌≡◌, ℕ, ◌+◌, ◌<◌, ◌≤◌, true, false, cond, eqb, List, [], ◌∷◌, length, drop, Option, None, Result, Ok, Err, refl, sym, ap, subst}
use Rattle.std.proofs.Common.{◌∙◌, arith}
use Rattle.std.proofs.lemmas.Bool.Decides.{nat_tests}
use Rattle.kdf_text.specs.declared.lines.Lines.{Lines}
use Rattle.kdf_text.specs.Ahead.{ahead}
use Rattle.kdf_text.specs.Lines.{in_first, line, lines}
use Rattle.kdf_text.proofs.Cutting.{some-lines, no-lines}
use Rattle.kdf_job.specs.declared.draft.Draft.{Draft}
use Rattle.kdf_job.specs.declared.fault.JobError.{JobError}
use Rattle.kdf_job.specs.declared.fault.JobError.TheVariants.{Fault, Memory}
use Rattle.kdf_job.specs.declared.fault.JobFault.{JobFault}
use Rattle.kdf_job.specs.declared.line_error.LineError.{LineError}
use Rattle.kdf_job.specs.declared.line_error.LineError.TheVariants as line_error
use Rattle.kdf_job.specs.declared.job.TheConstants.{TEXT_LIMIT}
use Rattle.kdf_job.specs.Draft.{ShownDraft, blank, job_of}
use Rattle.kdf_job.specs.Forms.{told_at}
use Rattle.kdf_job.specs.Lengths.{weight}
use Rattle.kdf_job.specs.Passes.{Passes, Reads, next_fault}
use Rattle.kdf_job.specs.Reading.{Says, at_line, behind_line, draft_of, end_fault, fault_from, job, job_fault, or_same, read_line, with_told}
use Rattle.kdf_job.specs.Shows.{shown_draft}
use Rattle.kdf_job.specs.Taking.{IsRefused, Taken, at_number}

pub some_ahead : (text : List ℕ) → 0 < length text → 0 < length (lines text)
some_ahead text some = some-lines text (grind (arith, nat_tests))

-- a line is no longer than its text
short_line : (text : List ℕ) → length (line (lines text) 1) ≤ length text
unfolding lines
short_line [] = omega arith
short_line (b ∷ text) =
    elim (eqb b 10) as (λ (x : _). length (line (cond x ([] ∷ lines text) (in_first b (lines text))) 1) ≤ length (b ∷ text))
    [ true ↦ omega arith | false ↦ longer (lines text) (short_line text) ]
  where
    longer : (ls : List (List ℕ)) → length (line ls 1) ≤ length text → length (line (in_first b ls) 1) ≤ length (b ∷ text)
    longer [] h = omega arith
    longer (l ∷ ls) h = omega arith

pub short_ahead : (at : Lines) → length (line (ahead at) 1) ≤ length at.rest.now
short_ahead at = short_line at.rest.now

-- a line that is read, whatever follows
pub fault_on : (n n' : ℕ) (d e : ShownDraft) (l : List ℕ) (ls : List (List ℕ)) → n' ≡ n + 1 → read_line d l ≡ Ok e
    → fault_from n d (l ∷ ls) ≡ fault_from n' e ls
fault_on n n' d e l ls next read = ap (λ (r : Result ShownDraft JobFault). behind_line n r (λ x. fault_from (n + 1) x ls)) read ∙ rw next refl

pub told_on : (d e : ShownDraft) (l : List ℕ) (ls : List (List ℕ)) → read_line d l ≡ Ok e → draft_of d (l ∷ ls) ≡ draft_of e ls
told_on d e l ls read = ap (λ (r : Result ShownDraft JobFault). draft_of (or_same d r) ls) read

-- a line that has a fault
pub says_first : (e : JobError) (n : ℕ) (r : Result ShownDraft JobFault) (follows : ShownDraft → Option (JobFault × ℕ)) → Says e (behind_line n r (λ d. None))
    → Says e (behind_line n r follows)
says_first (Fault fault m) n (Err found) follows h = h
says_first (Fault fault m) n (Ok d) follows h = absurd cc
says_first Memory n r follows h = tt {0}

first_ahead : (ls : List (List ℕ)) → 0 < length ls → ls ≡ line ls 1 ∷ drop 1 ls
first_ahead [] some = absurd (omega arith)
first_ahead (l ∷ ls) some = refl

pub next_ahead : (at : Lines) → 0 < length at.rest.now → ahead at ≡ line (ahead at) 1 ∷ drop 1 (ahead at)
next_ahead at some = first_ahead (ahead at) (some_ahead at.rest.now some)

pub reads : (old new : Lines) (d e : ShownDraft) (text : List ℕ) → text ≡ line (ahead old) 1 → 0 < length old.rest.now → ahead new ≡ drop 1 (ahead old)
    → (0 < length (ahead old) → new.number ≡ old.number + 1) → with_told d (told_at d.place text) ≡ Ok e → Reads old d new e
unfolding read_line
reads old new d e text here some rest next is = record {
  here = next_ahead old some ∙ ap (λ (ls : List (List ℕ)). line (ahead old) 1 ∷ ls) (sym rest);
  next = next (some_ahead old.rest.now some);
  read = subst (λ (t : List ℕ). with_told d (told_at d.place t) ≡ Ok e) here is;
}

pub passes : (old new : Lines) (before after : Draft) (text : List ℕ) → text ≡ line (ahead old) 1 → 0 < length old.rest.now → ahead new ≡ drop 1 (ahead old)
    → (0 < length (ahead old) → new.number ≡ old.number + 1) → (0 < length new.rest.now → length text + 1 + length new.rest.now ≤ length old.rest.now)
    → weight (shown_draft before) + length old.rest.now ≤ TEXT_LIMIT → Taken (told_at before.place text) (length text + 1) before after
    → Passes old before new after
passes old new before after text here some rest next within fits h = record {
  reads = reads old new (shown_draft before) (shown_draft after) text here some rest next h.is;
  sound = h.sound;
  fits = λ more. let w = within more in let g = h.grown in omega arith;
}

pub stops : (old : Lines) (d : ShownDraft) (text : List ℕ) (error : LineError) → text ≡ line (ahead old) 1 → IsRefused d (told_at d.place text) error
    → Says (at_number old.number error) (next_fault old d)
unfolding read_line
stops old d text (line_error.Fault fault) here h =
    ap (λ (r : Result ShownDraft JobFault). behind_line old.number r (λ e. None)) (subst (λ (t : List ℕ). with_told d (told_at d.place t) ≡ Err fault) here h)
stops old d text line_error.Memory here h = tt {0}

-- the lines so far and those ahead are all
pub counted : (old new : Lines) → 0 < length old.rest.now → ahead new ≡ drop 1 (ahead old) → (0 < length (ahead old) → new.number ≡ old.number + 1)
    → old.number + length (ahead old) ≡ new.number + length (ahead new)
counted old new some rest next =
    let ls = some_ahead old.rest.now some in
    let n = next ls in
    let e = ap (λ (ls : List (List ℕ)). length ls) (next_ahead old some) in
    let f = ap (λ (ls : List (List ℕ)). length ls) rest in
    omega arith

pub none_ahead : (at : Lines) → eqb (length at.rest.now) 0 ≡ true → length (ahead at) ≡ 0
none_ahead at none = ap (λ (ls : List (List ℕ)). length ls) (no-lines at.rest.now none)

-- what comes of the lines from here is what comes of all
pub passed_fault : (old new : Lines) (d e : ShownDraft) → Reads old d new e → fault_from old.number d (ahead old) ≡ fault_from new.number e (ahead new)
passed_fault old new d e p = ap (fault_from old.number d) p.here ∙ fault_on old.number new.number d e (line (ahead old) 1) (ahead new) p.next p.read

pub passed_job : (old new : Lines) (d e : ShownDraft) → Reads old d new e → draft_of d (ahead old) ≡ draft_of e (ahead new)
passed_job old new d e p = ap (draft_of d) p.here ∙ told_on d e (line (ahead old) 1) (ahead new) p.read

pub stopped : (at : Lines) (d : ShownDraft) (e : JobError) → 0 < length at.rest.now → Says e (next_fault at d) → Says e (fault_from at.number d (ahead at))
stopped at d e some h =
    let rest = drop 1 (ahead at) in
    subst (λ (ls : List (List ℕ)). Says e (fault_from at.number d ls)) (sym (next_ahead at some))
    (says_first e at.number (read_line d (line (ahead at) 1)) (λ x. fault_from (at.number + 1) x rest) h)

-- the lines of a job, and its end
pub job_read : (bytes : List ℕ) (at : Lines) (d : ShownDraft) → fault_from 1 blank (lines bytes) ≡ fault_from at.number d (ahead at)
    → job_fault bytes ≡ fault_from at.number d (ahead at)
unfolding job_fault
job_read bytes at d e = e

pub fault_ends : (bytes : List ℕ) (at : Lines) (d : ShownDraft) → fault_from 1 blank (lines bytes) ≡ fault_from at.number d (ahead at)
    → eqb (length at.rest.now) 0 ≡ true
    → job_fault bytes ≡ at_line at.number (end_fault d.place)
fault_ends bytes at d e none = job_read bytes at d e ∙ ap (fault_from at.number d) (no-lines at.rest.now none)

pub job_ends : (bytes : List ℕ) (at : Lines) (d : ShownDraft) → draft_of blank (lines bytes) ≡ draft_of d (ahead at) → eqb (length at.rest.now) 0 ≡ true
    → job bytes ≡ job_of d
unfolding job
job_ends bytes at d e none = ap job_of (e ∙ ap (draft_of d) (no-lines at.rest.now none))
