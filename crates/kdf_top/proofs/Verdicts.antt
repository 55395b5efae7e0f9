-- The text of a verdict, part by part, and the verdict on what stands after a job.
use Rattle.std.proofs.Common.{◌≡◌, ℕ, List, [], ◌∷◌, ◌++◌, subst}
use Rattle.kdf_text.specs.Text.{end_line, text}
use Rattle.kdf_text.proofs.Texts.{text_more}
use Rattle.kdf_transfer.specs.Slots.{Slot}
use Rattle.kdf_job.specs.Front.{front_job}
use Rattle.kdf_job.specs.Job.{ShownJob}
use Rattle.kdf_check.specs.Report.{IsCheck}
use Rattle.kdf_check.specs.declared.verdict.Verdict.{Verdict}
use Rattle.kdf_top.specs.Due.{IsVerdictOf, check_line, verdict_line, verdict_lines}
use Rattle.kdf_top.specs.Loaded.{slots_of}
use Rattle.kdf_top.specs.Snapshots.{after_job}

pub verdict_whole : (v : Verdict) (none head mid all : List ℕ) → none ≡ [] → head ≡ none ++ text (check_line ∷ []) → mid ≡ head ++ text (verdict_line v ∷ [])
    → all ≡ mid ++ text (end_line ∷ []) → all ≡ text (verdict_lines v)
verdict_whole v none head mid all is_none first second last =
    let whole = text_more none mid all (check_line ∷ verdict_line v ∷ []) (end_line ∷ [])
    (text_more none head mid (check_line ∷ []) (verdict_line v ∷ []) first second) last in
    subst (λ x. all ≡ x ++ text (verdict_lines v)) is_none whole

-- a report of a job, and the text that tells the verdict on it
abbrev pub IsVerdictOn : (answers : ℕ → ℕ → Type 0) → ShownJob → List ℕ → List ℕ → Type 0
IsVerdictOn answers j report due = (v : Verdict) × IsCheck answers (slots_of j) j.events report v × (due ≡ text (verdict_lines v))

pub verdict_on : (answers : ℕ → ℕ → Type 0) (j : ShownJob) (slots : List Slot) (report due : List ℕ) (v : Verdict) → slots ≡ slots_of j
    → IsCheck answers slots j.events report v → due ≡ text (verdict_lines v) → IsVerdictOn answers j report due
verdict_on answers j slots report due v are check is_due = (v, subst (λ (xs : List Slot). IsCheck answers xs j.events report v) are check, is_due)

pub verdict_of : (answers : ℕ → ℕ → Type 0) (bytes : List ℕ) (j : ShownJob) (rest due : List ℕ) → j ≡ front_job bytes → rest ≡ after_job bytes
    → IsVerdictOn answers j rest due
    → IsVerdictOf answers bytes due
verdict_of answers bytes j rest due is_front is_rest said =
    subst (λ (x : ShownJob). IsVerdictOn answers x (after_job bytes) due) is_front (subst (λ bs. IsVerdictOn answers j bs due) is_rest said)
