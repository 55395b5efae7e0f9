-- The text of a summary, part by part, and that of what is seen.
use Rattle.std.proofs.Common.{◌≡◌, ℕ, List, [], ◌∷◌, ◌++◌, map, All, subst, suc, arith, refl, ap}
use Rattle.kdf_journal.specs.declared.entry.Entry.{Entry}
use Rattle.kdf_processor.specs.State.{State}
use Rattle.kdf_job.specs.Job.{ShownJob, ShownSlot}
use Rattle.kdf_theory.specs.MachineView.{MachineView, ShowsSeen, state_at}
use Rattle.kdf_theory.specs.ByJournal.{seen_of}
use Rattle.kdf_text.specs.Text.{text}
use Rattle.kdf_text.proofs.Texts.{text_more}
use Rattle.kdf_report.specs.MadeFrom.{HasProgram}
use Rattle.kdf_report.specs.Summary.{entries_line, job_line, make_line, program_line, summary_lines, summary_text}
use Rattle.kdf_report.specs.Text.{end_line}
use Rattle.kdf_report.proofs.SeenPrograms.{state_at-seen}

pub summary_whole : (n bytes : ℕ) (job : ShownJob) (J : List Entry) (states : ℕ → State) (slots : List ShownSlot) (entries : List Entry)
    (none head lines all : List ℕ)
    → none ≡ [] → entries ≡ J → slots ≡ job.slots
    → head ≡ none ++ text (make_line n ∷ job_line bytes ∷ entries_line entries ∷ [])
    → lines ≡ head ++ text (map (λ (slot : ShownSlot). program_line slot.p (states slot.p)) slots)
    → all ≡ lines ++ text (end_line ∷ [])
    → all ≡ summary_text n bytes job J states
unfolding summary_lines
summary_whole n bytes job J states slots entries none head lines all is_none is_J is_slots first second last =
    let front = subst (λ x. head ≡ none ++ text (make_line n ∷ job_line bytes ∷ entries_line x ∷ [])) is_J first in
    let each = subst (λ x. lines ≡ head ++ text (map (λ (slot : ShownSlot). program_line slot.p (states slot.p)) x)) is_slots second in
    let whole = text_more _ _ _ _ _ (text_more _ _ _ _ _ front each) last in
    subst (λ x. all ≡ x ++ summary_text n bytes job J states) is_none whole

lines_seen : (m : MachineView) → ShowsSeen m → (slots : List ShownSlot) → All (HasProgram m) slots
    → map (λ (slot : ShownSlot). program_line slot.p (state_at m slot.p)) slots
    ≡ map (λ (slot : ShownSlot). program_line slot.p (seen_of m.slots m.journal slot.p)) slots
lines_seen m shows [] has = refl
lines_seen m shows (slot ∷ slots) has =
    let first : program_line slot.p (state_at m slot.p) ≡ program_line slot.p (seen_of m.slots m.journal slot.p) =
    ap (program_line slot.p) (state_at-seen m slot.p _ shows (has 0 slot (omega arith))) in
    let others = lines_seen m shows slots (λ k d h. has (suc k) d (omega arith)) in
    cc

pub summary_seen : (n bytes : ℕ) (m : MachineView) (job : ShownJob) → ShowsSeen m → All (HasProgram m) job.slots
    → summary_text n bytes job m.journal (state_at m) ≡ summary_text n bytes job m.journal (seen_of m.slots m.journal)
unfolding summary_lines
summary_seen n bytes m job shows has =
    ap (λ xs. text ((make_line n ∷ job_line bytes ∷ entries_line m.journal ∷ []) ++ xs ++ end_line ∷ [])) (lines_seen m shows job.slots has)
