-- A run that is saved and resumed is the whole run.
use Rattle.std.proofs.Common.{◌≡◌, ℕ, zero, suc, ◌+◌, ◌<◌, ◌≤◌, ◌^◌, inl, true, false, cond, ltb, List, [], ◌∷◌, ◌++◌, length, map, Option, Some, None, codes}
use Rattle.std.proofs.Common.{refl, sym, ap, ◌∙◌, subst, arith, ⊎_elim, All}
use Rattle.std.proofs.lemmas.Bool.{cases_Bool, ltb-true}
use Rattle.kdf_journal.specs.declared.entry.Entry.{Entry}
use Rattle.kdf_journal.specs.Printed.{IsEntry}
use Rattle.kdf_transfer.specs.Slots.{Slot}
use Rattle.kdf_schedule.specs.declared.event.Event.{Event}
use Rattle.kdf_schedule.specs.Calls.{Call, calls_made}
use Rattle.kdf_job.specs.Front.{front_job}
use Rattle.kdf_job.specs.Job.{ShownJob, ShownSlot}
use Rattle.kdf_job.specs.More.{joined, more_events}
use Rattle.kdf_job.specs.Reading.{job, job_fault}
use Rattle.kdf_job.specs.WellFormed as well
use Rattle.kdf_job.proofs.JoinedJobs.{joined_fault, joined_job}
use Rattle.kdf_theory.specs.Follows.{IsWhole}
use Rattle.kdf_theory.specs.Loading as loading
use Rattle.kdf_theory.specs.Served.{IsJournalFor}
use Rattle.kdf_theory.specs.MachineView.{MachineView}
use Rattle.kdf_theory.proofs.Course.OneJournal.{one_for}
use Rattle.kdf_report.specs.Text.{report_lines}
use Rattle.kdf_report.proofs.FaultlessJobs.{bare, faultless}
use Rattle.kdf_report.proofs.LoadedJobs.{loaded_slots}
use Rattle.kdf_snapshot.proofs.JobSchedules.{schedule_read}
use Rattle.kdf_snapshot.proofs.LegalEntries.{fitting_within}
use Rattle.kdf_top.specs.Answers.{IsCalledBy, IsCalledFor, IsCalledWhere, IsDueAt, IsDueBy, IsDueFor, IsMade, called_by, status_of}
use Rattle.kdf_command.specs.Commands.{job_limit, text_limit}
use Rattle.kdf_top.specs.Deck.{deck_fault}
use Rattle.kdf_top.specs.Due.{IsMachineOf, IsText, Keeps, journal_in, report_of}
use Rattle.kdf_top.specs.Loaded.{images_of, slots_of}
use Rattle.kdf_top.specs.Saved.{GoesOnWith, IsFurther, IsResumed, IsWholeRun}
use Rattle.kdf_top.specs.Snapshots.{IsComparedFor, resumed_job, snapshot_of}
use Rattle.kdf_command.specs.declared.command.Command.TheVariants.{Run, Save, Resume}
use Rattle.kdf_top.specs.declared.status.Status.{Status}
use Rattle.kdf_top.specs.declared.status.Status.TheVariants as status
use Rattle.kdf_top.proofs.Called.{called_done, done_status, journal_kept, one_called}
use Rattle.kdf_command.proofs.NamedCommands.{resume_is, run_is}
use Rattle.kdf_top.proofs.SavedTexts.{any_number, front_again, job_again, of_again, snapshot_again}

-- ---- the entries of a saved journal fit their types

abbrev IsWithin : Slot → Type 0
IsWithin s = (s.p < 4) × (s.size ≤ 8192)

loaded_within : (slots : List ShownSlot) (images : List (List ℕ)) → All well.IsSlot (map bare slots) → All IsWithin (loading.slots_of slots images)
loaded_within [] images each = λ k d lt. absurd (omega arith)
loaded_within (s ∷ slots) [] each = λ k d lt. absurd (omega arith)
loaded_within (s ∷ slots) (words ∷ images) each = both (loading.loaded_slot (loading.load_of s words)) (loading.slots_of slots images)
    (let this = each 0 (bare s) (omega arith) in (this.number, this.most)) (loaded_within slots images (λ k d lt. each (suc k) d (omega arith)))
  where
    both : (x : Slot) (xs : List Slot) → IsWithin x → All IsWithin xs → All IsWithin (x ∷ xs)
    both x xs this others zero d lt = this
    both x xs this others (suc k) d lt = others k d (omega arith)

module _ (answers : ℕ → ℕ → Type 0) (are_words : (n a : ℕ) → n < 2 ^ 48 → answers n a → a < 2 ^ 48) where
  fitting_job : (bytes : List ℕ) → job_fault bytes ≡ None → (J : List Entry) → IsJournalFor answers (slots_of (job bytes)) (job bytes).events J → All IsEntry J
  fitting_job bytes free J j =
      fitting_within answers are_words (slots_of (job bytes)) (loaded_slots bytes free)
      (loaded_within (job bytes).slots (images_of (job bytes).slots) (faultless bytes free).each) (job bytes).events (schedule_read bytes free) J j

-- ---- jobs with the same slots and calls

pub same_report : (j k : ShownJob) (J : List Entry) → j.slots ≡ k.slots → report_of j J ≡ report_of k J
unfolding report_lines
same_report j k J same = ap (λ (slots : List ShownSlot). report_of (record { slots = slots; events = []; pool = [] }) J) same

same_loaded : (j k : ShownJob) → j.slots ≡ k.slots → slots_of j ≡ slots_of k
same_loaded j k same = ap (λ (slots : List ShownSlot). loading.slots_of slots (images_of slots)) same

same_journal : (answers : ℕ → ℕ → Type 0) (slots : List Slot) (es fs : List Event) (J : List Entry) → calls_made es ≡ calls_made fs
    → IsJournalFor answers slots es J → IsJournalFor answers slots fs J
same_journal answers slots es fs J same j = record { legal = j.legal; truly = j.truly; whole = subst (λ (cs : List Call). IsWhole slots cs J) same j.whole }

same_machine : (answers : ℕ → ℕ → Type 0) (j k : ShownJob) (m : MachineView) → j.slots ≡ k.slots → calls_made j.events ≡ calls_made k.events
    → IsMachineOf answers j m
    → IsMachineOf answers k m
same_machine answers j k m slots calls is = record {
  slots = is.slots ∙ same_loaded j k slots;
  journal = same_journal answers m.slots j.events k.events m.journal calls is.journal;
  seen = is.seen;
  over = is.over;
}

-- a machine of the one is kept where that of the other is
run_kept : (answers : ℕ → ℕ → Type 0) (whole text : List ℕ) (kept : Option MachineView) → (job whole).slots ≡ (resumed_job text).slots
    → calls_made (job whole).events ≡ calls_made (resumed_job text).events
    → Keeps answers Run whole kept → Keeps answers Resume text kept
run_kept answers whole text None slots calls keeps = absurd cc
run_kept answers whole text (Some m) slots calls keeps = (refl, same_machine answers (job whole) (resumed_job text) m slots calls keeps.1)

resume_kept : (answers : ℕ → ℕ → Type 0) (whole text : List ℕ) (kept : Option MachineView) → (job whole).slots ≡ (resumed_job text).slots
    → calls_made (job whole).events ≡ calls_made (resumed_job text).events
    → Keeps answers Resume text kept → Keeps answers Run whole kept
resume_kept answers whole text None slots calls keeps = absurd cc
resume_kept answers whole text (Some m) slots calls keeps = (refl, same_machine answers (resumed_job text) (job whole) m (sym slots) (sym calls) keeps.1)

short : (limit n : ℕ) → n ≤ limit → ltb limit n ≡ false
short limit n within =
    ⊎_elim (λ (is : ltb limit n ≡ true). absurd (omega (arith, ltb-true limit n is))) (λ (isnt : ltb limit n ≡ false). isnt) (cases_Bool (ltb limit n))

-- ---- what is saved and goes on

module _ (answers : ℕ → ℕ → Type 0) (are_words : (n a : ℕ) → n < 2 ^ 48 → answers n a → a < 2 ^ 48) (one : (n a b : ℕ) → n < 2 ^ 48 → answers n a → answers n b
    → a ≡ b)
    (bytes saved more : List ℕ) (kept : Option MachineView) (made : IsMade answers Save bytes saved kept) (goes_on : IsFurther (job bytes) more) where
  abbrev J : List Entry
  J = journal_in kept

  its_journal : IsJournalFor answers (slots_of (job bytes)) (job bytes).events J
  its_journal = journal_kept answers Save bytes kept made.keeps

  entries : All IsEntry J
  entries = fitting_job answers are_words bytes made.faultless J its_journal

  abbrev again : List ℕ
  again = snapshot_of bytes J ++ more

  same_text : again ≡ saved ++ more
  same_text = ap (λ bs. bs ++ more) (sym made.text_is)

  told_again : resumed_job again ≡ joined (job bytes) (more_events more)
  told_again = job_again bytes more J made.faultless entries goes_on

  front_told : front_job again ≡ job bytes
  front_told = front_again bytes more J made.faultless entries goes_on

  assembles_again : deck_fault (resumed_job again).slots ≡ None
  assembles_again = ap (λ (j : ShownJob). deck_fault j.slots) told_again ∙ made.assembles

  trusted_again : IsComparedFor answers again status.Done
  trusted_again = (
    J,
    subst (λ (j : ShownJob). IsJournalFor answers (slots_of j) j.events J) (sym front_told) its_journal,
    inl (refl, of_again bytes more J made.faultless entries goes_on),
  )

  resumed_again : IsResumed answers (joined (job bytes) (more_events more)) again
  resumed_again =
      let clear = snapshot_again bytes more J made.faultless entries goes_on in
      let done = called_done answers Resume again clear assembles_again trusted_again in
      record {
        faultless = clear;
        told = told_again;
        assembles = assembles_again;
        trusted = trusted_again;
        done = done;
        only = λ called is. one_called answers one Resume again (status_of Resume again) called status.Done is done;
      }

  pub resumed : IsResumed answers (joined (job bytes) (more_events more)) (saved ++ more)
  resumed = subst (IsResumed answers (joined (job bytes) (more_events more))) same_text resumed_again

  module _ (within : length (saved ++ more) ≤ text_limit) where
    called_as : called_by (Some Resume) (saved ++ more) ≡ status_of Resume (saved ++ more)
    called_as = ap (λ b. cond b status.Large (status_of Resume (saved ++ more))) (short text_limit (length (saved ++ more)) within)

    done_by : IsCalledBy answers (Some Resume) (saved ++ more) status.Done
    done_by = subst (λ found. IsCalledWhere answers Resume (saved ++ more) found status.Done) (sym called_as) resumed.done

    pub done_for : IsCalledFor answers (codes "resume" ∷ []) (saved ++ more) status.Done
    done_for = subst (λ c. IsCalledBy answers c (saved ++ more) status.Done) (sym resume_is.none) done_by

    pub only_for : (called : Status) → IsCalledFor answers (codes "resume" ∷ []) (saved ++ more) called → called ≡ status.Done
    only_for called is =
        resumed.only called
        (subst (λ found. IsCalledWhere answers Resume (saved ++ more) found called) called_as
        (subst (λ c. IsCalledBy answers c (saved ++ more) called) resume_is.none is))

  module _ (whole : List ℕ) (is : IsWholeRun (job bytes) more whole) where
    same_slots : (job whole).slots ≡ (resumed_job (saved ++ more)).slots
    same_slots = is.slots ∙ ap (λ (j : ShownJob). j.slots) (sym resumed.told)

    same_calls : calls_made (job whole).events ≡ calls_made (resumed_job (saved ++ more)).events
    same_calls = is.calls ∙ ap (λ (j : ShownJob). calls_made j.events) (sym resumed.told)

    whole_assembles : deck_fault (job whole).slots ≡ None
    whole_assembles = ap deck_fault is.slots ∙ made.assembles

    pub from_run : (report : List ℕ) (machine : Option MachineView) → IsMade answers Run whole report machine
        → IsMade answers Resume (saved ++ more) report machine
    from_run report machine run = record {
      faultless = resumed.faultless;
      assembles = resumed.assembles;
      trusted = resumed.trusted;
      keeps = run_kept answers whole (saved ++ more) machine same_slots same_calls run.keeps;
      text_is = run.text_is ∙ same_report (job whole) (resumed_job (saved ++ more)) (journal_in machine) same_slots;
    }

    pub from_resume : (report : List ℕ) (machine : Option MachineView) → IsMade answers Resume (saved ++ more) report machine
        → IsMade answers Run whole report machine
    from_resume report machine resume = record {
      faultless = is.faultless;
      assembles = whole_assembles;
      trusted = tt {0};
      keeps = resume_kept answers whole (saved ++ more) machine same_slots same_calls resume.keeps;
      text_is = resume.text_is ∙ same_report (resumed_job (saved ++ more)) (job whole) (journal_in machine) (sym same_slots);
    }

    pub one_report : (report other : List ℕ) (machine second : Option MachineView) → IsMade answers Run whole report machine
        → IsMade answers Resume (saved ++ more) other second → other ≡ report
    one_report report other machine second run resume =
        let also = from_resume other second resume in
        let same : journal_in second ≡ journal_in machine =
        one_for answers (slots_of (job whole)) one (job whole).events (journal_in second) (journal_in machine)
        (journal_kept answers Run whole second also.keeps) (journal_kept answers Run whole machine run.keeps) in
        also.text_is ∙ ap (report_of (job whole)) same ∙ sym run.text_is

    module _ (within : length (saved ++ more) ≤ text_limit) (few : length whole ≤ job_limit) where
      run_called : called_by (Some Run) whole ≡ status.Done
      run_called =
          ap (λ b. cond b status.Large (status_of Run whole)) (short job_limit (length whole) few)
          ∙ done_status Run whole is.faultless whole_assembles

      due_text : (due : List ℕ) → IsText answers Run whole due → IsText answers Resume (saved ++ more) due
      due_text due text = (
        text.0,
        subst (λ (slots : List Slot). IsJournalFor answers slots (resumed_job (saved ++ more)).events text.0)
            (same_loaded (job whole) (resumed_job (saved ++ more)) same_slots)
            (same_journal answers (slots_of (job whole)) (job whole).events (resumed_job (saved ++ more)).events text.0 same_calls text.1),
        text.2 ∙ same_report (job whole) (resumed_job (saved ++ more)) text.0 same_slots,
      )

      due_by : (due : List ℕ) → IsDueBy answers (Some Run) whole due → IsDueBy answers (Some Resume) (saved ++ more) due
      due_by due x =
          let done : x.0 ≡ status.Done = x.1 ∙ run_called in
          (status.Done, done_by within, due_text due (subst (λ called. IsDueAt answers called (Some Run) whole due) done x.2))

      pub due_again : (due : List ℕ) → IsDueFor answers (codes "run" ∷ []) whole due → IsDueFor answers (codes "resume" ∷ []) (saved ++ more) due
      due_again due x =
          subst (λ c. IsDueBy answers c (saved ++ more) due) (sym resume_is.none)
          (due_by due (subst (λ c. IsDueBy answers c whole due) run_is.none x))

-- ---- further lines in place of the last line

pub further_of : (bytes more whole : List ℕ) → job_fault bytes ≡ None → GoesOnWith bytes more whole → job_fault whole ≡ None → IsFurther (job bytes) more
further_of bytes more whole free on clear =
    any_number (length on.0 + 1) 1 (job bytes).events more (sym (joined_fault bytes whole more on.0 on.1 free on.2) ∙ clear)

pub whole_of : (bytes more whole : List ℕ) → job_fault bytes ≡ None → GoesOnWith bytes more whole → IsFurther (job bytes) more
    → IsWholeRun (job bytes) more whole
whole_of bytes more whole free on goes_on =
    let clear : job_fault whole ≡ None = joined_fault bytes whole more on.0 on.1 free on.2 ∙ any_number 1 (length on.0 + 1) (job bytes).events more goes_on in
    let told : job whole ≡ joined (job bytes) (more_events more) = joined_job bytes whole more on.0 on.1 free on.2 clear in
    record { faultless = clear; slots = ap (λ (j : ShownJob). j.slots) told; calls = ap (λ (j : ShownJob). calls_made j.events) told }
