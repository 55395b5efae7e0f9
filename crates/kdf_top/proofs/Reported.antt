-- What is written of a machine that was loaded from a job and shows what is seen of the lone runs is what is due of the job.
use Rattle.std.proofs.Common.{◌≡◌, ℕ, ◌*◌, List, [], ◌∷◌, ◌++◌, length, refl, sym, ◌∙◌, ap, ap₂, subst, All}
use Rattle.kdf_transfer.specs.Slots.{Slot}
use Rattle.kdf_job.specs.Job.{ShownJob}
use Rattle.kdf_job.specs.Reading.{job}
use Rattle.kdf_job.specs.WellFormed.{AreSlots}
use Rattle.kdf_theory.specs.Served.{IsJournalFor}
use Rattle.kdf_theory.specs.Loading.{HaveImages}
use Rattle.kdf_theory.specs.MachineView.{MachineView, ShowsSeen, state_at}
use Rattle.kdf_theory.specs.Slots as director
use Rattle.kdf_theory.specs.ByJournal.{seen_of}
use Rattle.kdf_theory.proofs.JobsLoaded.{are_loads, are_slots}
use Rattle.kdf_theory.proofs.Course.FlightsOnCourse.{legal-course}
use Rattle.kdf_report.specs.MadeFrom.{HasProgram}
use Rattle.kdf_report.specs.Text.{journal_lines, report_text}
use Rattle.kdf_report.proofs.SeenPrograms.{has_programs, report_seen}
use Rattle.kdf_top.specs.Due.{IsMachineOf, report_of, stops_text, summary_of, watched_of}
use Rattle.kdf_top.specs.Snapshots.{ended, sealed_text, sealed_with, snapshot_of, snapshot_with}
use Rattle.kdf_top.specs.Loaded.{images_of, slots_of}
use Rattle.kdf_report.specs.Summary.{summary_text}
use Rattle.kdf_report.proofs.SummaryTexts.{summary_seen}
use Rattle.kdf_snapshot.specs.Snapshot.{journal_line, seal_line}
use Rattle.kdf_text.specs.Text.{text}
use Rattle.kdf_watch.specs.Stops.{stops_of}
use Rattle.kdf_top.proofs.Sealing.{sealed_seen}

module _ (j : ShownJob) (m : MachineView) (are : AreSlots j.slots) (fits : HaveImages j.slots (images_of j.slots)) (loaded : m.slots ≡ slots_of j)
    (seen : ShowsSeen m) where
  -- what is loaded are slots
  can_run : director.AreSlots m.slots
  can_run = subst director.AreSlots (sym loaded) (are_slots _ (are_loads j.slots (images_of j.slots) are fits))

  pub programs : All (HasProgram m) j.slots
  programs = has_programs m j.slots (images_of j.slots) are fits loaded seen

  module _ (k : ShownJob) (is_job : j ≡ k) where
    pub machine_of : (answers : ℕ → ℕ → Type 0) → IsJournalFor answers m.slots j.events m.journal → IsMachineOf answers k m
    machine_of answers journal =
        record {
          slots = loaded ∙ ap slots_of is_job;
          journal = subst (λ x. IsJournalFor answers m.slots x.events m.journal) is_job journal;
          seen = seen;
          over = λ p over d. (legal-course m.slots m.journal can_run journal.legal p).over over d;
        }

    pub report_own : (t : List ℕ) → t ≡ report_text j m.journal (state_at m) → t ≡ report_of k m.journal
    report_own t e =
        let of_slots : t ≡ report_text j m.journal (seen_of (slots_of j) m.journal) =
        e ∙ report_seen m j seen programs ∙ ap (λ (slots : List Slot). report_text j m.journal (seen_of slots m.journal)) loaded in
        subst (λ (x : ShownJob). t ≡ report_text x m.journal (seen_of (slots_of x) m.journal)) is_job of_slots

    -- the stops of a watch, and the report
    pub watched_own : (slot address : ℕ) (stops t : List ℕ) → stops ≡ stops_of m.slots m.journal slot (6 * address)
        → t ≡ stops_text slot address stops ++ report_text j m.journal (state_at m) → t ≡ watched_of slot address k m.journal
    watched_own slot address stops t are e =
        let of_slots : stops ≡ stops_of (slots_of k) m.journal slot (6 * address) =
        are ∙ ap (λ (slots : List Slot). stops_of slots m.journal slot (6 * address)) (loaded ∙ ap slots_of is_job) in
        e ∙ ap₂ (λ (xs ys : List ℕ). xs ++ ys) (ap (stops_text slot address) of_slots) (report_own (report_text j m.journal (state_at m)) refl)

    -- what is sealed
    pub sealed_own : sealed_with j (state_at m) ≡ sealed_text k m.journal
    sealed_own =
        sealed_seen m j seen programs ∙ ap (λ (slots : List Slot). sealed_with j (seen_of slots m.journal)) loaded
        ∙ ap (λ (x : ShownJob). sealed_text x m.journal) is_job

  module _ (bytes : List ℕ) (is_job : j ≡ job bytes) where
    pub summary_own : (n len : ℕ) (t : List ℕ) → len ≡ length bytes → t ≡ summary_text n len j m.journal (state_at m) → t ≡ summary_of n bytes m.journal
    summary_own n len t is_length e =
        let of_slots : t ≡ summary_text n (length bytes) j m.journal (seen_of (slots_of j) m.journal) =
        e ∙ summary_seen n len m j seen programs ∙ ap (λ (slots : List Slot). summary_text n len j m.journal (seen_of slots m.journal)) loaded
        ∙ ap (λ (x : ℕ). summary_text n x j m.journal (seen_of (slots_of j) m.journal)) is_length in
        subst (λ (x : ShownJob). t ≡ summary_text n (length bytes) x m.journal (seen_of (slots_of x) m.journal)) is_job of_slots

    pub snapshot_own : (t : List ℕ) → t ≡ snapshot_with bytes j m.journal (state_at m) → t ≡ snapshot_of bytes m.journal
    snapshot_own t e =
        e ∙ ap (λ (sealed : List ℕ). ended bytes ++ text (journal_line ∷ journal_lines m.journal ++ seal_line ∷ []) ++ sealed) (sealed_own (job bytes) is_job)
