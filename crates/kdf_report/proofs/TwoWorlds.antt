-- A program of one slot in two jobs.
use Rattle.std.proofs.Common.{◌≡◌, ℕ, Bool, true, false, cond, List, [], ◌∷◌, Option, Some, None, refl, sym, ◌∙◌, ap, ap₂, ◌++◌, append_assoc, map}
use Rattle.std.specs.Prelude.{nat_eq}
use Rattle.std.specs.List.{flat_map}
use Rattle.std.specs.Option.{option_map}
use Rattle.std.proofs.lemmas.Bool.{eqb-true}
use Rattle.kdf_journal.specs.declared.entry.Entry.{Entry}
use Rattle.kdf_journal.specs.Counts.{answers}
use Rattle.kdf_processor.specs.Lone.{is_live}
use Rattle.kdf_transfer.specs.Slots.{Slot}
use Rattle.kdf_processor.specs.State.{State}
use Rattle.kdf_place.specs.Assembled.{image_words}
use Rattle.kdf_job.specs.Job.{ShownJob, ShownSlot}
use Rattle.kdf_job.specs.Reading.{job, job_fault}
use Rattle.kdf_job.specs.SlotLines.{pool_lines, slot_lines}
use Rattle.kdf_job.proofs.SlotReadings.{slots_told_alike}
use Rattle.kdf_theory.specs.Legal.{IsLegal}
use Rattle.kdf_theory.specs.Loading as loading
use Rattle.kdf_theory.specs.Loading.{load_of}
use Rattle.kdf_theory.specs.Slots.{AreSlots, slot_of, start, start_of}
use Rattle.kdf_theory.specs.ByJournal.{own, seen_of}
use Rattle.kdf_theory.proofs.Course.FlightsOnCourse.{legal-course}
use Rattle.kdf_theory.proofs.Course.SeenJournals.{two-ends}
use Rattle.kdf_report.specs.Loaded.{images_of, slot_numbered, slots_of}
use Rattle.kdf_report.specs.Text.{end_line, entry_line, head_line, report_lines, section}
use Rattle.kdf_report.specs.Worlds.{section_of}
use Rattle.kdf_report.proofs.LoadedJobs.{loaded_slots}

-- a slot with the image of its deck
abbrev loaded : ShownSlot → Slot
loaded s = loading.loaded_slot (load_of s (image_words s.size s.deck))

found_first : (is : Bool) (s : ShownSlot) (o : Option ShownSlot) (other : Option Slot) → other ≡ option_map loaded o
    → cond is (Some (loaded s)) other ≡ option_map loaded (cond is (Some s) o)
found_first true s o other e = refl
found_first false s o other e = e

-- what is loaded of the slot of a number
found_loaded : (slots : List ShownSlot) (p : ℕ) → slot_of (loading.slots_of slots (images_of slots)) p ≡ option_map loaded (slot_numbered slots p)
found_loaded [] p = refl
found_loaded (s ∷ slots) p = found_first (nat_eq s.p p) s _ _ (found_loaded slots p)

-- so a program begins alike where its slot is the same
begins_alike : (first second : ShownJob) (p : ℕ) → slot_numbered first.slots p ≡ slot_numbered second.slots p
    → start (slots_of first) p ≡ start (slots_of second) p
begins_alike first second p same =
    ap start_of (found_loaded first.slots p ∙ ap (λ (o : Option ShownSlot). option_map loaded o) same ∙ sym (found_loaded second.slots p))

-- a program that is live in neither of two journals, and was answered alike
module _ (first second : ShownJob) (J K : List Entry) (p : ℕ) (are : AreSlots (slots_of first)) (legal : IsLegal (slots_of first) J)
    (are' : AreSlots (slots_of second)) (legal' : IsLegal (slots_of second) K)
    (same : slot_numbered first.slots p ≡ slot_numbered second.slots p) (told : answers p J ≡ answers p K)
    (over : is_live (own (slots_of first) J p).registers.state ≡ false) (over' : is_live (own (slots_of second) K p).registers.state ≡ false) where
  seen_alike : seen_of (slots_of first) J p ≡ seen_of (slots_of second) K p
  seen_alike =
      two-ends (slots_of first) (slots_of second) J K p ((legal-course (slots_of first) J are legal p).over over)
      ((legal-course (slots_of second) K are' legal' p).over over')
      (begins_alike first second p same) told over over'

  pub same_section : section_of p first (seen_of (slots_of first) J) ≡ section_of p second (seen_of (slots_of second) K)
  same_section = ap₂ (λ (o : Option ShownSlot) (s : State). option_map (λ (slot : ShownSlot). section slot s) o) same seen_alike

pub same_slots : (first second : List ℕ) (J K : List Entry) (p : ℕ) → job_fault first ≡ None → job_fault second ≡ None
    → slot_numbered (job first).slots p ≡ slot_numbered (job second).slots p
    → IsLegal (slots_of (job first)) J → IsLegal (slots_of (job second)) K → answers p J ≡ answers p K
    → is_live (own (slots_of (job first)) J p).registers.state ≡ false → is_live (own (slots_of (job second)) K p).registers.state ≡ false
    → section_of p (job first) (seen_of (slots_of (job first)) J) ≡ section_of p (job second) (seen_of (slots_of (job second)) K)
same_slots first second J K p free free' same legal legal' told over over' =
    same_section (job first) (job second) J K p (loaded_slots first free) legal (loaded_slots second free') legal' same told over over'

pub same_lines : (first second : List ℕ) (J K : List Entry) (p : ℕ) → job_fault first ≡ None → job_fault second ≡ None
    → slot_lines p first ≡ slot_lines p second → pool_lines first ≡ pool_lines second
    → IsLegal (slots_of (job first)) J → IsLegal (slots_of (job second)) K → answers p J ≡ answers p K
    → is_live (own (slots_of (job first)) J p).registers.state ≡ false → is_live (own (slots_of (job second)) K p).registers.state ≡ false
    → section_of p (job first) (seen_of (slots_of (job first)) J) ≡ section_of p (job second) (seen_of (slots_of (job second)) K)
same_lines first second J K p free free' same common legal legal' told over over' =
    same_slots first second J K p free free' (slots_told_alike first second p free free' same common) legal legal' told over over'

-- ---- the section of a program in the report of its job

-- what stands before it and after it
abbrev Around : List (List ℕ) → List (List ℕ) → Type 0
Around all lines = (front : List (List ℕ)) × (rest : List (List ℕ)) × (all ≡ front ++ lines ++ rest)

more_before : (all lines before : List (List ℕ)) → Around all lines → Around (before ++ all) lines
more_before all lines before there =
    (before ++ there.0, there.1, ap (λ (xs : List (List ℕ)). before ++ xs) there.2 ∙ simp append_assoc refl)

more_behind : (all lines behind : List (List ℕ)) → Around all lines → Around (all ++ behind) lines
more_behind all lines behind there =
    (there.0, there.1 ++ behind, ap (λ (xs : List (List ℕ)). xs ++ behind) there.2 ∙ simp append_assoc refl)

section_first : (is : Bool) (s : ShownSlot) (o : Option ShownSlot) (p : ℕ) (states : ℕ → State) (later lines : List (List ℕ)) → nat_eq s.p p ≡ is
    → (option_map (λ (slot : ShownSlot). section slot (states p)) o ≡ Some lines → Around later lines)
    → option_map (λ (slot : ShownSlot). section slot (states p)) (cond is (Some s) o) ≡ Some lines → Around (section s (states s.p) ++ later) lines
section_first true s o p states later lines is behind e =
    let this : section s (states p) ≡ lines = cc in
    ([], later, ap (λ (xs : List (List ℕ)). xs ++ later) (ap (λ (n : ℕ). section s (states n)) (eqb-true s.p p is) ∙ this))
section_first false s o p states later lines is behind e = more_before later lines (section s (states s.p)) (behind e)

section_among : (slots : List ShownSlot) (p : ℕ) (states : ℕ → State) (lines : List (List ℕ))
    → option_map (λ (slot : ShownSlot). section slot (states p)) (slot_numbered slots p) ≡ Some lines
    → Around (flat_map (λ (slot : ShownSlot). section slot (states slot.p)) slots) lines
section_among [] p states lines e = absurd cc
section_among (s ∷ slots) p states lines e =
    section_first (nat_eq s.p p) s (slot_numbered slots p) p states (flat_map (λ (slot : ShownSlot). section slot (states slot.p)) slots) lines refl
    (section_among slots p states lines) e

pub section_there : (job : ShownJob) (J : List Entry) (states : ℕ → State) (p : ℕ) (lines : List (List ℕ)) → section_of p job states ≡ Some lines
    → (front : List (List ℕ)) × (rest : List (List ℕ)) × (report_lines job J states ≡ front ++ lines ++ rest)
unfolding report_lines
section_there job J states p lines e =
    more_behind ((head_line ∷ map entry_line J) ++ flat_map (λ (slot : ShownSlot). section slot (states slot.p)) job.slots) lines (end_line ∷ [])
    (more_before (flat_map (λ (slot : ShownSlot). section slot (states slot.p)) job.slots) lines (head_line ∷ map entry_line J)
    (section_among job.slots p states lines e))
