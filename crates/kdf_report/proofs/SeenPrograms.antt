-- What is seen of a program that was loaded from a slot of a job is one of that slot.
use Rattle.std.proofs.Common.{◌≡◌, ℕ, zero, suc, ◌<◌, Bool, true, false, cond, eqb, List, [], ◌∷◌, ◌++◌, length, map, get_or, All, Option, Some, None}
use Rattle.std.proofs.Common.{IsSomeAnd, refl, sym, subst, ◌∙◌, ap, arith}
use Rattle.std.specs.Prelude.{unwrap_or}
use Rattle.std.specs.List.{flat_map}
use Rattle.std.specs.Option.{option_map}
use Rattle.std.proofs.lemmas.Bool.{eq-eqb, eqb-true, ne_eqb}
use Rattle.kdf_journal.specs.Counts.{answers, ran}
use Rattle.kdf_journal.specs.declared.entry.Entry.{Entry}
use Rattle.kdf_processor.specs.Lone.{lone}
use Rattle.kdf_transfer.specs.Slots.{Slot}
use Rattle.kdf_processor.specs.State.{State}
use Rattle.kdf_job.specs.Job.{ShownJob, ShownSlot}
use Rattle.kdf_job.specs.WellFormed.{AreRising, AreSlots, IsSlot}
use Rattle.kdf_theory.specs.Flights.{Flight}
use Rattle.kdf_theory.specs.Loading as loading
use Rattle.kdf_theory.specs.Loading.{HaveImages, load_of, slots_of}
use Rattle.kdf_theory.specs.Seen.{seen}
use Rattle.kdf_theory.specs.MachineView.{MachineView, ShowsSeen, state_at, state_in, state_of}
use Rattle.kdf_theory.specs.Slots.{slot_of, start_of}
use Rattle.kdf_theory.specs.ByJournal.{flights_of, own, seen_of}
use Rattle.kdf_text.specs.Text.{text}
use Rattle.kdf_report.specs.MadeFrom.{HasProgram, IsProgramOf}
use Rattle.kdf_report.specs.Text.{end_line, entry_line, head_line, report_lines, report_text, section}
use Rattle.kdf_report.proofs.Loaded.{own_same, program_of}

-- a slot as it is loaded
abbrev loaded : ShownSlot → List ℕ → Slot
loaded slot words = loading.loaded_slot (load_of slot words)

-- ---- a program of the slot by itself, and what is seen of it

own_of_slot : (slots : List Slot) (J : List Entry) (p : ℕ) (slot : ShownSlot) (words : List ℕ) → IsSlot slot → slot_of slots p ≡ Some (loaded slot words)
    → IsProgramOf slot (own slots J p)
unfolding own
own_of_slot slots J p slot words is at =
    subst (λ o. IsProgramOf slot (lone (start_of o) (answers p J) (ran p J))) (sym at) (program_of slot words (answers p J) (ran p J) is)

seen_like : (flights : ℕ → Option Flight) (slot : ShownSlot) (s : State) → IsProgramOf slot s → IsProgramOf slot (seen flights s)
seen_like flights slot s is = record { size = is.size; shows = is.shows; devices = own_same (seen flights s) s refl ∙ is.devices }

seen_of_slot : (slots : List Slot) (J : List Entry) (p : ℕ) (slot : ShownSlot) (words : List ℕ) → IsSlot slot → slot_of slots p ≡ Some (loaded slot words)
    → IsProgramOf slot (seen_of slots J p)
seen_of_slot slots J p slot words is at = seen_like (flights_of slots J p) slot (own slots J p) (own_of_slot slots J p slot words is at)

-- ---- each slot of a job is found by its number

abbrev slot_numbers : List ShownSlot → List ℕ
slot_numbers slots = map (λ (s : ShownSlot). s.p) slots

rising_rest : (s : ShownSlot) (slots : List ShownSlot) → AreRising (slot_numbers (s ∷ slots)) → AreRising (slot_numbers slots)
rising_rest s [] rising = tt
rising_rest s (t ∷ slots) rising = rising.1

above : (s : ShownSlot) (slots : List ShownSlot) (k : ℕ) (d : ShownSlot) → AreRising (slot_numbers (s ∷ slots)) → k < length slots → s.p < (get_or slots k d).p
above s [] k d rising lt = absurd (omega arith)
above s (t ∷ slots) zero d rising lt = rising.0
above s (t ∷ slots) (suc k) d rising lt = let first : s.p < t.p = rising.0 in let later = above t slots k d rising.1 (omega arith) in omega arith

found : (slots : List ShownSlot) (images : List (List ℕ)) (k : ℕ) (d : ShownSlot) → AreRising (slot_numbers slots) → HaveImages slots images → k < length slots
    → (words : List ℕ) × (slot_of (slots_of slots images) (get_or slots k d).p ≡ Some (loaded (get_or slots k d) words))
found [] images k d rising have lt = absurd (omega arith)
found (s ∷ slots) [] k d rising have lt = absurd have
found (s ∷ slots) (words ∷ images) zero d rising have lt =
    (words, ap (λ b. cond b (Some (loaded s words)) (slot_of (slots_of slots images) s.p)) (eq-eqb s.p s.p refl))
found (s ∷ slots) (words ∷ images) (suc k) d rising have lt =
    let later = found slots images k d (rising_rest s slots rising) have.1 (omega arith) in
    let p : ℕ = (get_or slots k d).p in
    let less = above s slots k d rising (omega arith) in (
      later.0,
      ap (λ b. cond b (Some (loaded s words)) (slot_of (slots_of slots images) (get_or slots k d).p))
          (ne_eqb s.p (get_or slots k d).p (λ e. absurd (omega arith))) ∙ later.1,
    )

-- ---- the states that a machine shows

at_first : (f : Slot → State) (slot : Slot) (rest : Option State) (other : Option Slot) (b : Bool) → rest ≡ option_map f other
    → cond b (Some (f slot)) rest ≡ option_map f (cond b (Some slot) other)
at_first f slot rest other true e = refl
at_first f slot rest other false e = e

-- the state of a slot is found where the slot is
state_in-map : (f : Slot → State) (slots : List Slot) (p : ℕ) → state_in slots (map f slots) p ≡ option_map f (slot_of slots p)
state_in-map f [] p = refl
state_in-map f (slot ∷ slots) p = at_first f slot _ _ (eqb slot.p p) (state_in-map f slots p)

state_of-seen : (m : MachineView) (p : ℕ) → ShowsSeen m → state_of m p ≡ option_map (λ (s : Slot). seen_of m.slots m.journal s.p) (slot_of m.slots p)
state_of-seen m p shows = ap (λ states. state_in m.slots states p) shows ∙ state_in-map _ m.slots p

-- the slot that is found has the number
its_number : (slots : List Slot) (p : ℕ) (s : Slot) → slot_of slots p ≡ Some s → s.p ≡ p
its_number [] p s e = cc
its_number (slot ∷ slots) p s e = go (eqb slot.p p) refl (its_number slots p s) e
  where
    go : (b : Bool) → eqb slot.p p ≡ b → (slot_of slots p ≡ Some s → s.p ≡ p) → cond b (Some slot) (slot_of slots p) ≡ Some s → s.p ≡ p
    go true same later e = let is : slot ≡ s = cc in subst (λ (x : Slot). x.p ≡ p) is (eqb-true slot.p p same)
    go false other later e = later e

-- a machine that was loaded from the slots of a job has the program of each
pub has_programs : (m : MachineView) (slots : List ShownSlot) (images : List (List ℕ)) → AreSlots slots → HaveImages slots images
    → m.slots ≡ slots_of slots images → ShowsSeen m → All (HasProgram m) slots
has_programs m slots images are have same shows k d lt =
    let slot = get_or slots k d in
    let there = found slots images k d are.rising have lt in
    let at : slot_of m.slots slot.p ≡ Some (loaded slot there.0) = ap (λ (xs : List Slot). slot_of xs slot.p) same ∙ there.1 in
    let state : state_of m slot.p ≡ Some (seen_of m.slots m.journal slot.p) =
    state_of-seen m slot.p shows ∙ ap (option_map (λ (s : Slot). seen_of m.slots m.journal s.p)) at in
    subst (λ o. IsSomeAnd o (IsProgramOf slot)) (sym state) (seen_of_slot m.slots m.journal slot.p slot there.0 (are.each k d lt) at)

-- ---- the report of what is seen

-- of a program that is there, the state is what is seen of it
pub state_at-seen : (m : MachineView) (p : ℕ) (P : State → Type 0) → ShowsSeen m → IsSomeAnd (state_of m p) P → state_at m p ≡ seen_of m.slots m.journal p
state_at-seen m p P shows there = go (slot_of m.slots p) refl (subst (λ o. IsSomeAnd o P) (state_of-seen m p shows) there)
  where
    go : (o : Option Slot) → slot_of m.slots p ≡ o → IsSomeAnd (option_map (λ (s : Slot). seen_of m.slots m.journal s.p) o) P
        → state_at m p ≡ seen_of m.slots m.journal p
    go None e there = absurd there
    go (Some s) e there =
        ap (λ o. unwrap_or o (start_of None)) (state_of-seen m p shows ∙ ap (option_map (λ (x : Slot). seen_of m.slots m.journal x.p)) e)
        ∙ ap (seen_of m.slots m.journal) (its_number m.slots p s e)

sections_seen : (m : MachineView) → ShowsSeen m → (slots : List ShownSlot) → All (HasProgram m) slots
    → flat_map (λ (slot : ShownSlot). section slot (state_at m slot.p)) slots ≡ flat_map (λ (slot : ShownSlot). section slot (seen_of m.slots m.journal slot.p))
    slots
sections_seen m shows [] has = refl
sections_seen m shows (slot ∷ slots) has =
    let first : section slot (state_at m slot.p) ≡ section slot (seen_of m.slots m.journal slot.p) =
    ap (section slot) (state_at-seen m slot.p _ shows (has 0 slot (omega arith))) in
    let others = sections_seen m shows slots (λ k d h. has (suc k) d (omega arith)) in
    cc

pub report_seen : (m : MachineView) (job : ShownJob) → ShowsSeen m → All (HasProgram m) job.slots
    → report_text job m.journal (state_at m) ≡ report_text job m.journal
    (seen_of m.slots m.journal)
unfolding report_lines
report_seen m job shows has =
    ap (λ xs. text ((head_line ∷ map entry_line m.journal) ++ xs ++ end_line ∷ [])) (sections_seen m shows job.slots has)
