-- The text of a section and of a report, part by part.
use Rattle.std.proofs.Common.{◌≡◌, ℕ, ◌<◌, List, [], ◌∷◌, ◌++◌, All, Bool, true, false, cond, length, map, codes, decimal, Option, Some, None, is_some, refl}
use Rattle.std.proofs.Common.{sym, ◌∙◌, ap, subst, arith}
use Rattle.std.specs.List.{filter, flat_map, range_with_len}
use Rattle.std.proofs.lemmas.List.{get_or-map, length-map}
use Rattle.kdf_journal.specs.declared.entry.Entry.{Entry}
use Rattle.kdf_processor.specs.declared.registers.Registers.{Registers}
use Rattle.kdf_processor.specs.declared.spooled.Spooled.{Spooled}
use Rattle.kdf_processor.specs.Claims.{is_claimed}
use Rattle.kdf_processor.specs.State.{State, device_at, device_limit, lendings, own_fixture_at}
use Rattle.kdf_transfer.specs.Devices.{Fixture, DeviceProgress}
use Rattle.kdf_job.specs.declared.job.SlotJob.{SlotJob}
use Rattle.kdf_job.specs.Job.{ShownJob, ShownSlot}
use Rattle.kdf_job.specs.Shows.{shown_slot}
use Rattle.kdf_text.specs.Text.{text}
use Rattle.kdf_text.proofs.Texts.{text_more}
use Rattle.kdf_report.specs.Devices.{device_lines, device_numbers, own_lines, stint_lines}
use Rattle.kdf_report.specs.MadeFrom.{own_numbers}
use Rattle.kdf_report.specs.Text.{registers_lines, show_lines, spool_line, section, alone_line, end_line, alone_text, entry_line, head_line, report_lines}
use Rattle.kdf_report.specs.Text.{report_text}

-- what is left out has nothing
flat_map-filter : {A B : Type 0} (f : A → List B) (p : A → Bool) → ((x : A) → p x ≡ false → f x ≡ []) → (xs : List A) → flat_map f (filter p xs) ≡ flat_map f xs
flat_map-filter f p none [] = refl
flat_map-filter {A} {B} f p none (x ∷ xs) = go (p x) refl (flat_map-filter f p none xs)
  where
    go : (b : Bool) → p x ≡ b → flat_map f (filter p xs) ≡ flat_map f xs → flat_map f (cond b (x ∷ filter p xs) (filter p xs)) ≡ f x ++ flat_map f xs
    go true e later = ap (λ (ys : List B). f x ++ ys) later
    go false e later = later ∙ ap (λ (ys : List B). ys ++ flat_map f xs) (sym (none x e))

no_lines : (d : ℕ) (claimed : Bool) (f : Option Fixture) (x : DeviceProgress) → is_some f ≡ false → own_lines d claimed f x ≡ []
no_lines d claimed None x e = refl
no_lines d claimed (Some f) x e = cc

-- the lines of all numbers are those of the slot's devices
devices_of_slot : (slot : ShownSlot) (s : State) → own_numbers s ≡ device_numbers slot → flat_map (device_lines s) (range_with_len 0 device_limit)
    ≡ flat_map (device_lines s) (device_numbers slot)
unfolding device_lines own_numbers
devices_of_slot slot s own =
    sym (flat_map-filter (device_lines s) (λ d. is_some (own_fixture_at s.stock.claims d))
    (λ d e. no_lines d (is_claimed s.stock.claims d) (own_fixture_at s.stock.claims d) (device_at s d) e) (range_with_len 0 device_limit))
    ∙ ap (flat_map (device_lines s)) own

pub section_text : (slot : ShownSlot) (s : State) (r : Registers) (shows : List (ℕ × ℕ)) (spooled : List Spooled)
    (old slot_written registers_written shows_written spool_written devices_written new : List ℕ)
    → own_numbers s ≡ device_numbers slot → r ≡ s.registers → shows ≡ slot.shows → spooled ≡ s.stock.spooled
    → slot_written ≡ old ++ text ((codes "SLOT " ++ decimal slot.p) ∷ [])
    → registers_written ≡ slot_written ++ text (registers_lines r)
    → shows_written ≡ registers_written ++ text (flat_map (show_lines s) shows)
    → spool_written ≡ shows_written ++ text (map spool_line spooled)
    → devices_written ≡ spool_written ++ text (flat_map (device_lines s) (range_with_len 0 device_limit))
    → new ≡ devices_written ++ text (flat_map stint_lines (lendings s.stock))
    → new ≡ old ++ text (section slot s)
unfolding section
section_text slot s r shows spooled old slot_written registers_written shows_written spool_written devices_written new own is_r is_shows is_spooled first
    second third fourth fifth sixth =
    let registers = subst (λ x. registers_written ≡ slot_written ++ text (registers_lines x)) is_r second in
    let words = subst (λ x. shows_written ≡ registers_written ++ text (flat_map (show_lines s) x)) is_shows third in
    let texts = subst (λ x. spool_written ≡ shows_written ++ text (map spool_line x)) is_spooled fourth in
    let devices = subst (λ x. devices_written ≡ spool_written ++ text x) (devices_of_slot slot s own) fifth in
    text_more _ _ _ _ _ (text_more _ _ _ _ _ (text_more _ _ _ _ _ (text_more _ _ _ _ _ (text_more _ _ _ _ _ first registers) words) texts) devices) sixth

pub whole_text : (slot : ShownSlot) (s : State) (none head body all : List ℕ) → none ≡ []
    → head ≡ none ++ text (alone_line slot.p ∷ []) → body ≡ head ++ text (section slot s) → all ≡ body ++ text (end_line ∷ [])
    → all ≡ alone_text slot s
whole_text slot s none head body all is_none first second third =
    let whole = text_more _ _ _ _ _ (text_more _ _ _ _ _ first second) third in
    subst (λ x. all ≡ x ++ alone_text slot s) is_none whole

-- the text of a report, part by part
pub report_whole : (job : ShownJob) (J : List Entry) (states : ℕ → State) (slots : List ShownSlot) (entries : List Entry)
    (none head journal sections all : List ℕ)
    → none ≡ [] → entries ≡ J → slots ≡ job.slots
    → head ≡ none ++ text (head_line ∷ [])
    → journal ≡ head ++ text (map entry_line entries)
    → sections ≡ journal ++ text (flat_map (λ (slot : ShownSlot). section slot (states slot.p)) slots)
    → all ≡ sections ++ text (end_line ∷ [])
    → all ≡ report_text job J states
unfolding report_lines
report_whole job J states slots entries none head journal sections all is_none is_J is_slots first second third last =
    let lines = subst (λ x. journal ≡ head ++ text (map entry_line x)) is_J second in
    let parts = subst (λ x. sections ≡ journal ++ text (flat_map (λ (slot : ShownSlot). section slot (states slot.p)) x)) is_slots third in
    let whole = text_more _ _ _ _ _ (text_more _ _ _ _ _ (text_more _ _ _ _ _ first lines) parts) last in
    subst (λ x. all ≡ x ++ report_text job J states) is_none whole

-- what holds of each slot, as it is shown, holds of each that is read
pub all_shown : (P : ShownSlot → Type 0) (slots : List SlotJob) → All P (map shown_slot slots) → All (λ (slot : SlotJob). P (shown_slot slot)) slots
all_shown P slots all k d lt =
    let inside : k < length (map shown_slot slots) = omega (arith, length-map slots shown_slot) in
    subst P (get_or-map shown_slot slots k d (shown_slot d) lt) (all k (shown_slot d) inside)
