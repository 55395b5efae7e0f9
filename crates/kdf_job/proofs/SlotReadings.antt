-- The slots of a job without a fault, each by its lines.
use Rattle.std.proofs.Common.{◌≡◌, ℕ, ◌+◌, Bool, true, false, cond, List, [], ◌∷◌, ◌++◌, map, Option, Some, None, Result, Ok, Err, refl, sym, ap, subst, ◌∙◌}
use Rattle.std.proofs.Common.{append_assoc, append-nil}
use Rattle.std.specs.Prelude.{◌==◌, codes, find}
use Rattle.std.specs.Option.{option_map, option_to_list}
use Rattle.std.proofs.lemmas.Bool.{eq-eqb, eqb-true}
use Rattle.kdf_text.specs.Lines.{is_text, lines, words}
use Rattle.kdf_journal.specs.declared.kind.Kind.{Kind}
use Rattle.kdf_schedule.specs.declared.event.Event.{Event}
use Rattle.kdf_schedule.specs.declared.event.EventFault.{EventFault}
use Rattle.kdf_schedule.specs.declared.event.EventFault.TheVariants as event_fault
use Rattle.kdf_schedule.specs.Events.{event}
use Rattle.kdf_job.specs.declared.fault.JobFault.{JobFault}
use Rattle.kdf_job.specs.declared.line_place.LinePlace.{LinePlace}
use Rattle.kdf_job.specs.declared.line_place.LinePlace.TheVariants.{First, BehindHeader, BehindSlot, BehindStore, InDeck, BehindDeck, BehindService}
use Rattle.kdf_job.specs.declared.line_place.LinePlace.TheVariants.{BehindDevice}
use Rattle.kdf_job.specs.declared.line_place.LinePlace.TheVariants.{BehindShow, BehindPool, InSchedule, BehindEnd}
use Rattle.kdf_job.specs.Draft.{ShownSlotDraft, ShownDraft, blank, fault_of, new_slot, number_at, slot_of, slot_with, slots_told, slots_with, tells, with_line}
use Rattle.kdf_job.specs.Draft.{with_pool}
use Rattle.kdf_job.specs.Forms.{Form, ASlot, AStore, ADeckLine, APool, APoolDevice, ASchedule, AnEndJob, told, first_told, next_place, number_line, of_event}
use Rattle.kdf_job.specs.Forms.{told_at}
use Rattle.kdf_job.specs.Job.{ShownSlot}
use Rattle.kdf_job.specs.Reading.{behind_line, draft_of, fault_from, job, job_fault, or_fault, or_same, read_line, with_told}
use Rattle.kdf_job.specs.SlotLines.{begins, ends, lines_from, place_behind, pool_lines, rest_of_slot, slot_lines}
use Rattle.kdf_job.proofs.StoreLines.{IsBehindSlot, IsPoolTold, pool_tells, stores_only}
use Rattle.kdf_job.proofs.PoolReadings.{lent_of_lines, pool_told}
use Rattle.kdf_job.specs.Limits.{group, most_words}

-- ---- slots that lines tell, of which only the places and the slot that is read count

-- the slot after a line of this form
abbrev next_slot : Form → LinePlace → Option ShownSlotDraft → Option ShownSlotDraft
next_slot (AStore n) place slot = Some (new_slot (number_at place) n)
next_slot form place slot = option_map (tells form) slot

-- the slot that a line of this form ends
abbrev ended : Form → Option ShownSlotDraft → List ShownSlot
ended (AStore n) slot = option_to_list (option_map slot_of slot)
ended form slot = []

abbrev told_line : LinePlace → Option ShownSlotDraft → Result Form JobFault → (LinePlace → Option ShownSlotDraft → List ShownSlot) → List ShownSlot
told_line place slot (Err fault) follows = follows place slot
told_line place slot (Ok form) follows = ended form slot ++ follows (next_place form) (next_slot form place slot)

abbrev slots_from : LinePlace → Option ShownSlotDraft → List (List ℕ) → List ShownSlot
slots_from place slot [] = option_to_list (option_map slot_of slot)
slots_from place slot (line ∷ ls) = told_line place slot (told_at place line) (λ at s. slots_from at s ls)

slots_split : (form : Form) (d : ShownDraft) → slots_with form d ≡ d.slots ++ ended form d.slot
slots_split (AStore n) d = refl
slots_split form d = sym (append-nil d.slots)

slot_is : (form : Form) (d : ShownDraft) → slot_with form d ≡ next_slot form d.place d.slot
slot_is (AStore n) d = refl
slot_is form d = refl

-- lines without a fault tell these slots
told_slots : (n : ℕ) (d : ShownDraft) (ls : List (List ℕ)) → fault_from n d ls ≡ None → slots_told (draft_of d ls) ≡ d.slots ++ slots_from d.place d.slot ls
unfolding read_line
told_slots n d [] none = refl
told_slots n d (line ∷ ls) none = step (told_at d.place line) (λ (e : ShownDraft). told_slots (n + 1) e ls) none
  where
    taken : (form : Form) (fault : Option JobFault)
        → ((e : ShownDraft) → fault_from (n + 1) e ls ≡ None → slots_told (draft_of e ls) ≡ e.slots ++ slots_from e.place e.slot ls)
        → behind_line n (or_fault form d fault) (λ e. fault_from (n + 1) e ls) ≡ None
        → slots_told (draft_of (or_same d (or_fault form d fault)) ls)
        ≡ d.slots ++ (ended form d.slot ++ slots_from (next_place form) (next_slot form d.place d.slot) ls)
    taken form (Some fault) rest none = absurd cc
    taken form None rest none =
        rest (with_line form d) none
        ∙ ap (λ (s : Option ShownSlotDraft). slots_with form d ++ slots_from (next_place form) s ls) (slot_is form d)
        ∙ ap (λ (ss : List ShownSlot). ss ++ slots_from (next_place form) (next_slot form d.place d.slot) ls) (slots_split form d)
        ∙ append_assoc d.slots (ended form d.slot) (slots_from (next_place form) (next_slot form d.place d.slot) ls)

    step : (r : Result Form JobFault)
        → ((e : ShownDraft) → fault_from (n + 1) e ls ≡ None → slots_told (draft_of e ls) ≡ e.slots ++ slots_from e.place e.slot ls)
        → behind_line n (with_told d r) (λ e. fault_from (n + 1) e ls) ≡ None
        → slots_told (draft_of (or_same d (with_told d r)) ls) ≡ d.slots ++ told_line d.place d.slot r (λ at s. slots_from at s ls)
    step (Err fault) rest none = absurd cc
    step (Ok form) rest none = taken form (fault_of form d) rest none

-- ---- the slot that the lines of one tell

abbrev after_line : LinePlace → Option ShownSlotDraft → Result Form JobFault → (LinePlace → Option ShownSlotDraft → Option ShownSlotDraft)
    → Option ShownSlotDraft
after_line place slot (Err fault) follows = follows place slot
after_line place slot (Ok form) follows = follows (next_place form) (next_slot form place slot)

abbrev slot_after : LinePlace → Option ShownSlotDraft → List (List ℕ) → Option ShownSlotDraft
slot_after place slot [] = slot
slot_after place slot (line ∷ ls) = after_line place slot (told_at place line) (λ at s. slot_after at s ls)

-- the slot of number p, of its lines
abbrev slot_of_lines : ℕ → List (List ℕ) → Option ShownSlot
slot_of_lines p [] = None
slot_of_lines p (first ∷ ls) = option_map slot_of (slot_after (BehindSlot p) None ls)

-- up to the line that ends it
abbrev within_line : LinePlace → Option ShownSlotDraft → Result Form JobFault → (LinePlace → Option ShownSlotDraft → Option ShownSlotDraft)
    → Option ShownSlotDraft
within_line place slot (Err fault) follows = follows place slot
within_line place slot (Ok (ASlot q)) follows = slot
within_line place slot (Ok APool) follows = slot
within_line place slot (Ok ASchedule) follows = slot
within_line place slot (Ok form) follows = follows (next_place form) (next_slot form place slot)

abbrev slot_within : LinePlace → Option ShownSlotDraft → List (List ℕ) → Option ShownSlotDraft
slot_within place slot [] = slot
slot_within place slot (line ∷ ls) = within_line place slot (told_at place line) (λ at s. slot_within at s ls)

slot_after_rest : (place : LinePlace) (slot : Option ShownSlotDraft) (ls : List (List ℕ))
    → slot_after place slot (rest_of_slot place ls) ≡ slot_within place slot ls
slot_after_rest place slot [] = refl
slot_after_rest place slot (line ∷ ls) = step (told_at place line) refl (λ (at : LinePlace) (s : Option ShownSlotDraft). slot_after_rest at s ls)
  where
    step : (r : Result Form JobFault) → told_at place line ≡ r
        → ((at : LinePlace) (s : Option ShownSlotDraft) → slot_after at s (rest_of_slot at ls) ≡ slot_within at s ls)
        → slot_after place slot (cond (ends r) [] (line ∷ rest_of_slot (place_behind place r) ls)) ≡ within_line place slot r (λ at s. slot_within at s ls)
    step (Err fault) e rest =
        ap (λ (r : Result Form JobFault). after_line place slot r (λ at s. slot_after at s (rest_of_slot place ls))) e ∙ rest place slot
    step (Ok (ASlot q)) e rest = refl
    step (Ok APool) e rest = refl
    step (Ok ASchedule) e rest = refl
    step (Ok form) e rest =
        ap (λ (r : Result Form JobFault). after_line place slot r (λ at s. slot_after at s (rest_of_slot (next_place form) ls))) e
        ∙ rest (next_place form) (next_slot form place slot)

-- ---- the slot of a number among those that lines tell

abbrev is_slot : ℕ → ShownSlot → Bool
is_slot p s = s.p == p

-- the slot that is read is another
abbrev IsOther : ℕ → Option ShownSlotDraft → Type 0
IsOther p None = Unit {0}
IsOther p (Some s) = (s.p == p) ≡ false

-- nor is this number the one that waits for its slot
abbrev IsAway : ℕ → LinePlace → Type 0
IsAway p (BehindSlot q) = (q == p) ≡ false
IsAway p _ = Unit {0}

not_found : (p : ℕ) (slot : Option ShownSlotDraft) (ss : List ShownSlot) → IsOther p slot → find (is_slot p) (option_to_list (option_map slot_of slot) ++ ss)
    ≡ find (is_slot p) ss
not_found p None ss other = refl
not_found p (Some s) ss other = rw other refl

not_found_last : (p : ℕ) (slot : Option ShownSlotDraft) → IsOther p slot → find (is_slot p) (option_to_list (option_map slot_of slot)) ≡ None
not_found_last p None other = refl
not_found_last p (Some s) other = rw other refl

other_still : (p : ℕ) (form : Form) (slot : Option ShownSlotDraft) → IsOther p slot → IsOther p (option_map (tells form) slot)
other_still p form None other = other
other_still p (ADeckLine text) (Some s) other = other
other_still p form (Some s) other = other

-- the schedule tells nothing of a slot
at_the_end : (s : ShownSlotDraft) (ls : List (List ℕ)) → slots_from BehindEnd (Some s) ls ≡ slot_of s ∷ []
at_the_end s [] = refl
at_the_end s (line ∷ ls) = at_the_end s ls

in_schedule : (s : ShownSlotDraft) (ls : List (List ℕ)) → slots_from InSchedule (Some s) ls ≡ slot_of s ∷ []
in_schedule s [] = refl
in_schedule s (line ∷ ls) = step (event line) (is_text (codes "ENDJOB") line) (in_schedule s ls)
  where
    step : (r : Result Event EventFault) (b : Bool) → slots_from InSchedule (Some s) ls ≡ slot_of s ∷ []
        → told_line InSchedule (Some s) (first_told (of_event r ∷ cond b (Some (Ok AnEndJob)) None ∷ [])) (λ at t. slots_from at t ls) ≡ slot_of s ∷ []
    step (Ok what) b rest = rest
    step (Err event_fault.Number) b rest = rest
    step (Err event_fault.Form) true rest = at_the_end s ls
    step (Err event_fault.Form) false rest = rest

-- nor does the pool
in_pool : (s : ShownSlotDraft) (ls : List (List ℕ)) → slots_from BehindPool (Some s) ls ≡ slot_of s ∷ []
in_pool s [] = refl
in_pool s (line ∷ ls) = step (told_at BehindPool line) (pool_tells line) (in_pool s ls)
  where
    step : (r : Result Form JobFault) → IsPoolTold r → slots_from BehindPool (Some s) ls ≡ slot_of s ∷ []
        → told_line BehindPool (Some s) r (λ at t. slots_from at t ls) ≡ slot_of s ∷ []
    step (Err fault) is rest = rest
    step (Ok (APoolDevice n kind label)) is rest = rest
    step (Ok ASchedule) is rest = in_schedule s ls
    step (Ok form) is rest = absurd is

-- a slot that was read stands first of what follows
read_stays : (p q : ℕ) (s : ShownSlotDraft) (ls : List (List ℕ)) → (s.p == p) ≡ true
    → find (is_slot p) (slots_from (BehindSlot q) (Some s) ls) ≡ Some (slot_of s)
read_stays p q s [] is = rw is refl
read_stays p q s (line ∷ ls) is = step (number_line (codes "STORE") group most_words (words line)) (read_stays p q s ls is)
  where
    step : (x : Option (Result ℕ JobFault)) → find (is_slot p) (slots_from (BehindSlot q) (Some s) ls) ≡ Some (slot_of s)
        → find (is_slot p) (told_line (BehindSlot q) (Some s) (first_told (told AStore x ∷ [])) (λ at t. slots_from at t ls)) ≡ Some (slot_of s)
    step None rest = rest
    step (Some (Err fault)) rest = rest
    step (Some (Ok n)) rest = rw is refl

-- in the slot
inside : (p : ℕ) (place : LinePlace) (s : ShownSlotDraft) (ls : List (List ℕ)) → (IsBehindSlot place → ⊥) → (s.p == p) ≡ true
    → find (is_slot p) (slots_from place (Some s) ls) ≡ option_map slot_of (slot_within place (Some s) ls)
inside p place s [] away is = rw is refl
inside p place s (line ∷ ls) away is = step (told_at place line) refl (λ (at : LinePlace) (t : ShownSlotDraft). inside p at t ls)
  where
    step : (r : Result Form JobFault) → told_at place line ≡ r
        → ((at : LinePlace) (t : ShownSlotDraft) → (IsBehindSlot at → ⊥) → (t.p == p) ≡ true → find (is_slot p) (slots_from at (Some t) ls) ≡ option_map slot_of
        (slot_within at (Some t) ls))
        → find (is_slot p) (told_line place (Some s) r (λ at t. slots_from at t ls)) ≡ option_map slot_of
        (within_line place (Some s) r (λ at t. slot_within at t ls))
    step (Err fault) e rest = rest place s away is
    step (Ok (ASlot q)) e rest = read_stays p q s ls is
    step (Ok APool) e rest = ap (find (is_slot p)) (in_pool s ls) ∙ rw is refl
    step (Ok ASchedule) e rest = ap (find (is_slot p)) (in_schedule s ls) ∙ rw is refl
    step (Ok (AStore n)) e rest = absurd (away (stores_only place line n e))
    step (Ok form) e rest = rest (next_place form) (tells form s) (λ no. no) is

-- after `SLOT p`
begun : (p : ℕ) (slot : Option ShownSlotDraft) (ls : List (List ℕ)) → IsOther p slot
    → find (is_slot p) (slots_from (BehindSlot p) slot ls) ≡ option_map slot_of (slot_within (BehindSlot p) None ls)
begun p slot [] other = not_found_last p slot other
begun p slot (line ∷ ls) other = step (number_line (codes "STORE") group most_words (words line)) (begun p slot ls other)
  where
    step : (x : Option (Result ℕ JobFault)) → find (is_slot p) (slots_from (BehindSlot p) slot ls) ≡ option_map slot_of (slot_within (BehindSlot p) None ls)
        → find (is_slot p) (told_line (BehindSlot p) slot (first_told (told AStore x ∷ [])) (λ at t. slots_from at t ls))
        ≡ option_map slot_of (within_line (BehindSlot p) None (first_told (told AStore x ∷ [])) (λ at t. slot_within at t ls))
    step None rest = rest
    step (Some (Err fault)) rest = rest
    step (Some (Ok n)) rest =
        not_found p slot (slots_from BehindStore (Some (new_slot p n)) ls) other ∙ inside p BehindStore (new_slot p n) ls (λ no. no) (eq-eqb p p refl)

-- the number that waits is another
waits : (p : ℕ) (place : LinePlace) → IsBehindSlot place → IsAway p place → (number_at place == p) ≡ false
waits p (BehindSlot q) is away = away
waits p First is away = absurd is
waits p BehindHeader is away = absurd is
waits p BehindStore is away = absurd is
waits p InDeck is away = absurd is
waits p BehindDeck is away = absurd is
waits p BehindService is away = absurd is
waits p BehindDevice is away = absurd is
waits p BehindShow is away = absurd is
waits p BehindPool is away = absurd is
waits p InSchedule is away = absurd is
waits p BehindEnd is away = absurd is

-- outside of the slot
outside : (p : ℕ) (place : LinePlace) (slot : Option ShownSlotDraft) (ls : List (List ℕ)) → IsOther p slot → IsAway p place
    → find (is_slot p) (slots_from place slot ls) ≡ slot_of_lines p (lines_from p place ls)
outside p place slot [] other away = not_found_last p slot other
outside p place slot (line ∷ ls) other away = step (told_at place line) refl (λ (at : LinePlace) (s : Option ShownSlotDraft). outside p at s ls)
  where
    picked : (q : ℕ) (b : Bool) → (q == p) ≡ b
        → ((at : LinePlace) (s : Option ShownSlotDraft) → IsOther p s → IsAway p at → find (is_slot p) (slots_from at s ls)
        ≡ slot_of_lines p (lines_from p at ls))
        → find (is_slot p) (slots_from (BehindSlot q) (option_map (tells (ASlot q)) slot) ls) ≡ slot_of_lines p
        (cond b (line ∷ rest_of_slot (BehindSlot p) ls) (lines_from p (BehindSlot q) ls))
    picked q true e rest =
        subst
        (λ (x : ℕ). find (is_slot p) (slots_from (BehindSlot x) (option_map (tells (ASlot x)) slot) ls) ≡ slot_of_lines p
        (line ∷ rest_of_slot (BehindSlot p) ls))
        (sym (eqb-true q p e))
        (begun p (option_map (tells (ASlot p)) slot) ls (other_still p (ASlot p) slot other)
        ∙ ap (option_map slot_of) (sym (slot_after_rest (BehindSlot p) None ls)))
    picked q false e rest = rest (BehindSlot q) (option_map (tells (ASlot q)) slot) (other_still p (ASlot q) slot other) e

    step : (r : Result Form JobFault) → told_at place line ≡ r
        → ((at : LinePlace) (s : Option ShownSlotDraft) → IsOther p s → IsAway p at → find (is_slot p) (slots_from at s ls)
        ≡ slot_of_lines p (lines_from p at ls))
        → find (is_slot p) (told_line place slot r (λ at s. slots_from at s ls))
        ≡ slot_of_lines p (cond (begins p r) (line ∷ rest_of_slot (BehindSlot p) ls) (lines_from p (place_behind place r) ls))
    step (Err fault) e rest = rest place slot other away
    step (Ok (ASlot q)) e rest = picked q (q == p) refl rest
    step (Ok (AStore n)) e rest =
        not_found p slot (slots_from BehindStore (Some (new_slot (number_at place) n)) ls) other
        ∙ rest BehindStore (Some (new_slot (number_at place) n)) (waits p place (stores_only place line n e) away) (tt {0})
    step (Ok form) e rest = rest (next_place form) (option_map (tells form) slot) (other_still p form slot other) (tt {0})

-- ---- the slot of a job

found_shared : (p : ℕ) (pool : List (ℕ × Kind)) (ss : List ShownSlot) → find (is_slot p) (map (with_pool pool) ss) ≡ option_map (with_pool pool)
    (find (is_slot p) ss)
found_shared p pool [] = refl
found_shared p pool (s ∷ ss) = step (s.p == p) (found_shared p pool ss)
  where
    step : (b : Bool) → find (is_slot p) (map (with_pool pool) ss) ≡ option_map (with_pool pool) (find (is_slot p) ss)
        → cond b (Some (with_pool pool s)) (find (is_slot p) (map (with_pool pool) ss)) ≡ option_map (with_pool pool) (cond b (Some s) (find (is_slot p) ss))
    step true rest = refl
    step false rest = rest

slot_told : (p : ℕ) (bytes : List ℕ) → job_fault bytes ≡ None → find (is_slot p) (job bytes).slots ≡ option_map (with_pool (lent_of_lines (pool_lines bytes)))
    (slot_of_lines p (slot_lines p bytes))
unfolding job job_fault slot_lines
slot_told p bytes none =
    let d = draft_of blank (lines bytes) in
    found_shared p d.pool (slots_told d)
    ∙ ap (λ (pool : List (ℕ × Kind)). option_map (with_pool pool) (find (is_slot p) (slots_told d))) (pool_told bytes none)
    ∙ ap (λ (o : Option ShownSlot). option_map (with_pool (lent_of_lines (pool_lines bytes))) o)
    (ap (find (is_slot p)) (told_slots 1 blank (lines bytes) none) ∙ outside p First None (lines bytes) (tt {0}) (tt {0}))

pub slots_told_alike : (one other : List ℕ) (p : ℕ) → job_fault one ≡ None → job_fault other ≡ None → slot_lines p one ≡ slot_lines p other
    → pool_lines one ≡ pool_lines other
    → find (λ (s : ShownSlot). s.p == p) (job one).slots ≡ find (λ (s : ShownSlot). s.p == p) (job other).slots
slots_told_alike one other p here there same common =
    slot_told p one here
    ∙ ap (λ (ls : List (List ℕ)). option_map (with_pool (lent_of_lines ls)) (slot_of_lines p (slot_lines p one))) common
    ∙ ap (λ (ls : List (List ℕ)). option_map (with_pool (lent_of_lines (pool_lines other))) (slot_of_lines p ls)) same
    ∙ sym (slot_told p other there)
