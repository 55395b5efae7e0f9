-- The slots of a job without a fault are well formed, whatever the length of their decks.
use Rattle.std.proofs.Common.{◌≡◌, ℕ, ◌+◌, ◌<◌, ◌≤◌, ◌%◌, Bool, true, false, cond, ◌||◌, List, [], ◌∷◌, ◌++◌, length, map, Option, Some, None, Result, Ok, Err}
use Rattle.std.proofs.Common.{codes, refl, sym, ap, subst, ◌∙◌, arith, append_assoc, length-append}
use Rattle.std.specs.Prelude.{is_none, nat_eq}
use Rattle.std.specs.Option.{option_map, option_to_list}
use Rattle.std.specs.List.{All, IsDistinct, flat_map, list_any}
use Rattle.std.proofs.lemmas.Bool.Decides.{nat_tests}
use Rattle.std.proofs.lemmas.Cmp.{nat_eq_equiv}
use Rattle.std.proofs.lemmas.List.{append-nil, map-append}
use Rattle.std.proofs.lemmas.List.Elements.{All-push}
use Rattle.std.proofs.lemmas.List.Folds.{list_any-append}
use Rattle.std.proofs.lemmas.List.Sorted.{IsPermutation-middle, IsPermutation-sym, IsPermutation-to_front, IsPermutation-trans}
use Rattle.std.proofs.lemmas.List.Sums.{sum_by-cons}
use Rattle.std.proofs.lemmas.Map.Keys.{IsDistinct-IsPermutation}
use Rattle.std.proofs.Math.Seq.{get_or-append_seam}
use Rattle.kdf_text.specs.Lines.{lines}
use Rattle.kdf_journal.specs.declared.kind.Kind.{Kind}
use Rattle.kdf_journal.specs.declared.kind.Kind.TheVariants.{Tr, Tp, Cr, Lp, Mt}
use Rattle.kdf_job.specs.declared.fault.JobFault.{JobFault}
use Rattle.kdf_job.specs.declared.fault.JobFault.TheVariants.{BadMedium}
use Rattle.kdf_job.specs.declared.line_place.LinePlace.{LinePlace}
use Rattle.kdf_job.specs.declared.line_place.LinePlace.TheVariants.{First, BehindHeader, BehindSlot, BehindStore, InDeck, BehindDeck, BehindService}
use Rattle.kdf_job.specs.declared.line_place.LinePlace.TheVariants.{BehindDevice}
use Rattle.kdf_job.specs.declared.line_place.LinePlace.TheVariants.{BehindShow, BehindPool, InSchedule, BehindEnd}
use Rattle.kdf_job.specs.Draft.{ShownSlotDraft, ShownDraft, all_devices, blank, device_fault, fault_of, lent_fault, medium_fault, new_slot, number_at}
use Rattle.kdf_job.specs.Draft.{pool_numbers}
use Rattle.kdf_job.specs.Draft.{numbers_of, numbers_told, pool_fault, slot_fault, slot_of, slots_told, store_fault, tells, with_line, with_line_of_medium}
use Rattle.kdf_job.specs.Draft.{with_pool, words_in}
use Rattle.kdf_job.specs.Forms.{Form, AHeader, ASlot, AStore, ADeck, ADeckLine, AnEndDeck, AService, ADevice, AMedium, AShow, APool, APoolDevice, ASchedule}
use Rattle.kdf_job.specs.Forms.{AnEvent, AnEndJob, told_at}
use Rattle.kdf_job.specs.Job.{JobDevice, ShownSlot}
use Rattle.kdf_job.specs.Kept.{AreTold, IsBegun}
use Rattle.kdf_job.specs.Media.{added, codes_in, fits, new_device, with_codes, with_medium, word_of_text}
use Rattle.kdf_job.specs.Reading.{behind_line, draft_of, fault_from, job, job_fault, or_fault, or_same, read_line, with_told}
use Rattle.kdf_job.specs.WellFormed.{AreSlots, IsLent, IsSlot}
use Rattle.kdf_job.proofs.Begins.{blank_sound}
use Rattle.kdf_job.proofs.PoolDevices.{a_writer, after_free}
use Rattle.kdf_job.proofs.Pools.{are_slots}
use Rattle.kdf_job.proofs.Slots.{apart_more, ds, numbers_last, numbers_more, numbers_same, slots_changed, slots_first, slots_more}
use Rattle.kdf_report.proofs.JobForms.{IsInRange, IsToldAt, is_store, told_form}
use Rattle.kdf_job.specs.Limits.{most_words, most_words_together}

-- ---- slots, of which what is loaded turns on everything

-- a slot without its deck, and without what is to be shown
abbrev pub bare : ShownSlot → ShownSlot
bare s = record s { deck = []; shows = [] }

devices_bare : (slots : List ShownSlot) → flat_map (λ (s : ShownSlot). s.devices) (map bare slots) ≡ flat_map (λ (s : ShownSlot). s.devices) slots
devices_bare [] = refl
devices_bare (s ∷ slots) = ap (λ (xs : List JobDevice). s.devices ++ xs) (devices_bare slots)

numbers_bare : (slots : List ShownSlot) → numbers_of (map bare slots) ≡ numbers_of slots
numbers_bare slots = ap (λ (xs : List JobDevice). ds xs) (devices_bare slots)

words_bare : (slots : List ShownSlot) → words_in (map bare slots) ≡ words_in slots
words_bare [] = refl
words_bare (s ∷ slots) =
    sum_by-cons (λ (x : ShownSlot). x.size) (bare s) (map bare slots)
    ∙ ap (λ (n : ℕ). s.size + n) (words_bare slots)
    ∙ sym (sum_by-cons (λ (x : ShownSlot). x.size) s slots)

-- the pool is none of this
bare_pool : (pool : List (ℕ × Kind)) (slots : List ShownSlot) → map bare (map (with_pool pool) slots) ≡ map (with_pool pool) (map bare slots)
bare_pool pool [] = refl
bare_pool pool (s ∷ slots) = ap (λ (later : List ShownSlot). bare (with_pool pool s) ∷ later) (bare_pool pool slots)

-- ---- numbers

-- a number more, before others
apart_inside : (xs ys : List ℕ) (n : ℕ) → IsDistinct nat_eq (xs ++ ys) → list_any (nat_eq n) (xs ++ ys) ≡ false → IsDistinct nat_eq ((xs ++ n ∷ []) ++ ys)
apart_inside xs ys n was new =
    let moved =
    IsPermutation-trans ((xs ++ ys) ++ n ∷ []) (n ∷ (xs ++ ys)) (xs ++ n ∷ ys) (IsPermutation-to_front (xs ++ ys) n)
    (IsPermutation-sym (xs ++ n ∷ ys) (n ∷ (xs ++ ys)) (IsPermutation-middle xs n ys)) in
    subst (IsDistinct nat_eq) (sym (append_assoc xs (n ∷ []) ys))
    (IsDistinct-IsPermutation nat_eq nat_eq_equiv.symm ((xs ++ ys) ++ n ∷ []) (xs ++ n ∷ ys) moved (apart_more (xs ++ ys) n was new))

neither : (b c : Bool) → (b || c) ≡ false → b ≡ false
neither true c h = absurd cc
neither false c h = refl

-- ---- what the lines so far tell

abbrev IsAt : LinePlace → Option ShownSlotDraft → Type 0
IsAt (BehindSlot p) slot = (p ≤ 3) × (slot_fault p slot ≡ None)
IsAt place slot = Unit {0}

abbrev bares : ShownDraft → List ShownSlot
bares d = map bare (slots_told d)

record IsRead (d : ShownDraft) : Type 0 where
  slots : AreTold (bares d)
  lent : All (λ (x : ℕ × Kind). IsLent x) d.pool
  owned : IsDistinct nat_eq (numbers_told d)
  begun : IsBegun d.slots d.slot
  placed : IsAt d.place d.slot

with_last : (front : List ShownSlot) (s : ShownSlotDraft) → map bare (front ++ slot_of s ∷ []) ≡ map bare front ++ bare (slot_of s) ∷ []
with_last front s = map-append bare front (slot_of s ∷ [])

-- the slot in which a line stands is the last
last_is : (d : ShownDraft) (s : ShownSlotDraft) → d.slot ≡ Some s → bares d ≡ map bare d.slots ++ bare (slot_of s) ∷ []
last_is d s is = ap (λ (o : Option ShownSlotDraft). map bare (d.slots ++ option_to_list (option_map slot_of o))) is ∙ with_last d.slots s

kept : (d : ShownDraft) (s : ShownSlotDraft) → IsRead d → d.slot ≡ Some s → AreTold (map bare d.slots ++ bare (slot_of s) ∷ [])
kept d s was is = subst AreTold (last_is d s is) was.slots

all_last : {X : Type 0} (P : X → Type 0) (xs : List X) (x : X) → All P (xs ++ x ∷ []) → P x
all_last P xs x all = subst P (get_or-append_seam xs x [] x) (all (length xs) x (let n = length-append xs (x ∷ []) in omega arith))

-- a line that changes the last slot alone
slots_then : (form : Form) (d : ShownDraft) (o : Option ShownSlotDraft) → d.slot ≡ o → IsRead d
    → ((s : ShownSlotDraft) → d.slot ≡ Some s → AreTold (map bare d.slots ++ bare (slot_of (tells form s)) ∷ []))
    → AreTold (map bare (d.slots ++ option_to_list (option_map slot_of (option_map (tells form) o))))
slots_then form d None is was then =
    subst (λ (o : Option ShownSlotDraft). AreTold (map bare (d.slots ++ option_to_list (option_map slot_of o)))) is was.slots
slots_then form d (Some s) is was then = subst AreTold (sym (with_last d.slots (tells form s))) (then s is)

begun_then : (form : Form) (front : List ShownSlot) (o : Option ShownSlotDraft) → IsBegun front o → IsBegun front (option_map (tells form) o)
begun_then form front None begun = begun
begun_then form front (Some s) begun = tt

-- the numbers of the devices are those before it
same_numbers : (form : Form) (front : List ShownSlot) (o : Option ShownSlotDraft)
    → ((s : ShownSlotDraft) → o ≡ Some s → ds (all_devices (tells form s)) ≡ ds (all_devices s))
    → numbers_of (front ++ option_to_list (option_map slot_of (option_map (tells form) o))) ≡ numbers_of (front ++ option_to_list (option_map slot_of o))
same_numbers form front None same = refl
same_numbers form front (Some s) same = numbers_same front (slot_of s) (slot_of (tells form s)) (same s refl)

owned_still : (form : Form) (d : ShownDraft) → IsRead d → ((s : ShownSlotDraft) → d.slot ≡ Some s → ds (all_devices (tells form s)) ≡ ds (all_devices s))
    → IsDistinct nat_eq (numbers_of (d.slots ++ option_to_list (option_map slot_of (option_map (tells form) d.slot))) ++ pool_numbers d.pool)
owned_still form d was same =
    subst (λ (ns : List ℕ). IsDistinct nat_eq (ns ++ pool_numbers d.pool)) (sym (same_numbers form d.slots d.slot same)) was.owned

changed : (form : Form) (d e : ShownDraft) → IsRead d → e.slots ≡ d.slots → e.slot ≡ option_map (tells form) d.slot → e.pool ≡ d.pool
    → ((s : ShownSlotDraft) → d.slot ≡ Some s → AreTold (map bare d.slots ++ bare (slot_of (tells form s)) ∷ []))
    → IsDistinct nat_eq (numbers_of (d.slots ++ option_to_list (option_map slot_of (option_map (tells form) d.slot))) ++ pool_numbers d.pool)
    → IsAt e.place e.slot → IsRead e
changed form d e was slots slot pool then owned placed =
    record {
      slots =
          rw (slots, slot) (slots_then form d d.slot refl was then);
      lent = rw pool was.lent;
      owned = rw (slots, slot, pool) owned;
      begun = rw (slots, slot) (begun_then form d.slots d.slot was.begun);
      placed = placed;
    }

-- a line that changes no more than a deck, or what is to be shown
unchanged : (form : Form) (d e : ShownDraft) → IsRead d → e.slots ≡ d.slots → e.slot ≡ option_map (tells form) d.slot → e.pool ≡ d.pool
    → ((s : ShownSlotDraft) → bare (slot_of (tells form s)) ≡ bare (slot_of s)) → IsAt e.place e.slot → IsRead e
unchanged form d e was slots slot pool same placed =
    changed form d e was slots slot pool (λ s is. subst (λ (x : ShownSlot). AreTold (map bare d.slots ++ x ∷ [])) (sym (same s)) (kept d s was is))
    (owned_still form d was (λ s is. ap (λ (x : ShownSlot). ds x.devices) (same s))) placed

-- `SLOT p`
fault_then : (p : ℕ) (o : Option ShownSlotDraft) → slot_fault p o ≡ None → slot_fault p (option_map (tells (ASlot p)) o) ≡ None
fault_then p None none = none
fault_then p (Some s) none = none

-- `STORE n`
new_is_slot : (p n : ℕ) → p ≤ 3 → 32 ≤ n → n ≤ most_words → n % 32 ≡ 0 → IsSlot (slot_of (new_slot p n))
new_is_slot p n few least most groups =
    record {
      number = omega arith;
      least = least;
      most = most;
      groups = groups;
      deck = omega arith;
      devices = λ k d lt. absurd (omega arith);
      shows = λ k d lt. absurd (omega arith);
      lent = λ k d lt. absurd (omega arith);
    }

begins : (d : ShownDraft) (o : Option ShownSlotDraft) (p n : ℕ) → d.slot ≡ o → IsRead d → p ≤ 3 → slot_fault p d.slot ≡ None → 32 ≤ n → n ≤ most_words
    → n % 32 ≡ 0
    → words_in (slots_told d) + n ≤ most_words_together → AreTold (bares d ++ slot_of (new_slot p n) ∷ [])
begins d None p n is was few above least most groups room =
    let none : d.slots ≡ [] = rw is at was.begun in
    rw (is, none) (slots_first (slot_of (new_slot p n)) (new_is_slot p n few least most groups) refl)
begins d (Some s) p n is was few above least most groups room =
    let after : bares d ≡ map bare d.slots ++ bare (slot_of s) ∷ [] = last_is d s is in
    let lt : s.p < p = let h : slot_fault p (Some s) ≡ None = rw is at above in grind (arith, nat_tests) in
    let same : words_in (map bare d.slots ++ bare (slot_of s) ∷ []) ≡ words_in (slots_told d) = ap words_in (sym after) ∙ words_bare (slots_told d) in
    rw after (slots_more (map bare d.slots) (bare (slot_of s)) (slot_of (new_slot p n)) (kept d s was is) lt (new_is_slot p n few least most groups) refl
    (omega arith))

groups_told : (n : ℕ) (slots : List ShownSlot) → store_fault n slots ≡ None → n % 32 ≡ 0
groups_told n slots free = grind (arith, nat_tests)

room_told : (n : ℕ) (slots : List ShownSlot) → store_fault n slots ≡ None → words_in slots + n ≤ most_words_together
room_told n slots free = grind (arith, nat_tests)

stored : (d : ShownDraft) (p n : ℕ) → d.place ≡ BehindSlot p → IsRead d → 32 ≤ n → n ≤ most_words → store_fault n (slots_told d) ≡ None
    → IsRead (with_line (AStore n) d)
stored d p n place was least most free =
    let placed : IsAt (BehindSlot p) d.slot = subst (λ (x : LinePlace). IsAt x d.slot) place was.placed in
    let slots = begins d d.slot p n refl was placed.0 placed.1 least most (groups_told n (slots_told d) free) (room_told n (slots_told d) free) in
    let new = slot_of (new_slot (number_at d.place) n) in
    record {
      slots =
          subst AreTold
          (sym (with_last (slots_told d) (new_slot (number_at d.place) n) ∙ ap (λ (x : LinePlace). bares d ++ slot_of (new_slot (number_at x) n) ∷ []) place))
          slots;
      lent = was.lent;
      owned =
          subst (λ (ns : List ℕ). IsDistinct nat_eq (ns ++ pool_numbers d.pool))
          (sym (numbers_last (slots_told d) new ∙ append-nil (numbers_of (slots_told d)))) was.owned;
      begun = tt;
      placed = tt;
    }

-- `SERVICE`
service_then : (d : ShownDraft) (s : ShownSlotDraft) → IsRead d → d.slot ≡ Some s → AreTold (map bare d.slots ++ bare (slot_of (tells AService s)) ∷ [])
service_then d s was is =
    let front = map bare d.slots in
    let old = bare (slot_of s) in
    let new = bare (slot_of (tells AService s)) in
    let are = kept d s was is in
    let this = all_last IsSlot front old are.each in
    slots_changed front old new are refl refl
    (record {
      number = this.number;
      least = this.least;
      most = this.most;
      groups = this.groups;
      deck = this.deck;
      devices = this.devices;
      shows = this.shows;
      lent = this.lent;
    })
    (subst (IsDistinct nat_eq) (sym (numbers_same front old new refl)) are.apart)

-- `DEVICE d k`
device_free : (n : ℕ) (kind : Kind) (label : List ℕ) (d : ShownDraft) → device_fault n kind label d ≡ None → list_any (nat_eq n) (numbers_told d) ≡ false
device_free n kind label d h = grind arith

free_of_slots : (n : ℕ) (kind : Kind) (label : List ℕ) (d : ShownDraft) → device_fault n kind label d ≡ None
    → list_any (nat_eq n) (numbers_of (slots_told d)) ≡ false
free_of_slots n kind label d h =
    neither (list_any (nat_eq n) (numbers_of (slots_told d))) (list_any (nat_eq n) (pool_numbers d.pool))
    (sym (list_any-append (nat_eq n) (numbers_of (slots_told d)) (pool_numbers d.pool)) ∙ device_free n kind label d h)

more_devices : (n : ℕ) (kind : Kind) (label : List ℕ) (s : ShownSlotDraft) → ds (all_devices (tells (ADevice n kind label) s)) ≡ ds (all_devices s) ++ n ∷ []
more_devices n kind label s = map-append (λ (x : JobDevice). x.d) (all_devices s) (new_device n kind (word_of_text label) ∷ [])

device_owned : (n : ℕ) (kind : Kind) (label : List ℕ) (d : ShownDraft) (o : Option ShownSlotDraft) → d.slot ≡ o → IsRead d → device_fault n kind label d ≡ None
    → IsDistinct nat_eq (numbers_of (d.slots ++ option_to_list (option_map slot_of (option_map (tells (ADevice n kind label)) o))) ++ pool_numbers d.pool)
device_owned n kind label d None is was free =
    subst (λ (o : Option ShownSlotDraft). IsDistinct nat_eq (numbers_of (d.slots ++ option_to_list (option_map slot_of o)) ++ pool_numbers d.pool)) is was.owned
device_owned n kind label d (Some s) is was free =
    let told : slots_told d ≡ d.slots ++ slot_of s ∷ [] = ap (λ (o : Option ShownSlotDraft). d.slots ++ option_to_list (option_map slot_of o)) is in
    let numbers = numbers_more d.slots (slot_of s) (slot_of (tells (ADevice n kind label) s)) n (more_devices n kind label s) in
    let owned : IsDistinct nat_eq (numbers_of (d.slots ++ slot_of s ∷ []) ++ pool_numbers d.pool) =
    subst (λ (ss : List ShownSlot). IsDistinct nat_eq (numbers_of ss ++ pool_numbers d.pool)) told was.owned in
    let new : list_any (nat_eq n) (numbers_of (d.slots ++ slot_of s ∷ []) ++ pool_numbers d.pool) ≡ false =
    subst (λ (ss : List ShownSlot). list_any (nat_eq n) (numbers_of ss ++ pool_numbers d.pool) ≡ false) told (device_free n kind label d free) in
    subst (λ (ns : List ℕ). IsDistinct nat_eq (ns ++ pool_numbers d.pool)) (sym numbers)
    (apart_inside (numbers_of (d.slots ++ slot_of s ∷ [])) (pool_numbers d.pool) n owned new)

device_then : (n : ℕ) (kind : Kind) (label : List ℕ) (d : ShownDraft) (s : ShownSlotDraft) → IsRead d → d.slot ≡ Some s → n ≤ 15
    → device_fault n kind label d ≡ None
    → AreTold (map bare d.slots ++ bare (slot_of (tells (ADevice n kind label) s)) ∷ [])
device_then n kind label d s was is few free =
    let front = map bare d.slots in
    let old = bare (slot_of s) in
    let new = bare (slot_of (tells (ADevice n kind label) s)) in
    let are = kept d s was is in
    let this = all_last IsSlot front old are.each in
    let more : ds new.devices ≡ ds old.devices ++ n ∷ [] = more_devices n kind label s in
    let same : numbers_of (front ++ old ∷ []) ≡ numbers_of (slots_told d) = ap numbers_of (sym (last_is d s is)) ∙ numbers_bare (slots_told d) in
    let other : list_any (nat_eq n) (numbers_of (front ++ old ∷ [])) ≡ false = ap (λ (ns : List ℕ). list_any (nat_eq n) ns) same
    ∙ free_of_slots n kind label d free in
    let numbers = numbers_more front old new n more in
    slots_changed front old new are refl refl
    (record {
      number = this.number;
      least = this.least;
      most = this.most;
      groups = this.groups;
      deck = this.deck;
      devices = subst (All (λ (x : ℕ). x < 16)) (sym more) (All-push (λ (x : ℕ). x < 16) (ds old.devices) n this.devices (omega arith));
      shows = this.shows;
      lent = this.lent;
    })
    (subst (IsDistinct nat_eq) (sym numbers) (apart_more (numbers_of (front ++ old ∷ [])) n are.apart other))

-- a line of a medium leaves the number of its device
added_number : (kind : Kind) (marked : Bool) (codes : List ℕ) (x : JobDevice) → (added kind marked codes x).d ≡ x.d
added_number Tr marked codes x = refl
added_number Tp marked codes x = refl
added_number Cr marked codes x = refl
added_number Lp marked codes x = refl
added_number Mt marked codes x = refl

chosen_number : (may : Bool) (x y z : JobDevice) → y.d ≡ x.d → cond may (Some y) None ≡ Some z → z.d ≡ x.d
chosen_number true x y z same e = let is : y ≡ z = cc in subst (λ (w : JobDevice). w.d ≡ x.d) is same
chosen_number false x y z same e = absurd cc

codes_number : (marked : Bool) (o : Option (List ℕ)) (x y : JobDevice) → with_codes marked o x ≡ Some y → y.d ≡ x.d
codes_number marked None x y e = absurd cc
codes_number marked (Some codes) x y e =
    chosen_number (fits x.fixture.kind marked (length codes)) x (added x.fixture.kind marked codes x) y (added_number x.fixture.kind marked codes x) e

found_numbers : (front : List JobDevice) (x : JobDevice) (o : Option JobDevice) → ((y : JobDevice) → o ≡ Some y → y.d ≡ x.d) → is_none o ≡ false
    → ds (front ++ option_to_list o) ≡ ds (front ++ x ∷ [])
found_numbers front x None same some = absurd cc
found_numbers front x (Some y) same some =
    map-append (λ (z : JobDevice). z.d) front (y ∷ []) ∙ ap (λ (n : ℕ). ds front ++ n ∷ []) (same y refl)
    ∙ sym (map-append (λ (z : JobDevice). z.d) front (x ∷ []))

medium_numbers : (marked : Bool) (text : List ℕ) (front : List JobDevice) (o : Option JobDevice) → is_none (with_line_of_medium marked text o) ≡ false
    → ds (front ++ option_to_list (with_line_of_medium marked text o)) ≡ ds (front ++ option_to_list o)
medium_numbers marked text front None some = absurd cc
medium_numbers marked text front (Some x) some = found_numbers front x (with_medium marked text x) (λ y e. codes_number marked (codes_in text) x y e) some

is_medium : (b : Bool) → cond b (Some BadMedium) None ≡ None → b ≡ false
is_medium true h = absurd cc
is_medium false h = refl

medium_same : (marked : Bool) (text : List ℕ) (o : Option ShownSlotDraft) (s : ShownSlotDraft) → o ≡ Some s → medium_fault marked text o ≡ None
    → ds (all_devices (tells (AMedium marked text) s)) ≡ ds (all_devices s)
medium_same marked text o s is free =
    let some : is_none (with_line_of_medium marked text s.device) ≡ false = is_medium _ (rw is at free) in
    medium_numbers marked text s.devices s.device some

medium_then : (marked : Bool) (text : List ℕ) (d : ShownDraft) (s : ShownSlotDraft) → IsRead d → d.slot ≡ Some s → medium_fault marked text d.slot ≡ None
    → AreTold (map bare d.slots ++ bare (slot_of (tells (AMedium marked text) s)) ∷ [])
medium_then marked text d s was is free =
    let front = map bare d.slots in
    let old = bare (slot_of s) in
    let new = bare (slot_of (tells (AMedium marked text) s)) in
    let are = kept d s was is in
    let this = all_last IsSlot front old are.each in
    let same : ds new.devices ≡ ds old.devices = medium_same marked text d.slot s is free in
    slots_changed front old new are refl refl
    (record {
      number = this.number;
      least = this.least;
      most = this.most;
      groups = this.groups;
      deck = this.deck;
      devices = subst (All (λ (x : ℕ). x < 16)) (sym same) this.devices;
      shows = this.shows;
      lent = this.lent;
    })
    (subst (IsDistinct nat_eq) (sym (numbers_same front old new same)) are.apart)

-- a device of the pool
lent_then : (n : ℕ) (kind : Kind) (label : List ℕ) (d : ShownDraft) → IsRead d → n ≤ 15 → pool_fault n kind label d ≡ None
    → IsRead (with_line (APoolDevice n kind label) d)
lent_then n kind label d was few free =
    let form = APoolDevice n kind label in
    let right = after_free (list_any (nat_eq n) (numbers_told d)) (lent_fault kind label) free in
    let numbers = numbers_of (slots_told d) in
    let more : numbers_told d ++ n ∷ [] ≡ numbers_told (with_line form d) =
    append_assoc numbers (pool_numbers d.pool) (n ∷ [])
    ∙ ap (λ (ns : List ℕ). numbers ++ ns) (sym (map-append (λ (x : ℕ × Kind). x.0) d.pool ((n, kind) ∷ [])))
    ∙ ap (λ (ns : List ℕ). ns ++ pool_numbers (d.pool ++ (n, kind) ∷ [])) (sym (same_numbers form d.slots d.slot (λ s is. refl))) in
    record {
      slots = slots_then form d d.slot refl was (λ s is. kept d s was is);
      lent = All-push (λ (x : ℕ × Kind). IsLent x) d.pool (n, kind) was.lent (omega arith, a_writer kind label right.1);
      owned = subst (IsDistinct nat_eq) more (apart_more (numbers_told d) n was.owned right.0);
      begun = begun_then form d.slots d.slot was.begun;
      placed = tt;
    }

-- ---- a line more

with_form : (form : Form) (d : ShownDraft) → IsRead d → IsInRange form → (is_store form ≡ true → (p : ℕ) × (d.place ≡ BehindSlot p)) → fault_of form d ≡ None
    → IsRead (with_line form d)
with_form AHeader d was range at free = unchanged AHeader d (with_line AHeader d) was refl refl refl (λ s. refl) tt
with_form (ASlot p) d was range at free =
    unchanged (ASlot p) d (with_line (ASlot p) d) was refl refl refl (λ s. refl) (range, fault_then p d.slot free)
with_form (AStore n) d was range at free = let there = at refl in stored d there.0 n there.1 was range.0 range.1 free
with_form ADeck d was range at free = unchanged ADeck d (with_line ADeck d) was refl refl refl (λ s. refl) tt
with_form (ADeckLine line) d was range at free = unchanged (ADeckLine line) d (with_line (ADeckLine line) d) was refl refl refl (λ s. refl) tt
with_form AnEndDeck d was range at free = unchanged AnEndDeck d (with_line AnEndDeck d) was refl refl refl (λ s. refl) tt
with_form AService d was range at free =
    changed AService d (with_line AService d) was refl refl refl (λ s is. service_then d s was is) (owned_still AService d was (λ s is. refl)) tt
with_form (ADevice n kind label) d was range at free =
    changed (ADevice n kind label) d (with_line (ADevice n kind label) d) was refl refl refl (λ s is. device_then n kind label d s was is range free)
    (device_owned n kind label d d.slot refl was free) tt
with_form (AMedium marked text) d was range at free =
    changed (AMedium marked text) d (with_line (AMedium marked text) d) was refl refl refl (λ s is. medium_then marked text d s was is free)
    (owned_still (AMedium marked text) d was (λ s is. medium_same marked text d.slot s is free)) tt
with_form (AShow a b) d was range at free = unchanged (AShow a b) d (with_line (AShow a b) d) was refl refl refl (λ s. refl) tt
with_form APool d was range at free = unchanged APool d (with_line APool d) was refl refl refl (λ s. refl) tt
with_form (APoolDevice n kind label) d was range at free = lent_then n kind label d was range free
with_form ASchedule d was range at free = unchanged ASchedule d (with_line ASchedule d) was refl refl refl (λ s. refl) tt
with_form (AnEvent what) d was range at free = unchanged (AnEvent what) d (with_line (AnEvent what) d) was refl refl refl (λ s. refl) tt
with_form AnEndJob d was range at free = unchanged AnEndJob d (with_line AnEndJob d) was refl refl refl (λ s. refl) tt

range_at : (place : LinePlace) (form : Form) → IsToldAt place form → IsInRange form
range_at First form h = h.0
range_at BehindHeader form h = h.0
range_at (BehindSlot p) form h = h
range_at BehindStore form h = h.0
range_at InDeck form h = h.0
range_at BehindDeck form h = h.0
range_at BehindService form h = h.0
range_at BehindDevice form h = h.0
range_at BehindShow form h = h.0
range_at BehindPool form h = h.0
range_at InSchedule form h = h.0
range_at BehindEnd form h = h.0

store_at : (place : LinePlace) (form : Form) → IsToldAt place form → is_store form ≡ true → (p : ℕ) × (place ≡ BehindSlot p)
store_at First form h is = absurd cc
store_at BehindHeader form h is = absurd cc
store_at (BehindSlot p) form h is = (p, refl)
store_at BehindStore form h is = absurd cc
store_at InDeck form h is = absurd cc
store_at BehindDeck form h is = absurd cc
store_at BehindService form h is = absurd cc
store_at BehindDevice form h is = absurd cc
store_at BehindShow form h is = absurd cc
store_at BehindPool form h is = absurd cc
store_at InSchedule form h is = absurd cc
store_at BehindEnd form h is = absurd cc

with_fault : (form : Form) (d e : ShownDraft) (o : Option JobFault) → fault_of form d ≡ o → IsRead d → IsToldAt d.place form → or_fault form d o ≡ Ok e
    → IsRead e
with_fault form d e None free was at is =
    let same : with_line form d ≡ e = cc in
    subst IsRead same (with_form form d was (range_at d.place form at) (store_at d.place form at) free)
with_fault form d e (Some fault) free was at is = absurd cc

with_told_form : (d e : ShownDraft) (line : List ℕ) (r : Result Form JobFault) → told_at d.place line ≡ r → IsRead d → with_told d r ≡ Ok e → IsRead e
with_told_form d e line (Err fault) tells_so was is = absurd cc
with_told_form d e line (Ok form) tells_so was is = with_fault form d e (fault_of form d) refl was (told_form d.place line form tells_so) is

line_read : (d e : ShownDraft) (line : List ℕ) → IsRead d → read_line d line ≡ Ok e → IsRead e
unfolding read_line
line_read d e line was is = with_told_form d e line (told_at d.place line) refl was is

behind : (n : ℕ) (d : ShownDraft) (rest : List (List ℕ)) (r : Result ShownDraft JobFault)
    → ((e : ShownDraft) → r ≡ Ok e → fault_from (n + 1) e rest ≡ None → IsRead (draft_of e rest))
    → behind_line n r (λ e. fault_from (n + 1) e rest) ≡ None → IsRead (draft_of (or_same d r) rest)
behind n d rest (Err fault) then free = absurd cc
behind n d rest (Ok e) then free = then e refl free

lines_read : (n : ℕ) (d : ShownDraft) (ls : List (List ℕ)) → IsRead d → fault_from n d ls ≡ None → IsRead (draft_of d ls)
lines_read n d [] was free = was
lines_read n d (line ∷ rest) was free =
    behind n d rest (read_line d line) (λ e is clear. lines_read (n + 1) e rest (line_read d e line was is) clear) free

blank_read : IsRead blank
blank_read = record { slots = blank_sound.slots; lent = blank_sound.lent; owned = blank_sound.owned; begun = refl; placed = tt }

-- the slots of a job without a fault, each with the pool
pub faultless : (bytes : List ℕ) → job_fault bytes ≡ None → AreSlots (map bare (job bytes).slots)
unfolding job_fault job
faultless bytes free =
    let d = draft_of blank (lines bytes) in
    let read = lines_read 1 blank (lines bytes) blank_read free in
    let owned : IsDistinct nat_eq (numbers_of (bares d) ++ pool_numbers d.pool) =
    subst (λ (ns : List ℕ). IsDistinct nat_eq (ns ++ pool_numbers d.pool)) (sym (numbers_bare (slots_told d))) read.owned in
    subst AreSlots (sym (bare_pool d.pool (slots_told d))) (are_slots d.pool (bares d) read.slots read.lent owned)
