-- What is kept stays true with each line more.
use Rattle.std.proofs.Common.{◌≡◌, ℕ, ◌+◌, ◌<◌, ◌≤◌, ◌%◌, false, List, [], ◌∷◌, ◌++◌, length, Option, Some, None, refl, sym, ap, subst, ◌∙◌, arith, append-nil}
use Rattle.std.proofs.Common.{length-append}
use Rattle.std.specs.Prelude.{nat_eq}
use Rattle.std.specs.List.{All, IsDistinct, list_any}
use Rattle.std.proofs.lemmas.Bool.Decides.{nat_tests}
use Rattle.std.proofs.Math.Seq.{get_or-append_seam}
use Rattle.kdf_journal.specs.declared.kind.Kind.{Kind}
use Rattle.kdf_job.specs.declared.line_place.LinePlace.{LinePlace}
use Rattle.kdf_job.specs.declared.line_place.LinePlace.TheVariants.{BehindPool, InSchedule, BehindEnd}
use Rattle.kdf_job.specs.Job.{ShownSlot}
use Rattle.kdf_job.specs.Draft.{ShownSlotDraft, ShownDraft, all_devices, new_slot, pool_numbers, numbers_of, numbers_told, slot_fault, slot_of, slots_told}
use Rattle.kdf_job.specs.Draft.{words_in}
use Rattle.kdf_job.specs.Kept.{AreTold, IsBegun, IsKept, IsPlaced, IsUntold}
use Rattle.kdf_job.specs.WellFormed.{IsLent, IsSchedule, IsSlot}
use Rattle.kdf_job.proofs.Slots.{apart_more, ds, numbers_last, numbers_more, numbers_same, slots_changed, slots_first, slots_more, words_last}
use Rattle.kdf_job.specs.Limits.{most_words, most_words_together}

-- while the pool is empty
pub told_alone : (d : ShownDraft) → d.pool ≡ [] → numbers_told d ≡ numbers_of (slots_told d)
told_alone d none = ap (λ (pool : List (ℕ × Kind)). numbers_of (slots_told d) ++ pool_numbers pool) none ∙ append-nil (numbers_of (slots_told d))

none_untold : (place : LinePlace) (pool : List (ℕ × Kind)) → pool ≡ [] → IsUntold place pool
none_untold BehindPool pool none = tt {0}
none_untold InSchedule pool none = tt {0}
none_untold BehindEnd pool none = tt {0}
none_untold place pool none = none

none_lent : (pool : List (ℕ × Kind)) → pool ≡ [] → All (λ (x : ℕ × Kind). IsLent x) pool
none_lent pool none = subst (λ (xs : List (ℕ × Kind)). All (λ (x : ℕ × Kind). IsLent x) xs) (sym none) (λ k d lt. absurd (omega arith))

none_owned : (d : ShownDraft) → d.pool ≡ [] → AreTold (slots_told d) → IsDistinct nat_eq (numbers_told d)
none_owned d none told = subst (IsDistinct nat_eq) (sym (told_alone d none)) told.apart

-- the slot in which the line stands is another, with the same devices
pub slot_told : (words : ℕ) (numbers : List ℕ) (d e : ShownDraft) (s t : ShownSlotDraft) → IsKept words numbers d → d.pool ≡ [] → e.pool ≡ []
    → e.slots ≡ d.slots
    → d.slot ≡ Some s → e.slot ≡ Some t → e.events ≡ d.events
    → t.p ≡ s.p → t.size ≡ s.size → ds (all_devices t) ≡ ds (all_devices s) → IsSlot (slot_of t) → IsPlaced e.place e.slot → IsKept words numbers e
slot_told words numbers d e s t was none still slots old new events p size same slot placed =
    let before : slots_told d ≡ d.slots ++ slot_of s ∷ [] = rw old refl in
    let after : slots_told e ≡ d.slots ++ slot_of t ∷ [] = rw (slots, new) refl in
    let sound : AreTold (d.slots ++ slot_of s ∷ []) = subst AreTold before was.slots in
    let ns : numbers_of (d.slots ++ slot_of t ∷ []) ≡ numbers_of (d.slots ++ slot_of s ∷ []) = numbers_same d.slots (slot_of s) (slot_of t) same in
    let told : AreTold (slots_told e) = subst AreTold (sym after)
    (slots_changed d.slots (slot_of s) (slot_of t) sound p size slot (subst (IsDistinct nat_eq) (sym ns) sound.apart)) in
    record {
      sum = was.sum ∙ ap words_in before ∙ words_last d.slots (slot_of s) ∙ ap (λ (n : ℕ). words_in d.slots + n) (sym size)
          ∙ sym (words_last d.slots (slot_of t)) ∙ ap words_in (sym after);
      all = was.all ∙ told_alone d none ∙ ap numbers_of before ∙ sym ns ∙ ap numbers_of (sym after) ∙ sym (told_alone e still);
      slots = told;
      lent = none_lent e.pool still;
      owned = none_owned e still told;
      schedule = subst IsSchedule (sym events) was.schedule;
      begun = rw new (tt {0});
      placed = placed;
      untold = none_untold e.place e.pool still;
    }

-- and with a device more
pub device_told : (words n : ℕ) (numbers : List ℕ) (d e : ShownDraft) (s t : ShownSlotDraft) → IsKept words numbers d → d.pool ≡ [] → e.pool ≡ []
    → e.slots ≡ d.slots
    → d.slot ≡ Some s → e.slot ≡ Some t → e.events ≡ d.events
    → t.p ≡ s.p → t.size ≡ s.size → ds (all_devices t) ≡ ds (all_devices s) ++ n ∷ [] → list_any (nat_eq n) (numbers_of (slots_told d)) ≡ false
    → IsSlot (slot_of t) → IsPlaced e.place e.slot
    → IsKept words (numbers ++ n ∷ []) e
device_told words n numbers d e s t was none still slots old new events p size more free slot placed =
    let before : slots_told d ≡ d.slots ++ slot_of s ∷ [] = rw old refl in
    let after : slots_told e ≡ d.slots ++ slot_of t ∷ [] = rw (slots, new) refl in
    let sound : AreTold (d.slots ++ slot_of s ∷ []) = subst AreTold before was.slots in
    let ns : numbers_of (d.slots ++ slot_of t ∷ []) ≡ numbers_of (d.slots ++ slot_of s ∷ []) ++ n ∷ [] = numbers_more d.slots (slot_of s) (slot_of t) n more in
    let open_ : list_any (nat_eq n) (numbers_of (d.slots ++ slot_of s ∷ [])) ≡ false =
    subst (λ (xs : List ShownSlot). list_any (nat_eq n) (numbers_of xs) ≡ false) before free in
    let told : AreTold (slots_told e) =
    subst AreTold (sym after) (slots_changed d.slots (slot_of s) (slot_of t) sound p size slot
    (subst (IsDistinct nat_eq) (sym ns) (apart_more _ n sound.apart open_))) in
    record {
      sum = was.sum ∙ ap words_in before ∙ words_last d.slots (slot_of s) ∙ ap (λ (m : ℕ). words_in d.slots + m) (sym size)
          ∙ sym (words_last d.slots (slot_of t)) ∙ ap words_in (sym after);
      all = ap (λ (xs : List ℕ). xs ++ n ∷ []) (was.all ∙ told_alone d none ∙ ap numbers_of before) ∙ sym ns ∙ ap numbers_of (sym after)
          ∙ sym (told_alone e still);
      slots = told;
      lent = none_lent e.pool still;
      owned = none_owned e still told;
      schedule = subst IsSchedule (sym events) was.schedule;
      begun = rw new (tt {0});
      placed = placed;
      untold = none_untold e.place e.pool still;
    }

-- a slot begins
new_is_slot : (p n : ℕ) → p ≤ 3 → 32 ≤ n → n ≤ most_words → n % 32 ≡ 0 → IsSlot (slot_of (new_slot p n))
new_is_slot p n few least most groups = record {
  number = omega arith;
  least = least;
  most = most;
  groups = groups;
  deck = omega arith;
  devices = λ k d lt. absurd (omega arith);
  shows = λ k d lt. absurd (omega arith);
  lent = λ k d lt. absurd (omega arith);
}

begun_slots : (d : ShownDraft) (slot : Option ShownSlotDraft) (p n : ℕ) → d.slot ≡ slot → AreTold (slots_told d) → IsBegun d.slots d.slot
    → slot_fault p d.slot ≡ None
    → p ≤ 3 → 32 ≤ n → n ≤ most_words
    → n % 32 ≡ 0 → words_in (slots_told d) + n ≤ most_words_together → AreTold (slots_told d ++ slot_of (new_slot p n) ∷ [])
begun_slots d None p n is was begun above few least most groups fits =
    let none : d.slots ≡ [] = rw is at begun in
    rw (is, none) (slots_first (slot_of (new_slot p n)) (new_is_slot p n few least most groups) refl)
begun_slots d (Some s) p n is was begun above few least most groups fits =
    let after : slots_told d ≡ d.slots ++ slot_of s ∷ [] = rw is refl in
    let lt : s.p < p = let h : slot_fault p (Some s) ≡ None = rw is at above in grind (arith, nat_tests) in
    rw after (slots_more d.slots (slot_of s) (slot_of (new_slot p n)) (subst AreTold after was) lt (new_is_slot p n few least most groups) refl
    (rw after at fits))

pub store_told : (words p n : ℕ) (numbers : List ℕ) (d e : ShownDraft) → IsKept words numbers d → d.pool ≡ [] → e.pool ≡ [] → e.slots ≡ slots_told d
    → e.slot ≡ Some (new_slot p n) → e.events ≡ d.events → slot_fault p d.slot ≡ None
    → p ≤ 3 → 32 ≤ n → n ≤ most_words → n % 32 ≡ 0 → words + n ≤ most_words_together → IsPlaced e.place e.slot → IsKept (words + n) numbers e
store_told words p n numbers d e was none still slots new events above few least most groups fits placed =
    let after : slots_told e ≡ slots_told d ++ slot_of (new_slot p n) ∷ [] = rw (slots, new) refl in
    let room : words_in (slots_told d) + n ≤ most_words_together = let w = was.sum in omega arith in
    let told : AreTold (slots_told e) = subst AreTold (sym after) (begun_slots d d.slot p n refl was.slots was.begun above few least most groups room) in
    record {
      sum = ap (λ (m : ℕ). m + n) was.sum ∙ sym (words_last (slots_told d) (slot_of (new_slot p n))) ∙ ap words_in (sym after);
      all = was.all ∙ told_alone d none ∙ sym (append-nil (numbers_of (slots_told d))) ∙ sym (numbers_last (slots_told d) (slot_of (new_slot p n)))
          ∙ ap numbers_of (sym after) ∙ sym (told_alone e still);
      slots = told;
      lent = none_lent e.pool still;
      owned = none_owned e still told;
      schedule = subst IsSchedule (sym events) was.schedule;
      begun = rw new (tt {0});
      placed = placed;
      untold = none_untold e.place e.pool still;
    }

-- the slot in which the line stands
pub current_slot : (words : ℕ) (numbers : List ℕ) (d : ShownDraft) (s : ShownSlotDraft) → IsKept words numbers d → d.slot ≡ Some s → IsSlot (slot_of s)
current_slot words numbers d s was is =
    let before : slots_told d ≡ d.slots ++ slot_of s ∷ [] = rw is refl in
    all_last IsSlot d.slots (slot_of s) (subst AreTold before was.slots).each
  where
    all_last : {X : Type 0} (P : X → Type 0) (xs : List X) (x : X) → All P (xs ++ x ∷ []) → P x
    all_last P xs x all = subst P (get_or-append_seam xs x [] x) (all (length xs) x (let n = length-append xs (x ∷ []) in omega arith))
