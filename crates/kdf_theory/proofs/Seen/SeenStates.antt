-- What is seen agrees with the lone state in all that is not pending.
use Rattle.std.proofs.Common.{◌≡◌, ℕ, zero, suc, ◌/◌, ◌<◌, ◌≤◌, true, false, List, [], ◌∷◌, length, drop, Bool, Option, Some, None, is_some, cond, refl, sym}
use Rattle.std.proofs.Common.{ap, ◌∙◌, ⊎_elim, arith}
use Rattle.std.specs.List.{list_any}
use Rattle.std.proofs.lemmas.Bool.{or_parts, and_from, cases_Bool, cases_lt, false≢true, le-leb}
use Rattle.std.proofs.lemmas.List.{ext_get_or, get_or_past}
use Rattle.std.proofs.lemmas.List.FromFn.{length-map-range_with_len, get_or-map-range_with_len}
use Rattle.kdf_transfer.specs.Devices.{DeviceProgress, new_progress}
use Rattle.kdf_journal.specs.declared.need.Need.TheVariants.{Group, Device}
use Rattle.kdf_processor.specs.Effect.{Question, Effect}
use Rattle.kdf_processor.specs.Frame.{Agrees, Leaves, HidesNone}
use Rattle.kdf_processor.specs.Needs.{group_of, effect_needs}
use Rattle.kdf_processor.specs.Row.{perform}
use Rattle.kdf_processor.specs.State.{State, word_at, device_at}
use Rattle.kdf_processor.proofs.FrameLemmas.{perform_agree, perform_leaves}
use Rattle.kdf_transfer.specs.ByNumber.{device_count}
use Rattle.kdf_theory.specs.Flights.{Flight, touches}
use Rattle.kdf_theory.specs.Seen.{covers, word_before, seen_word, seen_device, seen, touched_below, pending_in_flight}
use Rattle.kdf_theory.proofs.Seen.WholeTransfers.{arrivals_outside}

-- ---- states

-- what is never hidden is the same
pub record SameRest (s t : State) : Type 0 where
  pub registers : s.registers ≡ t.registers
  pub claims : s.stock.claims ≡ t.stock.claims
  pub spooled : s.stock.spooled ≡ t.stock.spooled
  pub asked : s.stock.asked ≡ t.stock.asked
  pub stints : s.stock.stints ≡ t.stock.stints

-- states are equal if their parts are
state_path : (s t : State) → SameRest s t → s.stock.store ≡ t.stock.store → s.stock.devices ≡ t.stock.devices → s ≡ t
state_path s t h w d = λ i. record {
  registers = h.registers i;
  stock =
      record { claims = h.claims i; spooled = h.spooled i; asked = h.asked i; stints = h.stints i; store = w i; devices = d i };
}

-- states of one size are equal whose words agree, as far as they have words, and whose devices do
pub same_states : (s t : State) → SameRest s t → length s.stock.store ≡ length t.stock.store → length s.stock.devices ≡ length t.stock.devices
    → ((a : ℕ) → a < length s.stock.store → word_at s a ≡ word_at t a) → ((d : ℕ) → d < length s.stock.devices → device_at s d ≡ device_at t d) → s ≡ t
same_states s t rest size number words devices =
    state_path s t rest (ext_get_or 0 s.stock.store t.stock.store size words) (ext_get_or new_progress s.stock.devices t.stock.devices number devices)

-- ---- the parts of what is seen

pub seen_word_at : (flights : ℕ → Option Flight) (s : State) (a : ℕ) → a < length s.stock.store
    → word_at (seen flights s) a ≡ seen_word device_count flights a (word_at s a)
seen_word_at flights s a lt = get_or-map-range_with_len (λ x. seen_word device_count flights x (word_at s x)) 0 (length s.stock.store) a a 0 lt (omega arith)

pub seen_device_at : (flights : ℕ → Option Flight) (s : State) (d : ℕ) → d < length s.stock.devices
    → device_at (seen flights s) d ≡ seen_device (flights d) d (device_at s d)
seen_device_at flights s d lt = get_or-map-range_with_len (λ x. seen_device (flights x) x (device_at s x)) 0 (length s.stock.devices) d d new_progress lt
    (omega arith)

pub seen_size : (flights : ℕ → Option Flight) (s : State) → length (seen flights s).stock.store ≡ length s.stock.store
seen_size flights s = length-map-range_with_len (λ x. seen_word device_count flights x (word_at s x)) 0 (length s.stock.store)

pub seen_number : (flights : ℕ → Option Flight) (s : State) → length (seen flights s).stock.devices ≡ length s.stock.devices
seen_number flights s = length-map-range_with_len (λ x. seen_device (flights x) x (device_at s x)) 0 (length s.stock.devices)

-- some of a list's rest is some of the list
any_drop : {X : Type 0} (p : X → Bool) (n : ℕ) (xs : List X) → list_any p xs ≡ false → list_any p (drop n xs) ≡ false
any_drop p zero xs none = none
any_drop p (suc n) [] none = refl
any_drop p (suc n) (x ∷ xs) none = any_drop p n xs (or_parts _ _ none).1

-- a transfer covers words of the groups alone that it touches
pub covers_touches : (d : ℕ) (f : Option Flight) (a : ℕ) → touches f (group_of a) ≡ false → covers d f a ≡ false
covers_touches d None a free = refl
covers_touches d (Some f) a free =
    any_drop _ f.moved _
    (arrivals_outside d f a
    (λ has low high.
    let from : f.first / 32 ≤ a / 32 = omega arith in
    let to : a / 32 ≤ f.last / 32 = omega arith in
    false≢true (sym free ∙ and_from _ _ has (and_from _ _ (le-leb _ _ from) (le-leb _ _ to)))))

-- a word that no transfer covers is seen as it is
pub seen_apart : (n : ℕ) (flights : ℕ → Option Flight) (a w : ℕ) → touched_below n flights (group_of a) ≡ false → seen_word n flights a w ≡ w
seen_apart zero flights a w free = refl
seen_apart (suc n) flights a w free =
    let parts = or_parts _ _ free in
    rw (covers_touches n (flights n) a parts.0) (seen_apart n flights a w parts.1)

idle_device : (f : Option Flight) (d : ℕ) (p : DeviceProgress) → is_some f ≡ false → seen_device f d p ≡ p
idle_device None d p free = refl
idle_device (Some f) d p free = cc

-- what is seen agrees with the lone state in all but what is pending
pub seen_agrees : (flights : ℕ → Option Flight) (s : State) → Agrees (pending_in_flight flights) s (seen flights s)
seen_agrees flights s =
    record {
      registers = refl;
      claims = refl;
      spooled = refl;
      asked = refl;
      stints = refl;
      size = sym (seen_size flights s);
      number = sym (seen_number flights s);
      words = λ a free.
          ⊎_elim
          (λ (lt : a < length s.stock.store). sym (seen_word_at flights s a lt ∙ seen_apart device_count flights a (word_at s a) free))
          (λ (past : length s.stock.store ≤ a). get_or_past s.stock.store a 0 past ∙ sym (get_or_past (seen flights s).stock.store a 0 (rw seen_size past)))
          (cases_lt a (length s.stock.store));
      devices = λ d free.
          ⊎_elim
          (λ (lt : d < length s.stock.devices). sym (seen_device_at flights s d lt ∙ idle_device (flights d) d (device_at s d) free))
          (λ (past : length s.stock.devices ≤ d). get_or_past s.stock.devices d new_progress past
          ∙ sym (get_or_past (seen flights s).stock.devices d new_progress (rw seen_number past)))
          (cases_lt d (length s.stock.devices));
    }

-- with no transfer in flight all is seen
seen_word_nothing : (n : ℕ) (flights : ℕ → Option Flight) (a w : ℕ) → ((d : ℕ) → flights d ≡ None) → seen_word n flights a w ≡ w
seen_word_nothing zero flights a w none = refl
seen_word_nothing (suc n) flights a w none =
    ap (λ g. cond (covers n g a) (word_before g a) (seen_word n flights a w)) (none n) ∙ seen_word_nothing n flights a w none

pub seen_nothing : (flights : ℕ → Option Flight) (s : State) → ((d : ℕ) → flights d ≡ None) → seen flights s ≡ s
seen_nothing flights s none =
    same_states _ _ (record { registers = refl; claims = refl; spooled = refl; asked = refl; stints = refl })
    (seen_size flights s)
    (seen_number flights s)
    (λ a lt. let within : a < length s.stock.store = omega (arith, seen_size flights s) in seen_word_at flights s a within
    ∙ seen_word_nothing device_count flights a (word_at s a) none)
    (λ d lt. let within : d < length s.stock.devices = omega (arith, seen_number flights s) in seen_device_at flights s d within
    ∙ ap (λ g. seen_device g d (device_at s d)) (none d))

-- an effect whose needs are not pending does the same to what is seen as to the lone state
module _ (flights : ℕ → Option Flight) (mine : List ℕ) (answer : Question → ℕ) (e : Effect) (s : State)
    (none : HidesNone (pending_in_flight flights) (effect_needs mine e)) where
  pub perform_seen : perform answer e (seen flights s) ≡ seen flights (perform answer e s)
  perform_seen =
      same_states _ _ (record {
        registers = sym agree.registers;
        claims = sym agree.claims;
        spooled = sym agree.spooled;
        asked = sym agree.asked;
        stints =
            sym agree.stints;
      })
      (sym agree.size ∙ sym (seen_size flights (perform answer e s)))
      (sym agree.number ∙ sym (seen_number flights (perform answer e s)))
      word
      device
    where
      agree : Agrees (pending_in_flight flights) (perform answer e s) (perform answer e (seen flights s))
      agree = perform_agree (pending_in_flight flights) mine answer e s (seen flights s) (seen_agrees flights s) none

      leaves : Leaves (pending_in_flight flights) s (perform answer e s)
      leaves = perform_leaves (pending_in_flight flights) mine answer e s none

      beside : Leaves (pending_in_flight flights) (seen flights s) (perform answer e (seen flights s))
      beside = perform_leaves (pending_in_flight flights) mine answer e (seen flights s) none

      word : (a : ℕ) → a < length (perform answer e (seen flights s)).stock.store
          → word_at (perform answer e (seen flights s)) a ≡ word_at (seen flights (perform answer e s)) a
      word a lt =
          let inside : a < length (perform answer e s).stock.store = omega (arith, agree.size) in
          let within : a < length s.stock.store = omega (arith, leaves.size) in
          ⊎_elim
          (λ (locked : pending_in_flight flights (Group (group_of a)) ≡ true).
          beside.words a locked ∙ seen_word_at flights s a within ∙ sym (ap (seen_word device_count flights a) (leaves.words a locked))
          ∙ sym (seen_word_at flights (perform answer e s) a inside))
          (λ (free : pending_in_flight flights (Group (group_of a)) ≡ false).
          sym (agree.words a free) ∙ sym (seen_word_at flights (perform answer e s) a inside
          ∙ seen_apart device_count flights a (word_at (perform answer e s) a) free))
          (cases_Bool (pending_in_flight flights (Group (group_of a))))

      device : (d : ℕ) → d < length (perform answer e (seen flights s)).stock.devices
          → device_at (perform answer e (seen flights s)) d ≡ device_at (seen flights (perform answer e s)) d
      device d lt =
          let inside : d < length (perform answer e s).stock.devices = omega (arith, agree.number) in
          let within : d < length s.stock.devices = omega (arith, leaves.number) in
          ⊎_elim
          (λ (locked : pending_in_flight flights (Device d) ≡ true).
          beside.devices d locked ∙ seen_device_at flights s d within ∙ sym (ap (seen_device (flights d) d) (leaves.devices d locked))
          ∙ sym (seen_device_at flights (perform answer e s) d inside))
          (λ (free : pending_in_flight flights (Device d) ≡ false).
          sym (agree.devices d free) ∙ sym (seen_device_at flights (perform answer e s) d inside
          ∙ idle_device (flights d) d (device_at (perform answer e s) d) free))
          (cases_Bool (pending_in_flight flights (Device d)))
