-- An order whose needs are not pending does the same to what is seen as to the lone state, also where it begins a
-- transfer.
use Rattle.std.proofs.Common.{◌≡◌, ◌≢◌, ◌⊎◌, inl, inr, ℕ, zero, suc, ◌<◌, ◌≤◌, Bool, true, false, List, [], length, get_or, map, Option, Some, None, is_some}
use Rattle.std.proofs.Common.{cond, refl, sym, ap, ap₂, ◌∙◌, subst, ⊎_elim, arith}
use Rattle.std.specs.List.{list_any}
use Rattle.std.proofs.lemmas.Bool.{or_parts, cases_Bool, cases_eq, false_from_ne_true, false≢true, eq-eqb, ne_eqb}
use Rattle.std.proofs.lemmas.List.Folds.{list_any-append}
use Rattle.kdf_transfer.specs.AtOnce.{has_area}
use Rattle.kdf_transfer.specs.Devices.{DeviceProgress}
use Rattle.kdf_transfer.specs.declared.order.TransferOrder.{TransferOrder}
use Rattle.kdf_processor.specs.declared.registers.Registers.{Registers}
use Rattle.kdf_journal.specs.declared.need.Need.{Need}
use Rattle.kdf_journal.specs.declared.need.Need.TheVariants.{Group, Device}
use Rattle.kdf_processor.specs.Effect.{Question, Effect, Starting}
use Rattle.kdf_processor.specs.Frame.{Leaves, HidesNone}
use Rattle.kdf_processor.specs.Needs.{group_of, fetch_needs, effect_needs, needs, next_effect}
use Rattle.kdf_processor.specs.Row.{perform, row}
use Rattle.kdf_processor.specs.State.{State, word_at, device_at, fixture_at}
use Rattle.kdf_processor.specs.View.{groups_of, order_groups}
use Rattle.kdf_processor.proofs.AreaLemmas.{area_apart, written_apart}
use Rattle.kdf_processor.proofs.FrameLemmas.{perform_leaves, effect_agree}
use Rattle.kdf_processor.proofs.RowFacts.{transferred_asked}
use Rattle.kdf_transfer.specs.ByNumber.{device_count}
use Rattle.kdf_theory.specs.Flights.{Flight, arrivals, beginning, flights_after, with_flight}
use Rattle.kdf_theory.specs.Seen.{covers, word_before, seen_word, seen_device, seen, touched_below, pending_in_flight, begun_by, begun_row}
use Rattle.kdf_theory.proofs.Seen.WholeTransfers.{transferred_claims, transferred_spooled, transferred_stints, completed_other, completed_store}
use Rattle.kdf_theory.proofs.Seen.WholeTransfers.{arrivals_outside}
use Rattle.kdf_theory.proofs.Seen.SeenStates.{same_states, seen_word_at, seen_device_at, seen_size, seen_number, covers_touches, seen_apart, seen_agrees}
use Rattle.kdf_theory.proofs.Seen.SeenStates.{perform_seen}
use Rattle.kdf_theory.proofs.Seen.TransfersChecked.{IsChecked, claim_small, next_checked}

-- ---- one transfer more

pub with_flight_is : (x d : ℕ) (f : Option Flight) (flights : ℕ → Option Flight) → x ≡ d → with_flight d f flights x ≡ f
with_flight_is x d f flights same = ap (λ b. cond b f (flights x)) (eq-eqb x d same)

pub with_flight_other : (d x : ℕ) (f : Option Flight) (flights : ℕ → Option Flight) → x ≢ d → with_flight d f flights x ≡ flights x
with_flight_other d x f flights ne = ap (λ b. cond b f (flights x)) (ne_eqb x d ne)

-- what one device's transfer makes of a word
abbrev pub look : ℕ → Option Flight → ℕ → ℕ → ℕ
look d f a w = cond (covers d f a) (word_before f a) w

pub look_apart : (d : ℕ) (f : Option Flight) (a w : ℕ) → covers d f a ≡ false → look d f a w ≡ w
look_apart d f a w free = ap (λ b. cond b (word_before f a) w) free

-- transfers that make the same of a word
pub seen_word_alike : (n : ℕ) (fs gs : ℕ → Option Flight) (a w : ℕ) → ((d x : ℕ) → look d (fs d) a x ≡ look d (gs d) a x)
    → seen_word n fs a w ≡ seen_word n gs a w
seen_word_alike zero fs gs a w same = refl
seen_word_alike (suc n) fs gs a w same = same n (seen_word n fs a w) ∙ ap (look n (gs n) a) (seen_word_alike n fs gs a w same)

-- a word that the transfers of one device cover neither before nor after is seen alike
seen_word_kept : (n d : ℕ) (f : Option Flight) (flights : ℕ → Option Flight) (a w : ℕ) → covers d f a ≡ false → covers d (flights d) a ≡ false
    → seen_word n (with_flight d f flights) a w ≡ seen_word n flights a w
seen_word_kept n d f flights a w new old =
    seen_word_alike n (with_flight d f flights) flights a w
    (λ e x. ⊎_elim
    (λ (same : e ≡ d).
    ap (λ g. look e g a x) (with_flight_is e d f flights same) ∙ look_apart e f a x (rw (← same) at new)
    ∙ sym (look_apart e (flights e) a x (rw (← same) at old)))
    (λ (ne : e ≢ d). ap (λ g. look e g a x) (with_flight_other d e f flights ne))
    (cases_eq e d))

-- a word that this transfer alone covers is as it was before it
seen_word_new : (n d : ℕ) (f : Flight) (flights : ℕ → Option Flight) (a w : ℕ) → d < n → covers d (Some f) a ≡ true
    → touched_below n flights (group_of a) ≡ false → seen_word n (with_flight d (Some f) flights) a w ≡ word_at f.before a
seen_word_new zero d f flights a w lt is free = absurd (omega arith)
seen_word_new (suc n) d f flights a w lt is free =
    ⊎_elim
    (λ (same : n ≡ d).
    ap (λ g. look n g a (seen_word n (with_flight d (Some f) flights) a w)) (with_flight_is n d (Some f) flights same)
    ∙ ap (λ b. cond b (word_at f.before a) (seen_word n (with_flight d (Some f) flights) a w)) (rw (← same) at is))
    (λ (ne : n ≢ d).
    ap (λ g. look n g a (seen_word n (with_flight d (Some f) flights) a w)) (with_flight_other d n (Some f) flights ne)
    ∙ look_apart n (flights n) a _ (covers_touches n (flights n) a (or_parts _ _ free).0)
    ∙ seen_word_new n d f flights a w (omega arith) is (or_parts _ _ free).1)
    (cases_eq n d)

none_there : {X : Type 0} (o : Option X) → is_some o ≡ false → o ≡ None
none_there None free = refl
none_there (Some x) free = cc

-- the needs of an area are not pending, so no group of the area is
order_apart : (hidden : Need → Bool) (o : TransferOrder) (first last a : ℕ) → list_any hidden (map Group (order_groups o first last)) ≡ false
    → has_area o ≡ true → first ≤ a → a ≤ last → hidden (Group (group_of a)) ≡ false
order_apart hidden o first last a none has low high =
    area_apart hidden first last a low high (subst (λ b. list_any hidden (map Group (cond b (groups_of first last) [])) ≡ false) has none)

-- ---- a transfer that begins shows nothing of itself
module _ (flights : ℕ → Option Flight) (mine : List ℕ) (answer : Question → ℕ) (d : ℕ) (o : TransferOrder) (first last : ℕ) (after : Registers) (s : State)
    (small : d < device_count) (none : HidesNone (pending_in_flight flights) (effect_needs mine (Starting d o first last after))) where
  pub begin_seen : begun_by answer (Starting d o first last after) (seen flights s) ≡ seen (flights_after flights s (Starting d o first last after))
      (perform answer (Starting d o first last after) s)
  begin_seen =
      same_states _ _
      (record {
        registers = refl;
        claims = sym (transferred_claims d o first last (fixture_at s.stock.claims d) s.stock);
        spooled = sym (transferred_spooled d o first last (fixture_at s.stock.claims d) s.stock);
        asked = sym (transferred_asked d o first last (fixture_at s.stock.claims d) s.stock);
        stints = sym (transferred_stints d o first last (fixture_at s.stock.claims d) s.stock);
      })
      (seen_size flights s ∙ leaves.size ∙ sym (seen_size new later))
      (seen_number flights s ∙ leaves.number ∙ sym (seen_number new later))
      (λ a lt.
      let within : a < length s.stock.store = omega (arith, seen_size flights s) in
      let inside : a < length later.stock.store = omega (arith, leaves.size) in
      seen_word_at flights s a within ∙ word a ∙ sym (seen_word_at new later a inside))
      (λ x lt.
      let within : x < length s.stock.devices = omega (arith, seen_number flights s) in
      let inside : x < length later.stock.devices = omega (arith, leaves.number) in
      seen_device_at flights s x within ∙ device x ∙ sym (seen_device_at new later x inside))
    where
      parts : (pending_in_flight flights (Device d) ≡ false) × (list_any (pending_in_flight flights) (map Group (order_groups o first last)) ≡ false)
      parts = or_parts _ _ none

      idle : flights d ≡ None
      idle = none_there (flights d) parts.0

      f : Flight
      f = beginning o first last s

      new : ℕ → Option Flight
      new = with_flight d (Some f) flights

      later : State
      later = perform answer (Starting d o first last after) s

      leaves : Leaves (pending_in_flight flights) s later
      leaves = perform_leaves (pending_in_flight flights) mine answer (Starting d o first last after) s none

      word : (a : ℕ) → seen_word device_count flights a (word_at s a) ≡ seen_word device_count new a (word_at later a)
      word a =
          ⊎_elim
          (λ (is : covers d (Some f) a ≡ true).
          let free : touched_below device_count flights (group_of a) ≡ false =
          false_from_ne_true _ (λ locked. false≢true (sym (arrivals_outside d f a
          (λ has low high. false≢true (sym (order_apart (pending_in_flight flights) o first last a parts.1 has low high) ∙ locked))) ∙ is)) in
          seen_apart device_count flights a (word_at s a) free ∙ sym (seen_word_new device_count d f flights a (word_at later a) small is free))
          (λ (not : covers d (Some f) a ≡ false).
          let unwritten : word_at later a ≡ word_at s a = ap (λ ws. get_or ws a 0) (completed_store d f) ∙ written_apart (arrivals d f) s.stock.store a not in
          rw unwritten (sym (seen_word_kept device_count d (Some f) flights a (word_at s a) not (ap (λ g. covers d g a) idle))))
          (cases_Bool (covers d (Some f) a))

      device : (x : ℕ) → seen_device (flights x) x (device_at s x) ≡ seen_device (new x) x (device_at later x)
      device x =
          ⊎_elim
          (λ (same : x ≡ d).
          ap (λ g. seen_device g x (device_at s x)) (ap flights same ∙ idle)
          ∙ sym (ap (λ g. seen_device g x (device_at later x)) (with_flight_is x d (Some f) flights same)))
          (λ (ne : x ≢ d).
          ap₂ (λ g p. seen_device g x p) (sym (with_flight_other d x (Some f) flights ne)) (sym (completed_other d x f ne)))
          (cases_eq x d)

-- an effect, whatever it is
begun_any : (flights : ℕ → Option Flight) (mine : List ℕ) (answer : Question → ℕ) (s : State) (e : Effect) → IsChecked s.stock.claims e
    → HidesNone (pending_in_flight flights) (effect_needs mine e) → begun_by answer e (seen flights s) ≡ seen (flights_after flights s e) (perform answer e s)
begun_any flights mine answer s (Starting d o first last after) checked none =
    begin_seen flights mine answer d o first last after s (claim_small s.stock.claims d _ checked.0) none
begun_any flights mine answer s e checked none = perform_seen flights mine answer e s none

-- ---- the next order
module _ (flights : ℕ → Option Flight) (mine : List ℕ) (s : State) (none : HidesNone (pending_in_flight flights) (needs s mine)) where
  pub parts_apart : HidesNone (pending_in_flight flights) (fetch_needs s.stock.claims.size (word_at s) s.registers.at)
      × HidesNone (pending_in_flight flights) (effect_needs mine (next_effect s))
  parts_apart = or_parts _ _ (sym (list_any-append (pending_in_flight flights) (fetch_needs s.stock.claims.size (word_at s) s.registers.at)
      (effect_needs mine (next_effect s))) ∙ none)

  pub same_next : next_effect s ≡ next_effect (seen flights s)
  same_next = effect_agree (pending_in_flight flights) s (seen flights s) (seen_agrees flights s) parts_apart.0

  -- in one step
  pub row_seen : (answer : Question → ℕ) → row (seen flights s) answer ≡ seen flights (row s answer)
  row_seen answer = ap (λ e. perform answer e (seen flights s)) (sym same_next) ∙ perform_seen flights mine answer (next_effect s) s parts_apart.1

  -- where a transfer only begins
  pub begun_seen : (answer : Question → ℕ) → begun_row (seen flights s) answer ≡ seen (flights_after flights s (next_effect s)) (row s answer)
  begun_seen answer = ap (λ e. begun_by answer e (seen flights s)) (sym same_next)
      ∙ begun_any flights mine answer s (next_effect s) (next_checked s) parts_apart.1

-- ---- what more transfers show doesn't turn on what fewer show

twice_word : (n : ℕ) (fewer more : ℕ → Option Flight) (a w : ℕ) → ((d : ℕ) → (fewer d ≡ None) ⊎ (fewer d ≡ more d))
    → seen_word n more a (seen_word n fewer a w) ≡ seen_word n more a w
twice_word zero fewer more a w part = refl
twice_word (suc n) fewer more a w part =
    ⊎_elim
    (λ (is : covers n (more n) a ≡ true). rw is refl)
    (λ (free : covers n (more n) a ≡ false).
    let none : covers n (fewer n) a ≡ false = ⊎_elim (λ e. ap (λ g. covers n g a) e) (λ e. ap (λ g. covers n g a) e ∙ free) (part n) in
    ap (look n (more n) a) (ap (λ x. seen_word n more a x) (look_apart n (fewer n) a (seen_word n fewer a w) none) ∙ twice_word n fewer more a w part))
    (cases_Bool (covers n (more n) a))

twice_device : (fewer more : Option Flight) (d : ℕ) (p : DeviceProgress) → (fewer ≡ None) ⊎ (fewer ≡ more)
    → seen_device more d (seen_device fewer d p) ≡ seen_device more d p
twice_device fewer None d p part = ⊎_elim (λ e. ap (λ g. seen_device g d p) e) (λ e. ap (λ g. seen_device g d p) e) part
twice_device fewer (Some f) d p part = refl

seen_twice : (fewer more : ℕ → Option Flight) (s : State) → ((d : ℕ) → (fewer d ≡ None) ⊎ (fewer d ≡ more d)) → seen more (seen fewer s) ≡ seen more s
seen_twice fewer more s part =
    same_states _ _ (record { registers = refl; claims = refl; spooled = refl; asked = refl; stints = refl })
    (seen_size more (seen fewer s) ∙ seen_size fewer s ∙ sym (seen_size more s))
    (seen_number more (seen fewer s) ∙ seen_number fewer s ∙ sym (seen_number more s))
    (λ a lt.
    let inner : a < length (seen fewer s).stock.store = omega (arith, seen_size more (seen fewer s)) in
    let within : a < length s.stock.store = omega (arith, seen_size fewer s) in
    seen_word_at more (seen fewer s) a inner
    ∙ ap (seen_word device_count more a) (seen_word_at fewer s a within)
    ∙ twice_word device_count fewer more a (word_at s a) part
    ∙ sym (seen_word_at more s a within))
    (λ d lt.
    let inner : d < length (seen fewer s).stock.devices = omega (arith, seen_number more (seen fewer s)) in
    let within : d < length s.stock.devices = omega (arith, seen_number fewer s) in
    seen_device_at more (seen fewer s) d inner
    ∙ ap (seen_device (more d) d) (seen_device_at fewer s d within)
    ∙ twice_device (fewer d) (more d) d (device_at s d) (part d)
    ∙ sym (seen_device_at more s d within))

-- the transfers after an order are those before it, or more
after_more : (flights : ℕ → Option Flight) (mine : List ℕ) (s : State) (e : Effect) → HidesNone (pending_in_flight flights) (effect_needs mine e) → (x : ℕ)
    → (flights x ≡ None) ⊎ (flights x ≡ flights_after flights s e x)
after_more flights mine s (Starting d o first last after) none x =
    ⊎_elim
    (λ (same : x ≡ d). inl (ap flights same ∙ none_there (flights d) (or_parts _ _ none).0))
    (λ (ne : x ≢ d). inr (sym (with_flight_other d x (Some (beginning o first last s)) flights ne)))
    (cases_eq x d)
after_more flights mine s e none x = inr refl

-- an order in one step, of which is seen what the transfers after it leave to be seen
pub hidden_seen : (flights : ℕ → Option Flight) (mine : List ℕ) (answer : Question → ℕ) (s : State) → HidesNone (pending_in_flight flights) (needs s mine)
    → seen (flights_after flights s (next_effect s)) (row (seen flights s) answer) ≡ seen (flights_after flights s (next_effect s)) (row s answer)
hidden_seen flights mine answer s none =
    ap (seen (flights_after flights s (next_effect s))) (row_seen flights mine s none answer)
    ∙ seen_twice flights (flights_after flights s (next_effect s)) (row s answer)
    (after_more flights mine s (next_effect s) (parts_apart flights mine s none).1)
