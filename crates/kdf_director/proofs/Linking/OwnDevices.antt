-- Devices and claims by number are those of the program that has them.
use Rattle.std.specs.Prelude.{not}
use Rattle.std.specs.List.{All, position_or_len}
use Rattle.std.proofs.Common.{◌≡◌, ◌≢◌, ℕ, ◌+◌, ◌<◌, ◌≤◌, Bool, true, false, ◌&&◌, ltb, List, [], ◌∷◌, length, get_or, map, Option, Some, None, is_some, cond}
use Rattle.std.proofs.Common.{refl, sym, ap, ap₂, ◌∙◌, subst, ⊎_elim, arith}
use Rattle.std.proofs.lemmas.Bool.{cases_eq, cases_lt, le-ltb, lt-ltb, ltb-true, or_left}
use Rattle.std.proofs.lemmas.List.{get_or_past, length-map}
use Rattle.std.proofs.lemmas.List.FromFn.{length-map-range_with_len, get_or-map-range_with_len}
use Rattle.std.proofs.lemmas.List.Sums.{fails_before_first, passes_at_first}
use Rattle.kdf_journal.specs.declared.entry.Entry.{Entry}
use Rattle.kdf_relocate.specs.declared.window.Window.{Window}
use Rattle.kdf_transfer.specs.Devices.{Fixture, kind_in}
use Rattle.kdf_transfer.specs.declared.device.Device.{Device}
use Rattle.kdf_processor.specs.Claims.{is_claimed}
use Rattle.kdf_transfer.specs.Slots.{Slot}
use Rattle.kdf_journal.specs.Counts.{holder}
use Rattle.kdf_journal.specs.declared.kind.Kind.{Kind}
use Rattle.kdf_job.specs.Slots.{lent_kind}
use Rattle.kdf_processor.specs.State.{State, device_at, fixture_at, is_pooled, own_fixture_at, pool_kind_at, pooled_or}
use Rattle.kdf_director.specs.Fields.Agrees.{Agrees}
use Rattle.kdf_director.specs.Fields.Following.{asked_at}
use Rattle.kdf_places.specs.Spots.{IsDeviceOf, Spot, no_spot, spot_at}
use Rattle.kdf_yard.specs.Fields.Owners.{IsDeviceOwned, is_claimed_by, owner_in}
use Rattle.kdf_transfer.specs.ByNumber.{by_number, device_count}
use Rattle.kdf_yard.specs.Fields.Parts.{Reach, Seat, has_device, in_pool, numbers, own_claims, own_fixture, pool_kind, reach_of}
use Rattle.kdf_theory.specs.Loading.{owns}
use Rattle.kdf_places.specs.Shared.{Shared}
use Rattle.kdf_yard.specs.Fields.Running.{own_state, part_at, reach_at, reaches_in, seat_at}
use Rattle.kdf_theory.specs.MachineView.{IsDeviceAt, MachineView, state_of}
use Rattle.kdf_director.specs.Fields.Viewed.{states_in}
use Rattle.kdf_theory.specs.Slots.{start_of}
use Rattle.kdf_yard.specs.declared.slot.Loaded.{Loaded}
use Rattle.kdf_director.proofs.Linking.OwnStates.{program_is, state_is}
use Rattle.kdf_yard.proofs.Physical.PartsShow.{own_device, own_is}
use Rattle.kdf_yard.specs.Fields.Stints.{lends}
use Rattle.kdf_transfer.proofs.Numbers.{limit_is, number_at, number_past}

-- ---- which slot has a device

first_map : {X Y : Type 0} (f : X → Y) (t : Y → Bool) (xs : List X) → position_or_len (λ x. t (f x)) xs ≡ position_or_len t (map f xs)
first_map f t [] = refl
first_map f t (x ∷ xs) = ap (λ n. cond (not (t (f x))) (1 + n) 0) (first_map f t xs)

abbrev has : ℕ → Reach → Bool
has d r = owns r.devices d

abbrev first : List Window → List Loaded → ℕ → ℕ
first windows slots d = position_or_len (λ (l : Loaded). owns (numbers l.devices.items) d) slots

none_left : (b : Bool) (n : ℕ) → cond b (Some n) None ≡ None → b ≡ false
none_left true n is = cc
none_left false n is = refl

some_left : (b : Bool) (n i : ℕ) → cond b (Some n) None ≡ Some i → (b ≡ true) × (n ≡ i)
some_left true n i is = (refl, cc)
some_left false n i is = cc

pub owner_has : (windows : List Window) (slots : List Loaded) (d i : ℕ) → owner_in slots d ≡ Some i
    → (i < length slots) × (owns (reach_at (reaches_in windows slots) i).devices d ≡ true)
owner_has windows slots d i is =
    let left = some_left (ltb (first windows slots d) (length slots)) (first windows slots d) i is in
    let lt : first windows slots d < length slots = ltb-true _ _ left.0 in
    let same = first_map (reach_of windows) (has d) slots in
    let e = left.1 in
    let many = length-map slots (reach_of windows) in (
      omega arith,
      subst (λ k. has d (reach_at (reaches_in windows slots) k) ≡ true) (sym same ∙ e)
          (passes_at_first (has d) (reaches_in windows slots) (record { base = 0; size = 0; devices = []; pool = []; served = false }) (omega arith)),
    )

pub owner_none : (windows : List Window) (slots : List Loaded) (d i : ℕ) → owner_in slots d ≡ None → i < length slots
    → owns (reach_at (reaches_in windows slots) i).devices d ≡ false
owner_none windows slots d i is lt =
    fails_before_first (has d) (reaches_in windows slots) i (record { base = 0; size = 0; devices = []; pool = []; served = false })
    (let same = first_map (reach_of windows) (has d) slots in
    let none = none_left (ltb (first windows slots d) (length slots)) (first windows slots d) is in
    ⊎_elim
    (λ (low : first windows slots d < length slots). cc (sym none ∙ lt-ltb _ _ low))
    (λ (past : length slots ≤ first windows slots d). omega arith)
    (cases_lt (first windows slots d) (length slots)))

-- ---- a program's device
some_owned : (b : Bool) (f : Option Fixture) → is_some (cond b f None) ≡ true → b ≡ true
some_owned true f is = refl
some_owned false f is = cc

claims_is : (b : Bool) (k : Option Kind) (f : Option Fixture) → is_some f ≡ true → is_some (cond b (kind_in (pooled_or k f)) None) ≡ b
claims_is true (Some k) f is = refl
claims_is true None (Some f) is = refl
claims_is true None None is = cc
claims_is false k f is = refl

module _ (windows : List Window) (loads : List Loaded) (slots : List Slot) (seats : List Seat) (s : Shared) (J : List Entry) (room : ℕ)
    (many : length loads ≡ length seats) (a : Agrees slots (reaches_in windows loads) seats s J) (d : ℕ) where
  abbrev reaches : List Reach
  reaches = reaches_in windows loads

  abbrev m : MachineView
  m = record { slots = slots; states = states_in reaches seats s J; journal = J; room = room }

  abbrev own_at : ℕ → State
  own_at i = own_state reaches seats s (asked_at seats J i) i

  fixture_is : (i : ℕ) → own_fixture_at (own_at i).stock.claims d ≡ own_fixture_at (own_claims (part_at reaches seats i) s) d
  unfolding own_state
  fixture_is i = refl

  pool_is : (i : ℕ) → is_pooled (own_at i).stock.claims d ≡ in_pool (part_at reaches seats i) d
  unfolding own_state
  pool_is i = refl

  any_is : (i : ℕ) → pooled_or (pool_kind (part_at reaches seats i) d) (own_fixture_at (own_at i).stock.claims d) ≡ fixture_at (own_at i).stock.claims d
  unfolding own_state
  any_is i = refl

  progress_is : (i : ℕ) → d < device_count → has_device (part_at reaches seats i) d ≡ true → device_at (own_at i) d ≡ (spot_at s.spots d).progress
  unfolding own_state
  progress_is i small its = own_device (part_at reaches seats i) (asked_at seats J i) s d small its

  claim_is : (i : ℕ) → is_some (own_fixture_at (own_at i).stock.claims d) ≡ true
      → is_claimed (own_at i).stock.claims d ≡ (ltb d 16 && get_or (seat_at seats i).claimed d false)
  unfolding own_state
  claim_is i some = claims_is (ltb d 16 && get_or (seat_at seats i).claimed d false) (pool_kind (part_at reaches seats i) d)
      (own_fixture_at (own_claims (part_at reaches seats i) s) d) some

  small : (i : ℕ) → is_some (own_fixture_at (own_at i).stock.claims d) ≡ true → d < device_count
  small i some =
      ⊎_elim
      (λ (lt : d < device_count). lt)
      (λ (past : device_count ≤ d). cc (sym some ∙ ap is_some (fixture_is i ∙ number_past (own_fixture (part_at reaches seats i) s.spots) d None past)))
      (cases_lt d device_count)

  by_place : (i : ℕ) → is_some (own_fixture_at (own_at i).stock.claims d) ≡ true
      → own_fixture_at (own_at i).stock.claims d ≡ own_fixture (part_at reaches seats i) s.spots d
  by_place i some = fixture_is i ∙ own_is (part_at reaches seats i) s d (small i some)

  owned : (i : ℕ) → is_some (own_fixture_at (own_at i).stock.claims d) ≡ true → owns (reach_at reaches i).devices d ≡ true
  owned i some = some_owned (owns (reach_at reaches i).devices d) (spot_at s.spots d).fixture (ap is_some (sym (by_place i some)) ∙ some)

  spot_is : (i : ℕ) → is_some (own_fixture_at (own_at i).stock.claims d) ≡ true → own_fixture_at (own_at i).stock.claims d ≡ (spot_at s.spots d).fixture
  spot_is i some = by_place i some ∙ ap (λ b. cond b (spot_at s.spots d).fixture None) (owned i some)

  -- a device of a program's slot is the program's
  its_own : (i : ℕ) → owns (reach_at reaches i).devices d ≡ true → has_device (part_at reaches seats i) d ≡ true
  its_own i has = or_left (owns (reach_at reaches i).devices d) (lends (seat_at seats i).stints d) has

  -- a program that has the device has it in its state
  has_it : (i : ℕ) → i < length seats → owns (reach_at reaches i).devices d ≡ true → is_some (own_fixture_at (own_at i).stock.claims d) ≡ true
  has_it i lt is =
      ap is_some (fixture_is i ∙ own_is (part_at reaches seats i) s d inside ∙ ap (λ b. cond b (spot_at s.spots d).fixture None) is)
      ∙ there
    where
      there : is_some (spot_at s.spots d).fixture ≡ true
      there = a.running.fixtures i d lt is

      inside : d < device_count
      inside =
          ⊎_elim
          (λ (low : d < length s.spots). let e = a.running.sound.spots in omega arith)
          (λ (past : length s.spots ≤ d). cc (sym there ∙ ap (λ (x : Spot). is_some x.fixture) (get_or_past s.spots d no_spot past)))
          (cases_lt d (length s.spots))

  -- the program is the slot's that has the device
  owner_is : (i : ℕ) → i < length seats → is_some (own_fixture_at (own_at i).stock.claims d) ≡ true → owner_in loads d ≡ Some i
  owner_is i lt some = by_owner (owner_in loads d) refl
    where
      by_owner : (o : Option ℕ) → owner_in loads d ≡ o → owner_in loads d ≡ Some i
      by_owner None none = cc (sym (owner_none windows loads d i none (omega arith)) ∙ owned i some)
      by_owner (Some j) is =
          let at = owner_has windows loads d j is in
          let within : j < length seats = (let low = at.0 in omega arith) in
          is ∙ ap Some (⊎_elim
          (λ (same : j ≡ i). same)
          (λ (ne : j ≢ i). cc (sym (a.running.single j i d within lt ne (its_own j at.1)) ∙ its_own i (owned i some)))
          (cases_eq j i))

  -- what is found by its number is a program's device
  pub device_own : (p : ℕ) (state : State) (o : Option Device) → state_of m p ≡ Some state → is_some (own_fixture_at state.stock.claims d) ≡ true
      → IsDeviceOwned (owner_in loads d) (spot_at s.spots d) o → IsDeviceAt state d o
  device_own p state o there some is =
      let at = program_is slots reaches seats s J room a p (ap is_some there) in
      let same : own_at at.0 ≡ state = some_same (sym (state_is slots reaches seats s J room a p at.0 at.1 at.2) ∙ there) in
      let some' : is_some (own_fixture_at (own_at at.0).stock.claims d) ≡ true = ap (λ (x : State). is_some (own_fixture_at x.stock.claims d)) same ∙ some in
      subst (λ (x : State). IsDeviceAt x d o) same
      (shown at.0 at.1 some' o (subst (λ owner. IsDeviceOwned owner (spot_at s.spots d) o) (owner_is at.0 at.1 some') is))
    where
      some_same : {x y : State} → Some x ≡ Some y → x ≡ y
      some_same e = cc

      shown : (i : ℕ) → i < length seats → is_some (own_fixture_at (own_at i).stock.claims d) ≡ true → (o : Option Device) → IsDeviceOf (spot_at s.spots d) o
          → IsDeviceAt (own_at i) d o
      shown i lt some None is = spot_is i some ∙ is
      shown i lt some (Some device) is = (spot_is i some ∙ is.0, progress_is i (small i some) (its_own i (owned i some)) ∙ is.1)

  pub claimed_own : (pool : List (ℕ × Kind)) (p : ℕ) (state : State) → state_of m p ≡ Some state → is_some (own_fixture_at state.stock.claims d) ≡ true
      → is_claimed_by (owner_in loads d) seats pool J d ≡ is_claimed state.stock.claims d
  claimed_own pool p state there some =
      let at = program_is slots reaches seats s J room a p (ap is_some there) in
      let same : own_at at.0 ≡ state = some_same (sym (state_is slots reaches seats s J room a p at.0 at.1 at.2) ∙ there) in
      let some' : is_some (own_fixture_at (own_at at.0).stock.claims d) ≡ true = ap (λ (x : State). is_some (own_fixture_at x.stock.claims d)) same ∙ some in
      ap (λ owner. is_claimed_by owner seats pool J d) (owner_is at.0 at.1 some')
      ∙ sym (claim_is at.0 some')
      ∙ ap (λ (x : State). is_claimed x.stock.claims d) same
    where
      some_same : {x y : State} → Some x ≡ Some y → x ≡ y
      some_same e = cc

  -- where no program has it, no slot does
  pub none_owns : All (λ (x : State). own_fixture_at x.stock.claims d ≡ None) m.states → owner_in loads d ≡ None
  none_owns none = by_owner (owner_in loads d) refl
    where
      by_owner : (o : Option ℕ) → owner_in loads d ≡ o → owner_in loads d ≡ None
      by_owner None is = is
      by_owner (Some j) is =
          let at = owner_has windows loads d j is in
          let lt : j < length seats = (let low = at.0 in omega arith) in
          let count = length-map-range_with_len own_at 0 (length seats) in
          let own : get_or m.states j (start_of None) ≡ own_at j = get_or-map-range_with_len own_at 0 (length seats) j j (start_of None) lt (omega arith) in
          cc (sym (has_it j lt at.1) ∙ ap is_some (subst (λ (x : State). own_fixture_at x.stock.claims d ≡ None) own (none j (start_of None) (omega arith))))

  pub device_none : (o : Option Device) → All (λ (x : State). own_fixture_at x.stock.claims d ≡ None) m.states
      → IsDeviceOwned (owner_in loads d) (spot_at s.spots d) o → o ≡ None
  device_none o none is = subst (λ owner. IsDeviceOwned owner (spot_at s.spots d) o) (none_owns none) is

  -- ---- a device of the pool
  module _ (pool : List (ℕ × Kind)) (lends : (i : ℕ) → i < length seats → (reach_at reaches i).pool ≡ by_number (lent_kind pool)) where
    in_it : (i : ℕ) → i < length seats → in_pool (part_at reaches seats i) d ≡ is_some (get_or (by_number (lent_kind pool)) d None)
    in_it i lt = ap (λ (ks : List (Option Kind)). is_some (get_or ks d None)) (lends i lt)

    -- no slot has a number of the pool
    none_owns_it : (i : ℕ) → i < length seats → in_pool (part_at reaches seats i) d ≡ true → owner_in loads d ≡ None
    none_owns_it i lt pooled = by_owner (owner_in loads d) refl
      where
        by_owner : (o : Option ℕ) → owner_in loads d ≡ o → owner_in loads d ≡ None
        by_owner None is = is
        by_owner (Some j) is =
            let at = owner_has windows loads d j is in
            let within : j < length seats = (let low = at.0 in omega arith) in
            cc (sym ((a.running.kept j within).apart d at.1) ∙ in_it j within ∙ sym (in_it i lt) ∙ pooled)

    pub claimed_pooled : (p : ℕ) (state : State) → state_of m p ≡ Some state → is_pooled state.stock.claims d ≡ true
        → is_claimed_by (owner_in loads d) seats pool J d ≡ is_some (holder d J)
    claimed_pooled p state there pooled =
        let at = program_is slots reaches seats s J room a p (ap is_some there) in
        let same : own_at at.0 ≡ state = some_same (sym (state_is slots reaches seats s J room a p at.0 at.1 at.2) ∙ there) in
        let its : in_pool (part_at reaches seats at.0) d ≡ true = sym (pool_is at.0) ∙ ap (λ (x : State). is_pooled x.stock.claims d) same ∙ pooled in
        let lt : d < device_count = (a.running.kept at.0 at.1).few d its in
        let kind : is_some (lent_kind pool d) ≡ true = ap is_some (sym (number_at (lent_kind pool) d None lt)) ∙ sym (in_it at.0 at.1) ∙ its in
        ap (λ owner. is_claimed_by owner seats pool J d) (none_owns_it at.0 at.1 its)
        ∙ ap₂ (λ b c. b && (c && is_some (holder d J))) (lt-ltb d 16 (omega (arith, limit_is))) kind
      where
        some_same : {x y : State} → Some x ≡ Some y → x ≡ y
        some_same e = cc

    -- where neither a slot nor the pool has the number, nothing is claimed
    pub claimed_none : (length seats ≡ 0 → pool ≡ []) → All (λ (x : State). fixture_at x.stock.claims d ≡ None) m.states
        → is_claimed_by (owner_in loads d) seats pool J d ≡ false
    claimed_none empty none =
        ap (λ owner. is_claimed_by owner seats pool J d)
        (none_owns (λ j x lt. (neither (pool_kind_at (get_or m.states j x).stock.claims d) (own_fixture_at (get_or m.states j x).stock.claims d)
        (none j x lt)).1))
        ∙ ⊎_elim
        (λ (small : d < device_count). ap (λ k. ltb d 16 && (is_some k && is_some (holder d J))) (no_kind small) ∙ and_none (ltb d 16))
        (λ (past : device_count ≤ d). ap (λ b. b && (is_some (lent_kind pool d) && is_some (holder d J))) (le-ltb d 16 (omega (arith, limit_is))))
        (cases_lt d device_count)
      where
        neither : (k : Option Kind) (f : Option Fixture) → pooled_or k f ≡ None → (k ≡ None) × (f ≡ None)
        neither None f is = (refl, is)
        neither (Some k) f is = cc

        and_none : (b : Bool) → (b && false) ≡ false
        and_none true = refl
        and_none false = refl

        no_kind : d < device_count → lent_kind pool d ≡ None
        no_kind small =
            ⊎_elim
            (λ (some : 0 < length seats).
            let count = length-map-range_with_len own_at 0 (length seats) in
            let own : get_or m.states 0 (start_of None) ≡ own_at 0 = get_or-map-range_with_len own_at 0 (length seats) 0 0 (start_of None) some (omega arith) in
            sym (number_at (lent_kind pool) d None small)
            ∙ ap (λ (ks : List (Option Kind)). get_or ks d None) (sym (lends 0 some))
            ∙ (neither (pool_kind (part_at reaches seats 0) d) (own_fixture_at (own_at 0).stock.claims d)
            (any_is 0 ∙ ap (λ (x : State). fixture_at x.stock.claims d) (sym own) ∙ none 0 (start_of None) (omega arith))).0)
            (λ (no : length seats ≤ 0). ap (λ (p : List (ℕ × Kind)). lent_kind p d) (empty (omega arith)))
            (cases_lt 0 (length seats))
