-- How a yard stands that was loaded.
use Rattle.std.proofs.Common.{◌≡◌, ◌≢◌, ◌||◌, inl, inr, ℕ, ◌+◌, ◌-◌, ◌/◌, ◌%◌, ◌<◌, ◌≤◌, Bool, true, false, cond, List, [], ◌∷◌, length, get_or, map, replicate}
use Rattle.std.proofs.Common.{Option, Some, None, is_some, refl, sym, ap, ap₂, ◌∙◌, subst, ⊎_elim, arith}
use Rattle.std.specs.List.{All, AllPairs, range_with_len}
use Rattle.std.proofs.lemmas.Bool.{cases_eq, cases_lt}
use Rattle.std.proofs.lemmas.List.{get_or_default, get_or_past, get_or-map, get_or-replicate, length-map, length-append, length-replicate, ext_get_or}
use Rattle.std.proofs.lemmas.List.FromFn.{length-map-range_with_len, get_or-map-range_with_len}
use Rattle.kdf_lockout.specs.Groups.{Cells, group_at, AreWhole}
use Rattle.kdf_relocate.specs.declared.window.Window.{Window}
use Rattle.kdf_relocate.specs.Windows.{windows_from, IsBefore, IsInStore}
use Rattle.kdf_job.specs.Job.{JobDevice}
use Rattle.kdf_job.specs.Shows.{shown_device}
use Rattle.kdf_transfer.specs.Devices.{new_progress}
use Rattle.kdf_processor.specs.State.{State, Stock, begin, filled, new_registers, unclaimed}
use Rattle.kdf_yard.specs.declared.program.Program.{Program}
use Rattle.kdf_yard.specs.declared.slot.Loaded.{Loaded}
use Rattle.kdf_job.specs.Slots.{fixture_on, lent_kind, numbered, progress_on}
use Rattle.kdf_journal.specs.declared.kind.Kind.{Kind}
use Rattle.kdf_theory.specs.Loading.{AreLoads, IsLoad, SlotLoad, has, lends, numbers_in, owns, loaded_slot}
use Rattle.kdf_yard.specs.Fields.Begun.{IsLoaded}
use Rattle.kdf_yard.specs.Fields.Filled.{first_seat, idle_spot, loaded, pool_in, pool_spot, sizes_of, with_images, zero_cells}
use Rattle.kdf_yard.specs.Fields.Parts.{Part, Reach, Seat, borrower, has_device, in_pool, pool_kind, own_fixture, own_progress, own_stock, part_in}
use Rattle.kdf_yard.specs.Fields.Parts.{reach_of, seat_of, window_at}
use Rattle.kdf_places.specs.Shared.{Shared, shared_in, IsSound}
use Rattle.kdf_transfer.specs.ByNumber.{by_number, device_count}
use Rattle.kdf_places.specs.declared.place.Place.{Place}
use Rattle.kdf_places.specs.Words.{has_group, word_at_place, word_where}
use Rattle.kdf_yard.specs.Fields.Running.{IsRunning, no_seat, own_state, part_at, reach_at, reaches_in, seat_at, seats_in}
use Rattle.kdf_yard.specs.Fields.Keeping.{IsActive, IsKept}
use Rattle.kdf_yard.specs.Fields.Standing.{standing, IsYard}
use Rattle.kdf_yard.specs.Fields.Stints.{IsOfKind, Keeping, is_left}
use Rattle.std.proofs.lemmas.List.Elements.{All-nil}
use Rattle.kdf_places.specs.Spots.{AreDry, Spot, lease_held, leases_of, no_spot, spot_at, spot_of}
use Rattle.kdf_theory.proofs.Lists.{map_twice}
use Rattle.kdf_yard.proofs.Loading.StoreFilled.{IsStore, none_lent, word_there, zero_store, zero_there}
use Rattle.kdf_yard.proofs.Loading.ImagesLoaded.{IsOutside, IsWithin, filled_at, images_store, images_there}
use Rattle.kdf_theory.proofs.JobsLoaded.{are_slots, found, missing, no_load}
use Rattle.kdf_yard.proofs.Loading.DevicesByNumber.{IsOwnSpot, apart_both, idle_flight, numbers_same, picked, pool_flight, small_of, unpicked}
use Rattle.kdf_transfer.proofs.Numbers.{length-numbers, limit_is, number_at, number_past}
use Rattle.kdf_yard.proofs.Loading.SizesLoaded.{IsWindow, size_is, window_of}
use Rattle.kdf_limits.specs.declared.store.TheConstants.{DIRECTOR_WORDS, STORE_GROUPS, STORE_WORDS}

abbrev no_reach : Reach
no_reach = record { base = 0; size = 0; devices = []; pool = []; served = false }

abbrev no_window : Window
no_window = record { base = 0; size = 0 }

-- what a slot reaches
abbrev pub reach_in : List Window → SlotLoad → Reach
reach_in windows l =
    record {
      base = (window_at windows l.p).base;
      size = (window_at windows l.p).size;
      devices = numbers_in l.devices;
      pool = by_number (lent_kind l.pool);
      served = l.served;
    }

-- the pool is that of the first slot
first_pool : (xs : List SlotLoad) → pool_in xs ≡ (get_or xs 0 no_load).pool
first_pool [] = refl
first_pool (x ∷ xs) = refl

-- nothing is claimed
unmarked : (d : ℕ) → get_or unclaimed d false ≡ false
unfolding unclaimed
unmarked d =
    ⊎_elim
    (λ (lt : d < 16). get_or-replicate 16 d false false lt)
    (λ (past : 16 ≤ d). get_or_past unclaimed d false (let e : length unclaimed ≡ 16 = length-replicate 16 false in omega arith))
    (cases_lt d 16)

many_marks : length unclaimed ≡ 16
unfolding unclaimed
many_marks = length-replicate 16 false

-- the window of each slot
pub windows_fit : (xs : List SlotLoad) (windows : List Window) (i : ℕ) → AreLoads xs → windows ≡ windows_from DIRECTOR_WORDS (sizes_of xs) → i < length xs
    → IsWindow (window_at windows (get_or xs i no_load).p) (get_or xs i no_load).size
windows_fit xs windows i are windows_are lt =
    let p : ℕ = (get_or xs i no_load).p in
    subst (λ w. IsWindow (window_at w p) (get_or xs i no_load).size) (sym windows_are)
    (subst (IsWindow (window_at (windows_from DIRECTOR_WORDS (sizes_of xs)) p)) (size_is xs i no_load are.rising lt)
    (window_of xs p (are.each i no_load lt).number (λ j e less. (are.each j e less).groups)))

windows_inside : (xs : List SlotLoad) (windows : List Window) (i : ℕ) → AreLoads xs → windows ≡ windows_from DIRECTOR_WORDS (sizes_of xs)
    → All IsInStore windows → i < length xs → (window_at windows (get_or xs i no_load).p).base + (window_at windows (get_or xs i no_load).p).size ≤ STORE_WORDS
windows_inside xs windows i are windows_are inside lt =
    let n = (are.each i no_load lt).number in
    let f : length windows ≡ 4 = ap length windows_are in
    (inside (get_or xs i no_load).p no_window (omega arith)).to

words_within : (xs : List SlotLoad) (windows : List Window) (i : ℕ) → AreLoads xs → windows ≡ windows_from DIRECTOR_WORDS (sizes_of xs) → All IsInStore windows
    → i < length xs → IsWithin windows (get_or xs i no_load)
words_within xs windows i are windows_are inside lt =
    let a = windows_inside xs windows i are windows_are inside lt in
    let b = (windows_fit xs windows i are windows_are lt).size_is in
    let c = (are.each i no_load lt).fits in
    omega arith

-- the words of each slot lie in the store
pub all_within : (ls : List Loaded) (windows : List Window) → AreLoads (map loaded ls) → windows ≡ windows_from DIRECTOR_WORDS (sizes_of (map loaded ls))
    → All IsInStore windows → All (λ (l : Loaded). (window_at windows l.p).base + length l.words.items ≤ STORE_WORDS) ls
all_within ls windows are windows_are inside i d lt =
    subst (IsWithin windows) (get_or-map loaded ls i d no_load lt)
    (words_within (map loaded ls) windows i are windows_are inside (let n = length-map ls loaded in omega arith))

module _ (xs : List SlotLoad) (are : AreLoads xs) (windows : List Window) (windows_are : windows ≡ windows_from DIRECTOR_WORDS (sizes_of xs))
    (inside : All IsInStore windows) (before : AllPairs IsBefore windows) (cells : Cells) (cells_are : cells ≡ with_images windows zero_cells xs)
    (spots : List Spot) (spots_are : spots ≡ by_number (idle_spot xs)) where
  abbrev reaches : List Reach
  reaches = map (reach_in windows) xs

  abbrev seats : List Seat
  seats = map first_seat xs

  abbrev s : Shared
  s = record { cells = cells; spots = spots }

  abbrev at : ℕ → SlotLoad
  at i = get_or xs i no_load

  abbrev base : ℕ → ℕ
  base i = (window_at windows (at i).p).base

  many : length seats ≡ length xs
  many = length-map xs first_seat

  each : (i : ℕ) → i < length xs → IsLoad (at i)
  each i lt = are.each i no_load lt

  seat_is : (i : ℕ) → i < length xs → seat_at seats i ≡ first_seat (at i)
  seat_is i lt = get_or-map first_seat xs i no_load no_seat lt

  reach_is : (i : ℕ) → i < length xs → reach_at reaches i ≡ reach_in windows (at i)
  reach_is i lt = get_or-map (reach_in windows) xs i no_load no_reach lt

  part_is : (i : ℕ) → i < length xs → part_at reaches seats i ≡ part_in (first_seat (at i)) (reach_in windows (at i))
  part_is i lt = ap₂ part_in (seat_is i lt) (reach_is i lt)

  four : length windows ≡ 4
  four = ap length windows_are

  -- each window
  window_fits : (i : ℕ) → i < length xs → IsWindow (window_at windows (at i).p) (at i).size
  window_fits i lt = windows_fit xs windows i are windows_are lt

  in_store : (i : ℕ) → i < length xs → base i + (window_at windows (at i).p).size ≤ STORE_WORDS
  in_store i lt = windows_inside xs windows i are windows_are inside lt

  apart : (i j : ℕ) → i < j → j < length xs → base i + (window_at windows (at i).p).size ≤ base j
  apart i j less lt = before (at i).p (at j).p no_window (are.rising i j no_load less lt) (let n = (each j lt).number in let f = four in omega arith)

  within : (i : ℕ) → i < length xs → IsWithin windows (at i)
  within i lt = words_within xs windows i are windows_are inside lt

  -- the store
  store : IsStore cells
  store = subst IsStore (sym cells_are) (images_store windows zero_cells xs zero_store within)

  outside : (i j a : ℕ) → i < length xs → j < length xs → j ≢ i → a < (at i).size → IsOutside windows (base i + a) (at j)
  outside i j a li lj ne low =
      let wi = (window_fits i li).size_is in
      let wj = (window_fits j lj).size_is in
      let fj = (each j lj).fits in
      ⊎_elim
      (λ (less : j < i). let p = apart j i less li in inr (omega arith))
      (λ (more : i ≤ j). let p = apart i j (omega arith) lj in inl (omega arith))
      (cases_lt j i)

  word_is : (i a : ℕ) → i < length xs → a < (at i).size → word_there cells (base i + a) ≡ get_or (at i).words a 0
  word_is i a lt low =
      ap (λ k. word_there k (base i + a)) cells_are
      ∙ images_there windows zero_cells xs i a lt zero_store
      (zero_there (base i + a) (let p = in_store i lt in let q = (window_fits i lt).size_is in omega arith))
      within (λ j lj ne. outside i j a lt lj ne low)

  -- the places
  spot_is : (d : ℕ) → d < 16 → spot_at spots d ≡ idle_spot xs d
  spot_is d lt = ap (λ ss. spot_at ss d) spots_are ∙ number_at (idle_spot xs) d no_spot (let e = limit_is in omega arith)

  spot_past : (d : ℕ) → 16 ≤ d → spot_at spots d ≡ no_spot
  spot_past d past = ap (λ ss. spot_at ss d) spots_are ∙ number_past (idle_spot xs) d no_spot (let e = limit_is in omega arith)

  pub idle_is : (d : ℕ) → (spot_at s.spots d).flight ≡ None
  idle_is d =
      ⊎_elim
      (λ (lt : d < 16). ap (λ (x : Spot). x.flight) (spot_is d lt)
      ∙ idle_flight xs d (pool_spot (lent_kind (pool_in xs) d)) (pool_flight (lent_kind (pool_in xs) d)))
      (λ (past : 16 ≤ d). ap (λ (x : Spot). x.flight) (spot_past d past))
      (cases_lt d 16)

  no_lease : (d : ℕ) → leases_of spots d ≡ None
  no_lease d = ap lease_held (idle_is d)

  not_none : (g : ℕ) → g < length cells → group_at cells g ≡ None → ⊥
  not_none g lt is = let h = store.each g (let m = store.many in omega arith) in cc (sym is ∙ h.here)

  whole_is : AreWhole cells
  whole_is g ws is =
      ⊎_elim
      (λ (lt : g < STORE_GROUPS). let h = store.each g lt in let same : h.words ≡ ws = cc (sym h.here ∙ is) in ap length (sym same) ∙ h.full)
      (λ (past : STORE_GROUPS ≤ g). cc (sym is ∙ get_or_past cells g None (let m = store.many in omega arith)))
      (cases_lt g STORE_GROUPS)

  sound : IsSound s
  sound =
      record {
        spots = ap length spots_are ∙ length-numbers (idle_spot xs);
        whole = whole_is;
        full = λ d l is. cc (sym is ∙ no_lease d);
        inside = λ d l is. cc (sym is ∙ no_lease d);
        out = λ d g h. cc (sym h ∙ ap (λ o. has_group o g) (no_lease d));
        alone = λ d e g ne h. cc (sym h ∙ ap (λ o. has_group o g) (no_lease d));
        held = λ g lt is. absurd (not_none g lt is);
      }

  small : (i d : ℕ) → i < length xs → has (at i) d ≡ true → d < 16
  small i d lt is = small_of (numbers_in (at i).devices) d (λ k less. (each i lt).below k 0 less) is

  -- that of a slot's device
  own_there : (i d : ℕ) → i < length xs → has (at i) d ≡ true → IsOwnSpot (numbered (at i).devices d) (spot_at spots d)
  own_there i d lt is =
      subst (IsOwnSpot (numbered (at i).devices d)) (sym (spot_is d (small i d lt is)))
      (picked xs i d no_load (pool_spot (lent_kind (pool_in xs) d)) are.apart lt is)

  -- the pool, which all have
  same_pool : (i j : ℕ) → i < length xs → j < length xs → (at i).pool ≡ (at j).pool
  same_pool i j li lj =
      ⊎_elim
      (λ (less : i < j). are.common i j no_load less lj)
      (λ (more : j ≤ i). ⊎_elim
      (λ (same : j ≡ i). ap (λ k. (at k).pool) (sym same))
      (λ (ne : j ≢ i). sym (are.common j i no_load (omega arith) li))
      (cases_eq j i))
      (cases_lt i j)

  pool_is : (i : ℕ) → i < length xs → pool_in xs ≡ (at i).pool
  pool_is i lt = first_pool xs ∙ same_pool 0 i (omega arith) lt

  -- that of a number that no slot has
  pool_there : (i d : ℕ) → i < length xs → lends (at i) d ≡ true → spot_at spots d ≡ pool_spot (lent_kind (at i).pool d)
  pool_there i d lt is =
      spot_is d ((each i lt).few d is)
      ∙ unpicked xs d no_load (pool_spot (lent_kind (pool_in xs) d)) (λ j lj. not_own (has (at j) d) j lj refl)
      ∙ ap (λ ps. pool_spot (lent_kind ps d)) (pool_is i lt)
    where
      not_own : (b : Bool) (j : ℕ) → j < length xs → has (at j) d ≡ b → has (at j) d ≡ false
      not_own false j lj h = h
      not_own true j lj h = cc (sym ((each j lj).owned d h) ∙ ap (λ ps. is_some (lent_kind ps d)) (same_pool j i lj lt) ∙ is)

  -- one program's part
  module _ (i : ℕ) (lt : i < length xs) where
    abbrev part : Part
    part = part_in (first_seat (at i)) (reach_in windows (at i))

    lent_small : (d : ℕ) → in_pool part d ≡ true → d < device_count
    lent_small d is =
        ⊎_elim
        (λ (low : d < device_count). low)
        (λ (past : device_count ≤ d). cc (sym is ∙ ap is_some (number_past (lent_kind (at i).pool) d None past)))
        (cases_lt d device_count)

    lent_is : (d : ℕ) → in_pool part d ≡ true → pool_kind part d ≡ lent_kind (at i).pool d
    lent_is d is = number_at (lent_kind (at i).pool) d None (lent_small d is)

    lent_there : (d : ℕ) (k : Kind) → pool_kind part d ≡ Some k → spot_at spots d ≡ pool_spot (Some k)
    lent_there d k is =
        let same : lent_kind (at i).pool d ≡ Some k = sym (lent_is d (ap is_some is)) ∙ is in
        pool_there i d lt (ap is_some same) ∙ ap pool_spot same

    some_there : (d : ℕ) → in_pool part d ≡ true → (k : Kind) × (spot_at spots d ≡ pool_spot (Some k))
    some_there d is = of_kind (pool_kind part d) refl
      where
        of_kind : (o : Option Kind) → pool_kind part d ≡ o → (k : Kind) × (spot_at spots d ≡ pool_spot (Some k))
        of_kind None h = cc (sym is ∙ ap is_some h)
        of_kind (Some k) h = (k, lent_there d k h)

    none_yet : (P : Keeping → Type 0) → All P (let ks : List Keeping = [] in ks)
    none_yet P = All-nil P

    kept_first : IsKept part s
    kept_first =
        record {
          few = lent_small;
          apart = λ d h. not_lent d h (in_pool part d) refl;
          there = λ d k is. ap (λ (x : Spot). x.fixture) (lent_there d k is);
          pooled = none_yet (λ x. in_pool part x.device ≡ true);
          kinds = none_yet (λ x. IsOfKind (pool_kind part x.device) x.loan);
          one = λ j k e less inside. absurd (omega arith);
        }
      where
        not_lent : (d : ℕ) → has (at i) d ≡ true → (b : Bool) → in_pool part d ≡ b → in_pool part d ≡ false
        not_lent d h false e = e
        not_lent d h true e = cc (sym ((each i lt).owned d h) ∙ sym (ap is_some (lent_is d e)) ∙ e)

    active_first : IsActive part
    active_first =
        record {
          sized = many_marks;
          marks = λ d is. unmarked d;
          none_left = none_yet (λ x. is_left x.loan ≡ false);
        }

  -- it has its slot's devices, and none of the pool
  has_is : (i d : ℕ) → i < length xs → has_device (part_at reaches seats i) d ≡ has (at i) d
  has_is i d lt = ap (λ q. has_device q d) (part_is i lt) ∙ or_none (has (at i) d)
    where
      or_none : (b : Bool) → (b || false) ≡ b
      or_none true = refl
      or_none false = refl

  pub running : IsRunning reaches seats s
  running =
      record {
        sound = sound;
        numbered = λ i j less lt.
            let lj : j < length xs = let m = many in omega arith in
            let li : i < length xs = omega arith in
            let a : (seat_at seats i).p ≡ (at i).p = ap (λ (x : Seat). x.p) (seat_is i li) in
            let b : (seat_at seats j).p ≡ (at j).p = ap (λ (x : Seat). x.p) (seat_is j lj) in
            let c : (at i).p < (at j).p = are.rising i j no_load less lj in
            omega arith;
        at_group = λ i lt.
            let li : i < length xs = let m = many in omega arith in
            ap (λ (r : Reach). r.base % 32) (reach_is i li) ∙ (window_fits i li).at_group;
        in_store = λ i lt.
            let li : i < length xs = let m = many in omega arith in
            let a : (reach_at reaches i).base ≡ base i = ap (λ (r : Reach). r.base) (reach_is i li) in
            let b : (reach_at reaches i).size ≡ (window_at windows (at i).p).size = ap (λ (r : Reach). r.size) (reach_is i li) in
            let c = in_store i li in
            let d = store.many in
            omega arith;
        apart = λ i j less lt.
            let lj : j < length xs = let m = many in omega arith in
            let li : i < length xs = omega arith in
            let a : (reach_at reaches i).base ≡ base i = ap (λ (r : Reach). r.base) (reach_is i li) in
            let b : (reach_at reaches i).size ≡ (window_at windows (at i).p).size = ap (λ (r : Reach). r.size) (reach_is i li) in
            let c : (reach_at reaches j).base ≡ base j = ap (λ (r : Reach). r.base) (reach_is j lj) in
            let d = apart i j less lj in
            omega arith;
        common = λ i j lt lt'.
            let li : i < length xs = let m = many in omega arith in
            let lj : j < length xs = let m = many in omega arith in
            ap (λ (r : Reach). r.pool) (reach_is i li) ∙ ap (λ ps. by_number (lent_kind ps)) (same_pool i j li lj)
            ∙ sym (ap (λ (r : Reach). r.pool) (reach_is j lj));
        kept = λ i lt.
            let li : i < length xs = let m = many in omega arith in
            subst (λ q. IsKept q s) (sym (part_is i li)) (kept_first i li);
        active = λ i lt live.
            let li : i < length xs = let m = many in omega arith in
            subst IsActive (sym (part_is i li)) (active_first i li);
        single = λ i j d lt lt' ne h.
            let li : i < length xs = let m = many in omega arith in
            let lj : j < length xs = let m = many in omega arith in
            has_is j d lj ∙ apart_both xs i j d no_load are.apart li lj ne (sym (has_is i d li) ∙ h);
        fresh = λ i d lt is unlent.
            let li : i < length xs = let m = many in omega arith in
            ap (λ (x : Spot). x.progress) (some_there i li d (sym (ap (λ q. in_pool q d) (part_is i li)) ∙ is)).1;
        fixtures = λ i d lt h.
            let li : i < length xs = let m = many in omega arith in
            let there : has (at i) d ≡ true = sym (ap (λ (r : Reach). owns r.devices d) (reach_is i li)) ∙ h in
            ap is_some (own_there i d li there).fixture ∙ some_fixture (numbered (at i).devices d) ∙ found (at i).devices d ∙ there;
        flights = λ d h is. cc (sym is ∙ idle_is d);
      }
    where
      some_fixture : (o : Option JobDevice) → is_some (fixture_on o) ≡ is_some o
      some_fixture None = refl
      some_fixture (Some x) = refl

  -- each program's own state
  module _ (i : ℕ) (lt : i < length xs) where
    abbrev l : SlotLoad
    l = at i

    abbrev q : Part
    q = part_in (first_seat l) (reach_in windows l)

    fixture_is : (d : ℕ) → own_fixture q spots d ≡ fixture_on (numbered l.devices d)
    fixture_is d = by_has (has l d) refl
      where
        by_has : (b : Bool) → has l d ≡ b → cond (has l d) (spot_at spots d).fixture None ≡ fixture_on (numbered l.devices d)
        by_has true is = ap (λ b. cond b (spot_at spots d).fixture None) is ∙ (own_there i d lt is).fixture
        by_has false is = ap (λ b. cond b (spot_at spots d).fixture None) is ∙ sym (ap fixture_on (missing l.devices d is))

    progress_is : (d : ℕ) → own_progress q spots d ≡ progress_on (numbered l.devices d)
    progress_is d = by_has (has l d) refl
      where
        by_has : (b : Bool) → has l d ≡ b → cond (has_device q d) (spot_at spots d).progress new_progress ≡ progress_on (numbered l.devices d)
        by_has true is =
            ap (λ b. cond b (spot_at spots d).progress new_progress) (ap (λ b. b || false) is)
            ∙ (own_there i d lt is).progress
        by_has false is =
            ap (λ b. cond b (spot_at spots d).progress new_progress) (ap (λ b. b || false) is)
            ∙ sym (ap progress_on (missing l.devices d is))

    fixtures_are : by_number (own_fixture q spots) ≡ by_number (λ d. fixture_on (numbered l.devices d))
    fixtures_are = numbers_same (own_fixture q spots) (λ d. fixture_on (numbered l.devices d)) None (λ d low. fixture_is d)

    progresses_are : by_number (own_progress q spots) ≡ by_number (λ d. progress_on (numbered l.devices d))
    progresses_are = numbers_same (own_progress q spots) (λ d. progress_on (numbered l.devices d)) new_progress (λ d low. progress_is d)

    here : (x : ℕ) → x < STORE_WORDS → word_at_place cells (leases_of spots) x ≡ word_there cells x
    here x low =
        let h = store.each (x / 32) (omega arith) in
        ap (word_where (leases_of spots) x) h.here ∙ sym (ap (word_where none_lent x) h.here)

    abbrev word : ℕ → ℕ
    word a = word_at_place cells (leases_of spots) (base i + a)

    size_same : (window_at windows l.p).size ≡ l.size
    size_same = (window_fits i lt).size_is

    words_are : map word (range_with_len 0 (window_at windows l.p).size) ≡ filled l.size l.words
    words_are =
        ext_get_or 0 _ _ (length-map-range_with_len word 0 (window_at windows l.p).size ∙ size_same ∙ sym filled_len)
        (λ a less.
        let low : a < (window_at windows l.p).size = let e = length-map-range_with_len word 0 (window_at windows l.p).size in omega arith in
        let low' : a < l.size = let e = size_same in omega arith in
        let top : base i + a < STORE_WORDS = let e = in_store i lt in omega arith in
        get_or-map-range_with_len word 0 (window_at windows l.p).size a a 0 low (omega arith)
        ∙ here (base i + a) top ∙ word_is i a lt low' ∙ sym (filled_at l.size l.words a))
      where
        filled_len : length (filled l.size l.words) ≡ l.size
        filled_len =
            length-append l.words (replicate (l.size - length l.words) 0)
            ∙ ap (λ n. length l.words + n) (length-replicate (l.size - length l.words) 0)
            ∙ (let c = (each i lt).fits in let e : length l.words + (l.size - length l.words) ≡ l.size = omega arith in e)

    stock_is : own_stock q 0 s ≡ (begin (loaded_slot l)).stock
    stock_is = λ k. record {
      claims = record { size = size_same k; claimed = unclaimed; fixtures = fixtures_are k; pool = by_number (lent_kind l.pool); served = l.served };
      spooled = [];
      asked = 0;
      stints = [];
      store = words_are k;
      devices = progresses_are k;
    }

    pub own_is : own_state reaches seats s 0 i ≡ begin (loaded_slot l)
    unfolding own_state
    own_is =
        ap₂ (λ (a : Seat) (r : Part). (let x : State = record { registers = a.registers; stock = own_stock r 0 s } in x)) (seat_is i lt) (part_is i lt)
        ∙ ap (λ (k : Stock). (let x : State = record { registers = new_registers; stock = k } in x)) stock_is

-- nobody has a device of the pool before its first order
first_nobodys : (xs : List SlotLoad) (d : ℕ) → borrower (map first_seat xs) d ≡ None
first_nobodys [] d = refl
first_nobodys (x ∷ xs) d = first_nobodys xs d

-- what is loaded is what the slots reach
reach_same : (windows : List Window) (l : Loaded) → reach_of windows l ≡ reach_in windows (loaded l)
reach_same windows l =
    ap (λ ns. (let r : Reach = record {
      base = (window_at windows l.p).base;
      size = (window_at windows l.p).size;
      devices = ns;
      pool =
          by_number (lent_kind l.pool.items);
      served = l.served;
    } in r))
    (sym (map_twice (λ (x : JobDevice). x.d) shown_device l.devices.items))

reaches_same : (windows : List Window) (ls : List Loaded) → reaches_in windows ls ≡ map (reach_in windows) (map loaded ls)
reaches_same windows [] = refl
reaches_same windows (l ∷ ls) = ap₂ (λ r rs. r ∷ rs) (reach_same windows l) (reaches_same windows ls)

module _ (windows : List Window) (slots : List Loaded) (store : Cells) (programs : List Program) (places : List Place) (are : AreLoads (map loaded slots))
    (windows_are : windows ≡ windows_from DIRECTOR_WORDS (sizes_of (map loaded slots))) (inside : All IsInStore windows) (before : AllPairs IsBefore windows)
    (store_is : store ≡ with_images windows zero_cells (map loaded slots))
    (programs_made : seats_in programs ≡ map (λ (l : Loaded). first_seat (loaded l)) slots)
    (none_held : map (λ (x : Program). x.hold) programs ≡ map (λ (l : Loaded). None) slots)
    (spots_are : map spot_of places ≡ by_number (idle_spot (map loaded slots))) (dry : AreDry places) where
  abbrev loads : List SlotLoad
  loads = map loaded slots

  programs_are : seats_in programs ≡ map first_seat loads
  programs_are = programs_made ∙ sym (map_twice first_seat loaded slots)

  runs : IsRunning (reaches_in windows slots) (seats_in programs) (shared_in store places)
  runs =
      subst (λ r. IsRunning r (seats_in programs) (shared_in store places)) (sym (reaches_same windows slots))
      (subst (λ t. IsRunning (map (reach_in windows) loads) t (shared_in store places)) (sym programs_are)
      (running loads are windows windows_are inside before store store_is (map spot_of places) spots_are))

  pub is_yard : IsYard slots windows store programs places
  is_yard =
      record {
        placed = windows_are;
        many = sym (length-map slots (λ (l : Loaded). first_seat (loaded l))) ∙ sym (ap length programs_made) ∙ length-map programs seat_of;
        dry = dry;
        running = runs;
      }

  pub is_loaded : IsLoaded loads (standing slots windows store programs places)
  is_loaded =
      record {
        loads_are = are;
        slots_are = sym (map_twice loaded_slot loaded slots);
        can_be_loaded = are_slots loads are;
        programs_are = programs_are;
        no_hold = none_held ∙ sym (map_twice (λ (l : SlotLoad). None) loaded slots);
        running = runs;
        starts = λ i l lt.
            ap₂ (λ r t. own_state r t (shared_in store places) 0 i) (reaches_same windows slots) programs_are
            ∙ own_is loads are windows windows_are inside before store store_is (map spot_of places) spots_are i lt
            ∙ ap (λ x. begin (loaded_slot x)) (get_or_default loads i no_load l lt);
        idle = idle_is loads are windows windows_are inside before store store_is (map spot_of places) spots_are;
        unlent = λ d. ap (λ t. borrower t d) programs_are ∙ first_nobodys loads d;
      }
