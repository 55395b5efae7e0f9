-- Words move and transfers end in the machine.
use Rattle.std.proofs.Common.{◌≡◌, ◌≢◌, ℕ, ◌+◌, ◌<◌, ◌≤◌, ◌⊎◌, min, true, List, length, get_or, set, take, drop, Option, Some, None, is_some, cond, eqb, refl}
use Rattle.std.proofs.Common.{sym, ap, ap₂, ◌∙◌, subst, ⊎_elim, arith}
use Rattle.std.proofs.lemmas.Bool.{cases_eq, eq-eqb, ne_eqb}
use Rattle.std.proofs.lemmas.List.{get_or-set_same, get_or-set_other, set-get_or}
use Rattle.kdf_transfer.specs.AtOnce.{is_input}
use Rattle.kdf_transfer.specs.InFlight.{total_of, moves_of, moved_by}
use Rattle.kdf_transfer.proofs.Moving.{words-moved}
use Rattle.kdf_transfer.proofs.Words.{some-moved, covers-moved}
use Rattle.kdf_transfer.specs.ByNumber.{device_count}
use Rattle.kdf_processor.specs.declared.registers.Registers.{Registers}
use Rattle.kdf_processor.specs.State.{State}
use Rattle.kdf_places.specs.Spots.{Held, Spot, no_spot, spot_at}
use Rattle.kdf_yard.specs.Fields.Parts.{Part, Seat, Reach, has_device, in_pool, own_stock}
use Rattle.kdf_yard.specs.Fields.Stints.{lends}
use Rattle.kdf_journal.specs.declared.kind.Kind.{Kind}
use Rattle.kdf_yard.proofs.Physical.PoolDevices.{has_pooled}
use Rattle.kdf_places.specs.Shared.{Shared}
use Rattle.kdf_places.specs.Transfers.{moved_spot, moved_held, after_move, ended_spot, ended_by, after_end, last_lease, back_cells, IsBack}
use Rattle.kdf_yard.specs.Fields.Running.{seat_at, part_at, own_state, moved_own, ended_own, IsHeld, IsRunning}
use Rattle.kdf_yard.specs.Fields.Sound.{IsFlightOf}
use Rattle.kdf_yard.proofs.Physical.WordsLand.{moves_own, moves_other}
use Rattle.kdf_yard.proofs.Physical.GroupsComeBack.{sound-move, sound-end, end_own, end_other, length-end, back-end}
use Rattle.kdf_yard.proofs.Physical.PlacesAlike.{kept_by, same_at}
use Rattle.kdf_yard.proofs.Turns.MomentsKept.{gained_none, running_by}
use Rattle.kdf_yard.proofs.Physical.PartsAlike.{same_part}
use Rattle.kdf_yard.proofs.Turns.OneOrder.{state, parts_apart, numbers_apart}

-- a flight after n words more
flight-moved : (q : Part) (d n : ℕ) (x : Spot) (h : Held) → IsFlightOf q d x h
    → IsFlightOf q d (moved_spot n x) (record { p = h.p; motion = moved_by n h.motion })
unfolding moved_by
flight-moved q d n x h is =
    let t = h.motion in
    record {
      owner = is.owner;
      its = is.its;
      fixture = is.fixture;
      progress = is.progress;
      lease = some-moved (is_input t.order) (take n (drop t.moved (moves_of t))) t.lease ∙ is.lease;
      covers = λ has. covers-moved (is_input t.order) (take n (drop t.moved (moves_of t))) t.lease t.first t.last (is.covers has);
      low = is.low;
      high = is.high;
      moved = (let e : min (t.moved + n) (total_of t) ≤ total_of t = omega arith in subst (λ ws. min (t.moved + n) (total_of t) ≤ length ws)
          (sym (words-moved n t)) e);
    }

-- where a device has no transfer, nothing moves
pub none_moved : (s : Shared) (d n : ℕ) → (spot_at s.spots d).flight ≡ None → after_move d n s ≡ s
none_moved s d n idle =
    let same : moved_spot n (spot_at s.spots d) ≡ spot_at s.spots d =
    ap (λ f. let x : Spot = record { fixture = (spot_at s.spots d).fixture; progress = (spot_at s.spots d).progress; flight = f } in x)
    (ap (moved_held n) idle ∙ sym idle) in
    ap (λ ss. let x : Shared = record { cells = s.cells; spots = ss } in x) (ap (set s.spots d) same ∙ set-get_or s.spots d no_spot)

pub none_ended : (s : Shared) (d : ℕ) → (spot_at s.spots d).flight ≡ None → after_end d s ≡ s
none_ended s d idle =
    ap₂ (λ f y. let x : Shared = record { cells = back_cells (last_lease f) s.cells; spots = set s.spots d y } in x) idle
    (ap (ended_by (spot_at s.spots d)) idle)
    ∙ ap (λ ss. let x : Shared = record { cells = s.cells; spots = ss } in x) (set-get_or s.spots d no_spot)

pub chosen : (p q : ℕ) (x y : State) → p ≡ q → cond (eqb p q) x y ≡ x
chosen p q x y e = ap (λ b. cond b x y) (eq-eqb p q e)

pub passed : (p q : ℕ) (x y : State) → p ≢ q → cond (eqb p q) x y ≡ y
passed p q x y e = ap (λ b. cond b x y) (ne_eqb p q e)

module _ (reaches : List Reach) (seats : List Seat) (s : Shared) (d : ℕ) (run : IsRunning reaches seats s) (small : d < device_count) where
  inside : d < length s.spots
  inside = let e = run.sound.spots in omega arith

  -- a device of the pool that a program has is lent to it
  lent_of : (j i e : ℕ) → i < length seats → j < length seats → in_pool (part_at reaches seats i) e ≡ true → has_device (part_at reaches seats j) e ≡ true
      → lends (seat_at seats j).stints e ≡ true
  lent_of j i e lt lt' pooled has =
      sym (has_pooled (part_at reaches seats j) s e (run.kept j lt')
      (ap (λ ks. is_some (get_or ks e (let k : Option Kind = None in k))) (run.common j i lt' lt) ∙ pooled)) ∙ has

  -- a transfer is of program i, or its owner is another
  module _ (i : ℕ) (lt : i < length seats) (h : Held) (flies : (spot_at s.spots d).flight ≡ Some h) where
    abbrev q : Part
    q = part_at reaches seats i

    held : IsHeld reaches seats d (spot_at s.spots d) h
    held = run.flights d h flies

    abbrev owner : Part
    owner = part_at reaches seats held.by

    its : held.by ≡ i → (h.p ≡ q.p) × IsFlightOf q d (spot_at s.spots d) h
    its same = let flight = subst (λ a. IsFlightOf (part_at reaches seats a) d (spot_at s.spots d) h) same held.flight in (flight.owner, flight)

    others : held.by ≢ i → h.p ≢ q.p
    others ne same = numbers_apart reaches seats s held.by i run held.there lt ne (sym held.flight.owner ∙ same)

    apart : held.by ≢ i → (owner.base + owner.size ≤ q.base) ⊎ (q.base + q.size ≤ owner.base)
    apart ne = parts_apart reaches seats s held.by i run held.there lt ne

  -- what each program shows after n words
  pub flown_own : (n m i : ℕ) → i < length seats → own_state reaches seats (after_move d n s) m i ≡ moved_own (part_at reaches seats i) n
      (spot_at s.spots d).flight (own_state reaches seats s m i)
  unfolding own_state
  flown_own n m i lt = by_flight (spot_at s.spots d).flight refl
    where
      r : Registers
      r = (seat_at seats i).registers

      by_flight : (f : Option Held) → (spot_at s.spots d).flight ≡ f → state r (own_stock (part_at reaches seats i) m (after_move d n s))
          ≡ moved_own (part_at reaches seats i) n f (state r (own_stock (part_at reaches seats i) m s))
      by_flight None idle = ap (λ x. state r (own_stock (part_at reaches seats i) m x)) (none_moved s d n idle)
      by_flight (Some h) flies =
          ⊎_elim
          (λ (same : (held i lt h flies).by ≡ i).
          let is = its i lt h flies same in
          ap (state r) (moves_own s (part_at reaches seats i) d h n run.sound small flies is.1 m)
          ∙ sym (chosen h.p (part_at reaches seats i).p _ _ is.0))
          (λ (ne : (held i lt h flies).by ≢ i).
          ap (state r) (moves_other s (owner i lt h flies) d h n run.sound small flies (held i lt h flies).flight m (part_at reaches seats i)
          (apart i lt h flies ne))
          ∙ sym (passed h.p (part_at reaches seats i).p _ _ (others i lt h flies ne)))
          (cases_eq (held i lt h flies).by i)

  pub flown_running : (n : ℕ) → IsRunning reaches seats (after_move d n s)
  flown_running n = by_flight (spot_at s.spots d).flight refl
    where
      by_flight : (f : Option Held) → (spot_at s.spots d).flight ≡ f → IsRunning reaches seats (after_move d n s)
      by_flight None idle = subst (IsRunning reaches seats) (sym (none_moved s d n idle)) run
      by_flight (Some h) flies =
          let of = run.flights d h flies in
          running_by reaches seats seats s (after_move d n s) run refl (λ i. same_part (part_at reaches seats i)) refl
          (sound-move s (part_at reaches seats of.by) d h n run.sound small flies of.flight)
          (gained_none reaches seats)
          (λ i e lt pooled unlent. same_at (λ (x : Spot). x.progress) s.spots d e (moved_spot n (spot_at s.spots d)) refl ∙ run.fresh i e lt pooled unlent)
          (λ i e lt flies' has. has)
          (λ e some. ⊎_elim
          (λ (same : e ≡ d). ap (λ k. is_some (spot_at (after_move d n s).spots k).fixture) same
          ∙ ap (λ (x : Spot). is_some x.fixture) (get_or-set_same s.spots d _ no_spot inside)
          ∙ (ap (λ k. is_some (spot_at s.spots k).fixture) (sym same) ∙ some))
          (λ (ne : e ≢ d). ap (λ (x : Spot). is_some x.fixture) (get_or-set_other s.spots d e _ no_spot ne) ∙ some)
          (cases_eq e d))
          (λ e k flies'. ⊎_elim
          (λ (same : e ≡ d).
          let here : spot_at (after_move d n s).spots e ≡ moved_spot n (spot_at s.spots d) = ap (spot_at (after_move d n s).spots) same
          ∙ get_or-set_same s.spots d _ no_spot inside in
          let is : (let x : Held = record { p = h.p; motion = moved_by n h.motion } in x) ≡ k =
          cc (sym (ap (λ (x : Spot). x.flight) here ∙ ap (moved_held n) flies) ∙ flies') in
          let begun = flight-moved (part_at reaches seats of.by) d n (spot_at s.spots d) h of.flight in
          record {
            by = of.by;
            there = of.there;
            flight =
                subst (λ y. IsFlightOf (part_at reaches seats of.by) e y k) (sym here)
                (subst (IsFlightOf (part_at reaches seats of.by) e (moved_spot n (spot_at s.spots d))) is
                (subst (λ y. IsFlightOf (part_at reaches seats of.by) y (moved_spot n (spot_at s.spots d)) (record { p = h.p; motion = moved_by n h.motion }))
                (sym same) begun));
          })
          (λ (ne : e ≢ d).
          let there = get_or-set_other s.spots d e (moved_spot n (spot_at s.spots d)) no_spot ne in
          subst (λ y. IsHeld reaches seats e y k) (sym there) (run.flights e k (ap (λ (x : Spot). x.flight) (sym there) ∙ flies')))
          (cases_eq e d))
          (λ i lt. kept_by (part_at reaches seats i) s (after_move d n s) (run.kept i lt)
          (λ e. same_at (λ (x : Spot). x.fixture) s.spots d e (moved_spot n (spot_at s.spots d)) refl))
          run.active

  -- what each program shows after the end
  pub ended_state : (m i : ℕ) → i < length seats → own_state reaches seats (after_end d s) m i ≡ ended_own (part_at reaches seats i) d
      (spot_at s.spots d).flight (own_state reaches seats s m i)
  unfolding own_state
  ended_state m i lt = by_flight (spot_at s.spots d).flight refl
    where
      r : Registers
      r = (seat_at seats i).registers

      by_flight : (f : Option Held) → (spot_at s.spots d).flight ≡ f → state r (own_stock (part_at reaches seats i) m (after_end d s))
          ≡ ended_own (part_at reaches seats i) d f (state r (own_stock (part_at reaches seats i) m s))
      by_flight None idle = ap (λ x. state r (own_stock (part_at reaches seats i) m x)) (none_ended s d idle)
      by_flight (Some h) flies =
          ⊎_elim
          (λ (same : (held i lt h flies).by ≡ i).
          let is = its i lt h flies same in
          ap (state r) (end_own s (part_at reaches seats i) d h run.sound small flies is.1 m)
          ∙ sym (chosen h.p (part_at reaches seats i).p _ _ is.0))
          (λ (ne : (held i lt h flies).by ≢ i).
          let of = held i lt h flies in
          ap (state r) (end_other s (owner i lt h flies) d h run.sound small flies of.flight m (part_at reaches seats i) (apart i lt h flies ne)
          (run.single of.by i d of.there lt ne of.flight.its))
          ∙ sym (passed h.p (part_at reaches seats i).p _ _ (others i lt h flies ne)))
          (cases_eq (held i lt h flies).by i)

  -- the groups of the lease are out
  pub back : IsBack s.cells (last_lease (spot_at s.spots d).flight)
  back = by_flight (spot_at s.spots d).flight refl
    where
      by_flight : (f : Option Held) → (spot_at s.spots d).flight ≡ f → IsBack s.cells (last_lease (spot_at s.spots d).flight)
      by_flight None idle = subst (λ f. IsBack s.cells (last_lease f)) (sym idle) tt
      by_flight (Some h) flies = let of = run.flights d h flies in back-end s (part_at reaches seats of.by) d h run.sound small flies of.flight

  pub ended_running : IsRunning reaches seats (after_end d s)
  ended_running = by_flight (spot_at s.spots d).flight refl
    where
      by_flight : (f : Option Held) → (spot_at s.spots d).flight ≡ f → IsRunning reaches seats (after_end d s)
      by_flight None idle = subst (IsRunning reaches seats) (sym (none_ended s d idle)) run
      by_flight (Some h) flies =
          let of = run.flights d h flies in
          let y_is : ended_spot (spot_at s.spots d) ≡ ended_by (spot_at s.spots d) (Some h) = ap (ended_by (spot_at s.spots d)) flies in
          running_by reaches seats seats s (after_end d s) run refl (λ i. same_part (part_at reaches seats i))
          (length-end s (part_at reaches seats of.by) d h run.sound small flies of.flight)
          (sound-end s (part_at reaches seats of.by) d h run.sound small flies of.flight)
          (gained_none reaches seats)
          (λ i e lt pooled unlent. ⊎_elim
          (λ (same : e ≡ d).
          cc (sym (lent_of of.by i e lt of.there pooled (ap (has_device (part_at reaches seats of.by)) same ∙ of.flight.its)) ∙ unlent of.by of.there))
          (λ (ne : e ≢ d). ap (λ (x : Spot). x.progress) (get_or-set_other s.spots d e _ no_spot ne) ∙ run.fresh i e lt pooled unlent)
          (cases_eq e d))
          (λ i e lt flies' has. has)
          (λ e some. ⊎_elim
          (λ (same : e ≡ d).
          ap (λ k. is_some (spot_at (after_end d s).spots k).fixture) same
          ∙ ap (λ (x : Spot). is_some x.fixture) (get_or-set_same s.spots d _ no_spot inside ∙ y_is)
          ∙ (ap (λ k. is_some (spot_at s.spots k).fixture) (sym same) ∙ some))
          (λ (ne : e ≢ d). ap (λ (x : Spot). is_some x.fixture) (get_or-set_other s.spots d e _ no_spot ne) ∙ some)
          (cases_eq e d))
          (λ e k flies'. ⊎_elim
          (λ (same : e ≡ d).
          let none = ap (λ i. (spot_at (after_end d s).spots i).flight) same
          ∙ ap (λ (x : Spot). x.flight) (get_or-set_same s.spots d (ended_spot (spot_at s.spots d)) no_spot inside ∙ y_is) in
          cc (sym none ∙ flies'))
          (λ (ne : e ≢ d).
          let there = get_or-set_other s.spots d e (ended_spot (spot_at s.spots d)) no_spot ne in
          subst (λ y. IsHeld reaches seats e y k) (sym there) (run.flights e k (ap (λ (x : Spot). x.flight) (sym there) ∙ flies')))
          (cases_eq e d))
          (λ i lt. kept_by (part_at reaches seats i) s (after_end d s) (run.kept i lt)
          (λ e. same_at (λ (x : Spot). x.fixture) s.spots d e (ended_spot (spot_at s.spots d)) (ap (λ (x : Spot). x.fixture) y_is)))
          run.active
