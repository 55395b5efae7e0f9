-- The devices that a program has from the pool leave their places once it is over.
use Rattle.std.specs.Option.{option_map}
use Rattle.std.proofs.Common.{◌≡◌, ◌≢◌, ℕ, ◌+◌, ◌<◌, ◌≤◌, inl, ◌&&◌, ◌||◌, Bool, true, false, List, [], ◌∷◌, length, get_or, map, set, zero, suc, Option, Some}
use Rattle.std.proofs.Common.{None, is_none, is_some, cond, eqb, refl, sym, ap, ap₂, ◌∙◌, subst, ⊎_elim, arith}
use Rattle.std.proofs.lemmas.Bool.{and_from, and_parts, cases_Bool, cases_eq, cases_lt, eq-eqb, or_right}
use Rattle.std.proofs.lemmas.List.{get_or_default, get_or-set_other, get_or-set_same, get_or_past, length-map, length-set, set-get_or, set-set}
use Rattle.std.proofs.lemmas.List.Folds.{list_any_at, list_any_none}
use Rattle.kdf_journal.specs.declared.need.Need.TheVariants.{Device}
use Rattle.kdf_processor.specs.Lone.{is_live}
use Rattle.kdf_processor.specs.View.{View, first_pending}
use Rattle.kdf_transfer.specs.Devices.{Fixture, blank_fixture, new_progress}
use Rattle.kdf_yard.specs.Fields.Keeping.{IsActive, IsKept}
use Rattle.kdf_journal.specs.declared.kind.Kind.{Kind}
use Rattle.kdf_processor.specs.declared.registers.Registers.{Registers}
use Rattle.kdf_places.specs.Shared.{is_busy_in, Shared}
use Rattle.kdf_yard.specs.Fields.Shared.{Setting, view}
use Rattle.kdf_yard.specs.Fields.Parts.{Part, Reach, Seat, borrower, has_device, in_pool, own_stock, part_in, pool_kind}
use Rattle.kdf_theory.specs.Loading.{owns}
use Rattle.kdf_yard.specs.Fields.Running.{no_seat, own_state, part_at, reach_at, seat_at, IsHeld, IsRunning, IsUnlent}
use Rattle.kdf_yard.specs.Fields.Settled.{Both, both_of, holder_over, kept_from, keeping_at, retired, retired_at, settled}
use Rattle.kdf_places.specs.Spots.{Held, Spot, blank_spot, can_leave, fixture_or, is_of, no_spot, own_from, spot_at}
use Rattle.kdf_yard.specs.Fields.Stints.{Keeping, Loan, Lent, Left, Back, is_lent, is_open, lends, with_loan}
use Rattle.kdf_yard.proofs.Physical.StintsChange.{and_none, lends_there, set_one}
use Rattle.kdf_yard.proofs.Physical.PoolDevices.{IsIts, at_spot, emptied, gone_from, gone_kept, gone_kind, gone_other, gone_other_kept, gone_sound, has_it}
use Rattle.kdf_yard.proofs.Physical.PoolDevices.{left_own}
use Rattle.kdf_yard.proofs.Turns.MomentsKept.{running_by}
use Rattle.kdf_yard.proofs.Physical.PartsAlike.{SamePart}
use Rattle.kdf_yard.proofs.Turns.Borrowers.{borrower_none, borrower_same, others_none, taker_is}
use Rattle.kdf_yard.proofs.Turns.OneOrder.{state}

-- Program i gave up devices that it had from the pool: no program's own state is another for that, and no transfer
-- either.
pub record HasRetired (reaches : List Reach) (seats : List Seat) (i : ℕ) (s : Shared) (b : Both) : Type 0 where
  pub running : IsRunning reaches (set seats i b.seat) b.shared
  pub own : (asked j : ℕ) → j < length seats → own_state reaches (set seats i b.seat) b.shared asked j ≡ own_state reaches seats s asked j
  pub flights : (d : ℕ) → (spot_at b.shared.spots d).flight ≡ (spot_at s.spots d).flight
  pub registers : b.seat.registers ≡ (seat_at seats i).registers
  pub number : b.seat.p ≡ (seat_at seats i).p
  pub count : length b.seat.stints ≡ length (seat_at seats i).stints

-- none of them
pub retired_none : (reaches : List Reach) (seats : List Seat) (i : ℕ) (s : Shared) → IsRunning reaches seats s
    → HasRetired reaches seats i s (both_of (seat_at seats i) s)
retired_none reaches seats i s run =
    let same = set-get_or seats i no_seat in
    record {
      running = subst (λ xs. IsRunning reaches xs s) (sym same) run;
      own = λ n j within. ap (λ xs. own_state reaches xs s n j) same;
      flights = λ d. refl;
      registers = refl;
      number = refl;
      count = refl;
    }

-- some, and then more
pub retired_then : (reaches : List Reach) (seats : List Seat) (i : ℕ) (s : Shared) (b c : Both) → i < length seats → HasRetired reaches seats i s b
    → HasRetired reaches (set seats i b.seat) i b.shared c → HasRetired reaches seats i s c
retired_then reaches seats i s b c lt one two =
    record {
      running = subst (λ xs. IsRunning reaches xs c.shared) (set-set seats i b.seat c.seat) two.running;
      own = λ n j within. ap (λ xs. own_state reaches xs c.shared n j) (sym (set-set seats i b.seat c.seat))
          ∙ two.own n j (omega (arith, length-set seats i b.seat)) ∙ one.own n j within;
      flights = λ d. two.flights d ∙ one.flights d;
      registers = two.registers ∙ ap (λ (x : Seat). x.registers) there ∙ one.registers;
      number = two.number ∙ ap (λ (x : Seat). x.p) there ∙ one.number;
      count = two.count ∙ ap (λ (x : Seat). length x.stints) there ∙ one.count;
    }
  where
    there : seat_at (set seats i b.seat) i ≡ b.seat
    there = get_or-set_same seats i b.seat no_seat lt

lent_open : (l : Loan) → is_lent l ≡ true → is_open l ≡ true
lent_open Lent is = refl
lent_open (Left f p) is = cc
lent_open (Back f p) is = cc

none_there : (o : Option Held) → is_none o ≡ true → o ≡ None
none_there None is = refl
none_there (Some h) is = cc

some_blank : (o : Option Fixture) → is_some o ≡ true → is_some (option_map (λ (f : Fixture). blank_fixture f.kind) o) ≡ true
some_blank None is = cc
some_blank (Some f) is = refl

-- ---- one stint

module _ (reaches : List Reach) (seats : List Seat) (s : Shared) (i : ℕ) (run : IsRunning reaches seats s) (lt : i < length seats)
    (dead : is_live (seat_at seats i).registers.state ≡ false) (n : ℕ) (within : n < length (seat_at seats i).stints) where
  abbrev q : Part
  q = part_at reaches seats i

  abbrev x : Keeping
  x = keeping_at (seat_at seats i) n

  abbrev spot : Spot
  spot = spot_at s.spots x.device

  abbrev loan : Loan
  loan = Left (fixture_or spot.fixture) spot.progress

  abbrev seat : Seat
  seat = record (seat_at seats i) { stints = map (with_loan x.device loan) (seat_at seats i).stints }

  pooled : in_pool q x.device ≡ true
  pooled = (run.kept i lt).pooled n (record { device = 0; loan = Lent }) within

  lends_it : is_lent x.loan ≡ true → lends q.stints x.device ≡ true
  lends_it lent =
      list_any_at (λ (y : Keeping). eqb y.device x.device && is_lent y.loan) q.stints n (record { device = 0; loan = Lent }) within
      (and_from (eqb x.device x.device) (is_lent x.loan) (eq-eqb x.device x.device refl) lent)

  its_is : is_lent x.loan ≡ true → can_leave spot ≡ true → IsIts q s x.device
  its_is lent can = record {
    pooled = pooled;
    lent = lends_it lent;
    idle =
        none_there spot.flight (and_parts (is_some spot.fixture) (is_none spot.flight) can).1;
  }

  -- without a transfer of the program's it leaves its place
  leaves_it : ((d : ℕ) (h : Held) → (spot_at s.spots d).flight ≡ Some h → h.p ≢ (seat_at seats i).p) → is_lent x.loan ≡ true → can_leave spot ≡ true
  leaves_it alone lent = and_from (is_some spot.fixture) (is_none spot.flight) (stands (pool_kind q x.device) refl pooled) (rests spot.flight refl)
    where
      stands : (o : Option Kind) → pool_kind q x.device ≡ o → is_some o ≡ true → is_some spot.fixture ≡ true
      stands None is some = cc
      stands (Some k) is some = ap is_some ((run.kept i lt).there x.device k is)

      rests : (o : Option Held) → spot.flight ≡ o → is_none spot.flight ≡ true
      rests None is = ap is_none is
      rests (Some h) is =
          let of = run.flights x.device h is in
          ⊎_elim
          (λ (same : of.by ≡ i). absurd (alone x.device h is (of.flight.owner ∙ ap (λ k. (seat_at seats k).p) same)))
          (λ (ne : of.by ≢ i).
          cc (sym (run.single of.by i x.device of.there lt ne of.flight.its) ∙ or_right (owns q.devices x.device) (lends q.stints x.device) (lends_it lent)))
          (cases_eq of.by i)

  -- so its stint has it no longer there
  pub one_unlent : ((d : ℕ) (h : Held) → (spot_at s.spots d).flight ≡ Some h → h.p ≢ (seat_at seats i).p) → is_lent (kept_from x spot).loan ≡ false
  one_unlent alone = of (is_lent x.loan) refl
    where
      of : (b : Bool) → is_lent x.loan ≡ b → is_lent (kept_from x spot).loan ≡ false
      of true lent = ap (λ b. is_lent (cond b (record x { loan = loan }) x).loan) (and_from (is_lent x.loan) (can_leave spot) lent (leaves_it alone lent))
      of false other = ap (λ b. is_lent (cond (b && can_leave spot) (record x { loan = loan }) x).loan) other ∙ other

  inside : x.device < length s.spots
  inside = let e = run.sound.spots in let small = (run.kept i lt).few x.device pooled in omega arith

  there : seat_at (set seats i seat) i ≡ seat
  there = get_or-set_same seats i seat no_seat lt

  elsewhere : (j : ℕ) → j ≢ i → seat_at (set seats i seat) j ≡ seat_at seats j
  elsewhere j ne = get_or-set_other seats i j seat no_seat ne

  same_parts : (j : ℕ) → SamePart (part_at reaches seats j) (part_at reaches (set seats i seat) j)
  same_parts j =
      ⊎_elim
      (λ (same : j ≡ i).
      record {
        p = ap (λ k. (seat_at (set seats i seat) k).p) same ∙ ap (λ (y : Seat). y.p) there ∙ sym (ap (λ k. (seat_at seats k).p) same);
        base =
            refl;
        size = refl;
        devices = refl;
        pool = refl;
      })
      (λ (ne : j ≢ i). record { p = ap (λ (y : Seat). y.p) (elsewhere j ne); base = refl; size = refl; devices = refl; pool = refl })
      (cases_eq j i)

  module _ (lent : is_lent x.loan ≡ true) (can : can_leave spot ≡ true) where
    its : IsIts q s x.device
    its = its_is lent can

    -- no other program has it
    not_its : (j : ℕ) → j < length seats → j ≢ i → has_device (part_at reaches seats j) x.device ≡ false
    not_its j lt' ne = run.single i j x.device lt lt' (λ same. ne (sym same)) (has_it q s x.device run.sound (run.kept i lt) its)

    -- what the program has then
    has_there : has_device (part_at reaches (set seats i seat) i) x.device ≡ false
    has_there =
        ap (λ (y : Seat). has_device (part_in y (reach_at reaches i)) x.device) there
        ∙ gone_from q s x.device run.sound (run.kept i lt) its q.claimed loan (gone_kind q s x.device run.sound (run.kept i lt) its) refl

    lends_else : (j e : ℕ) → e ≢ x.device → lends (seat_at (set seats i seat) j).stints e ≡ lends (seat_at seats j).stints e
    lends_else j e other =
        ⊎_elim
        (λ (same : j ≡ i).
        ap (λ k. lends (seat_at (set seats i seat) k).stints e) same ∙ ap (λ (y : Seat). lends y.stints e) there
        ∙ lends_there q.stints x.device e loan other ∙ sym (ap (λ k. lends (seat_at seats k).stints e) same))
        (λ (ne : j ≢ i). ap (λ (y : Seat). lends y.stints e) (elsewhere j ne))
        (cases_eq j i)

    has_else : (j e : ℕ) → e ≢ x.device → has_device (part_at reaches (set seats i seat) j) e ≡ has_device (part_at reaches seats j) e
    has_else j e other = ap (λ b. owns (reach_at reaches j).devices e || b) (lends_else j e other)

    has_before : (j e : ℕ) → has_device (part_at reaches (set seats i seat) j) e ≡ true → has_device (part_at reaches seats j) e ≡ true
    has_before j e has =
        ⊎_elim
        (λ (is : e ≡ x.device).
        ⊎_elim
        (λ (same : j ≡ i).
        cc (sym has_there ∙ (ap (has_device (part_at reaches (set seats i seat) i)) (sym is)
        ∙ (ap (λ k. has_device (part_at reaches (set seats i seat) k) e) (sym same) ∙ has))))
        (λ (ne : j ≢ i). sym (ap (λ (y : Seat). has_device (part_in y (reach_at reaches j)) e) (elsewhere j ne)) ∙ has)
        (cases_eq j i))
        (λ (other : e ≢ x.device). sym (has_else j e other) ∙ has)
        (cases_eq e x.device)

    each_kept : (j : ℕ) → j < length (set seats i seat) → IsKept (part_at reaches (set seats i seat) j) (emptied x.device s)
    each_kept j lt' =
        ⊎_elim
        (λ (same : j ≡ i).
        subst (λ k. IsKept (part_at reaches (set seats i seat) k) (emptied x.device s)) (sym same)
        (subst (λ (y : Seat). IsKept (part_in y (reach_at reaches i)) (emptied x.device s)) (sym there)
        (gone_kept q s x.device run.sound (run.kept i lt) its q.claimed loan (gone_kind q s x.device run.sound (run.kept i lt) its) refl)))
        (λ (ne : j ≢ i).
        let small : j < length seats = omega (arith, length-set seats i seat) in
        subst (λ (y : Seat). IsKept (part_in y (reach_at reaches j)) (emptied x.device s)) (sym (elsewhere j ne))
        (gone_other_kept q s x.device run.sound (run.kept i lt) its (part_at reaches seats j) (not_its j small ne) (run.kept j small)))
        (cases_eq j i)

    each_active : (j : ℕ) → j < length (set seats i seat) → is_live (seat_at (set seats i seat) j).registers.state ≡ true
        → IsActive (part_at reaches (set seats i seat) j)
    each_active j lt' live =
        ⊎_elim
        (λ (same : j ≡ i). cc (sym dead ∙ (sym (ap (λ (y : Seat). is_live y.registers.state) there)
        ∙ (ap (λ k. is_live (seat_at (set seats i seat) k).registers.state) (sym same) ∙ live))))
        (λ (ne : j ≢ i).
        let small : j < length seats = omega (arith, length-set seats i seat) in
        subst (λ (y : Seat). IsActive (part_in y (reach_at reaches j))) (sym (elsewhere j ne))
        (run.active j small (ap (λ (y : Seat). is_live y.registers.state) (sym (elsewhere j ne)) ∙ live)))
        (cases_eq j i)

    fresh_then : (j e : ℕ) → j < length seats → in_pool (part_at reaches seats j) e ≡ true → IsUnlent (set seats i seat) e
        → (spot_at (emptied x.device s).spots e).progress ≡ new_progress
    fresh_then j e lt' is_pooled unlent =
        ⊎_elim
        (λ (is : e ≡ x.device).
        ap (λ k. (spot_at (emptied x.device s).spots k).progress) is
        ∙ ap (λ (y : Spot). y.progress) (get_or-set_same s.spots x.device (blank_spot spot) no_spot inside))
        (λ (other : e ≢ x.device).
        ap (λ (y : Spot). y.progress) (get_or-set_other s.spots x.device e (blank_spot spot) no_spot other)
        ∙ run.fresh j e lt' is_pooled (λ k within. sym (lends_else k e other) ∙ unlent k (omega (arith, length-set seats i seat))))
        (cases_eq e x.device)

    not_lost : (j e : ℕ) → j < length seats → is_some (spot_at (emptied x.device s).spots e).flight ≡ true → has_device (part_at reaches seats j) e ≡ true
        → has_device (part_at reaches (set seats i seat) j) e ≡ true
    not_lost j e lt' flies has =
        ⊎_elim
        (λ (is : e ≡ x.device).
        cc (sym (ap (λ k. is_some (spot_at (emptied x.device s).spots k).flight) is
        ∙ ap (λ (y : Spot). is_some y.flight) (get_or-set_same s.spots x.device (blank_spot spot) no_spot inside)) ∙ flies))
        (λ (other : e ≢ x.device). has_else j e other ∙ has)
        (cases_eq e x.device)

    one_running : IsRunning reaches (set seats i seat) (emptied x.device s)
    one_running =
        running_by reaches seats (set seats i seat) s (emptied x.device s) run (length-set seats i seat) same_parts refl
        (gone_sound q s x.device run.sound (run.kept i lt) its)
        (λ j e lt' has. inl (has_before j e has))
        fresh_then
        not_lost
        (at_spot s.spots x.device (blank_spot spot) inside (λ e z. is_some (spot_at s.spots e).fixture ≡ true → is_some z.fixture ≡ true)
        (some_blank spot.fixture) (λ e ne some. some))
        (λ e h. at_spot s.spots x.device (blank_spot spot) inside (λ k z. z.flight ≡ Some h → IsHeld reaches seats k z h) (λ flies. cc flies)
        (λ k ne. run.flights k h) e)
        each_kept each_active

    one_own : (m j : ℕ) → j < length seats → own_state reaches (set seats i seat) (emptied x.device s) m j ≡ own_state reaches seats s m j
    unfolding own_state
    one_own m j lt' =
        ⊎_elim
        (λ (same : j ≡ i).
        ap (λ k. own_state reaches (set seats i seat) (emptied x.device s) m k) same
        ∙ ap (λ (y : Seat). state y.registers (own_stock (part_in y (reach_at reaches i)) m (emptied x.device s))) there
        ∙ ap (state (seat_at seats i).registers) (left_own q s x.device run.sound (run.kept i lt) its m)
        ∙ sym (ap (λ k. own_state reaches seats s m k) same))
        (λ (ne : j ≢ i).
        ap (λ (y : Seat). state y.registers (own_stock (part_in y (reach_at reaches j)) m (emptied x.device s))) (elsewhere j ne)
        ∙ ap (state (seat_at seats j).registers) (gone_other q s x.device run.sound (run.kept i lt) its (part_at reaches seats j) (not_its j lt' ne) m))
        (cases_eq j i)

    one_left : HasRetired reaches seats i s (both_of seat (emptied x.device s))
    one_left =
        record {
          running = one_running;
          own = one_own;
          flights = at_spot s.spots x.device (blank_spot spot) inside (λ e z. z.flight ≡ (spot_at s.spots e).flight) (sym its.idle) (λ e ne. refl);
          registers = refl;
          number = refl;
          count = length-map (seat_at seats i).stints (with_loan x.device loan);
        }

    one_is : retired_at n (both_of (seat_at seats i) s) ≡ both_of seat (emptied x.device s)
    one_is =
        ap₂ (λ xs ss. both_of (let y : Seat = record (seat_at seats i) { stints = xs } in y) (let y : Shared = record s { spots = ss } in y))
        (ap (λ b. set q.stints n (cond b (record x { loan = loan }) x)) (and_from (is_lent x.loan) (can_leave spot) lent can)
        ∙ set_one q.stints n (record { device = 0; loan = Lent }) loan (run.kept i lt).one within (lent_open x.loan lent))
        (ap₂ (λ b c. set s.spots x.device (cond b (cond c (blank_spot spot) spot) spot)) lent can)

  -- where the device stays
  same_is : (is_lent x.loan && can_leave spot) ≡ false → retired_at n (both_of (seat_at seats i) s) ≡ both_of (seat_at seats i) s
  same_is stays =
      ap₂ (λ xs ss. both_of (let y : Seat = record (seat_at seats i) { stints = xs } in y) (let y : Shared = record s { spots = ss } in y))
      (ap (λ b. set q.stints n (cond b (record x { loan = loan }) x)) stays ∙ set-get_or q.stints n (record { device = 0; loan = Lent }))
      (ap (set s.spots x.device) (of (is_lent x.loan) (can_leave spot) stays) ∙ set-get_or s.spots x.device no_spot)
    where
      of : (b c : Bool) → (b && c) ≡ false → cond b (cond c (blank_spot spot) spot) spot ≡ spot
      of true true is = cc
      of true false is = refl
      of false c is = refl

  pub one_retired : HasRetired reaches seats i s (retired_at n (both_of (seat_at seats i) s))
  one_retired =
      ⊎_elim
      (λ (leaves : (is_lent x.loan && can_leave spot) ≡ true).
      let parts = and_parts (is_lent x.loan) (can_leave spot) leaves in
      subst (HasRetired reaches seats i s) (sym (one_is parts.0 parts.1)) (one_left parts.0 parts.1))
      (λ (stays : (is_lent x.loan && can_leave spot) ≡ false).
      subst (HasRetired reaches seats i s) (sym (same_is stays)) (retired_none reaches seats i s run))
      (cases_Bool (is_lent x.loan && can_leave spot))

-- ---- all of them

module _ (reaches : List Reach) (seats : List Seat) (s : Shared) (i : ℕ) (run : IsRunning reaches seats s) (lt : i < length seats)
    (dead : is_live (seat_at seats i).registers.state ≡ false) where
  abbrev first : Both
  first = both_of (seat_at seats i) s

  -- the program after some of them
  module _ (n : ℕ) (b : Both) (past : HasRetired reaches seats i s b) (le : n < length (seat_at seats i).stints) where
    abbrev seats_then : List Seat
    seats_then = set seats i b.seat

    at_then : seat_at seats_then i ≡ b.seat
    at_then = get_or-set_same seats i b.seat no_seat lt

    lt_then : i < length seats_then
    lt_then = omega (arith, length-set seats i b.seat)

    dead_then : is_live (seat_at seats_then i).registers.state ≡ false
    dead_then = ap (λ (y : Seat). is_live y.registers.state) at_then ∙ ap (λ (r : Registers). is_live r.state) past.registers ∙ dead

    within_then : n < length (seat_at seats_then i).stints
    within_then = (let e = ap (λ (y : Seat). length y.stints) at_then in let c = past.count in omega arith)

    next_retired : HasRetired reaches seats i s (retired_at n b)
    next_retired =
        retired_then reaches seats i s b (retired_at n b) lt past
        (subst (λ (y : Seat). HasRetired reaches seats_then i b.shared (retired_at n (both_of y b.shared))) at_then
        (one_retired reaches seats_then b.shared i past.running lt_then dead_then n within_then))

    next_unlent : ((d : ℕ) (h : Held) → (spot_at s.spots d).flight ≡ Some h → h.p ≢ (seat_at seats i).p)
        → is_lent (kept_from (keeping_at b.seat n) (spot_at b.shared.spots (keeping_at b.seat n).device)).loan ≡ false
    next_unlent alone =
        subst (λ (y : Seat). is_lent (kept_from (keeping_at y n) (spot_at b.shared.spots (keeping_at y n).device)).loan ≡ false) at_then
        (one_unlent reaches seats_then b.shared i past.running lt_then dead_then n within_then
        (λ d h flies same. alone d h (sym (past.flights d) ∙ flies) (same ∙ ap (λ (y : Seat). y.p) at_then ∙ past.number)))

  pub many_retired : (n : ℕ) → n ≤ length (seat_at seats i).stints → HasRetired reaches seats i s (retired n first)
  many_retired zero le = retired_none reaches seats i s run
  many_retired (suc n) le = next_retired n (retired n first) (many_retired n (omega arith)) (omega arith)

  unlent : ((d : ℕ) (h : Held) → (spot_at s.spots d).flight ≡ Some h → h.p ≢ (seat_at seats i).p) → (n : ℕ) → n ≤ length (seat_at seats i).stints → (k : ℕ)
      → k < n → is_lent (keeping_at (retired n first).seat k).loan ≡ false
  unlent alone zero le k low = absurd (omega arith)
  unlent alone (suc n) le k low =
      let past = many_retired n (omega arith) in
      let b = retired n first in
      let new = kept_from (keeping_at b.seat n) (spot_at b.shared.spots (keeping_at b.seat n).device) in
      let none : Keeping = record { device = 0; loan = Lent } in
      ⊎_elim
      (λ (same : k ≡ n).
      ap (λ j. is_lent (get_or (set b.seat.stints n new) j none).loan) same
      ∙ ap (λ (y : Keeping). is_lent y.loan) (get_or-set_same b.seat.stints n new none (let c = past.count in omega arith))
      ∙ next_unlent n b past (omega arith) alone)
      (λ (ne : k ≢ n).
      ap (λ (y : Keeping). is_lent y.loan) (get_or-set_other b.seat.stints n k new none ne)
      ∙ unlent alone n (omega arith) k (omega arith))
      (cases_eq k n)

  abbrev last : Both
  last = retired (length (seat_at seats i).stints) first

  all_retired : HasRetired reaches seats i s last
  all_retired = many_retired (length (seat_at seats i).stints) (omega arith)

  -- it has none of the pool's then
  none_held : ((d : ℕ) (h : Held) → (spot_at s.spots d).flight ≡ Some h → h.p ≢ (seat_at seats i).p) → (d : ℕ) → lends last.seat.stints d ≡ false
  none_held alone d =
      list_any_none (λ (y : Keeping). eqb y.device d && is_lent y.loan) last.seat.stints
      (λ k z within. and_none (eqb (get_or last.seat.stints k z).device d) (is_lent (get_or last.seat.stints k z).loan)
      (ap (λ (y : Keeping). is_lent y.loan) (get_or_default last.seat.stints k z (record { device = 0; loan = Lent }) within)
      ∙ unlent alone (length (seat_at seats i).stints) (omega arith) k (let c = all_retired.count in omega arith)))

  abbrev left : List Seat
  left = set seats i last.seat

  at_left : seat_at left i ≡ last.seat
  at_left = get_or-set_same seats i last.seat no_seat lt

  not_at : (j : ℕ) → j ≢ i → seat_at left j ≡ seat_at seats j
  not_at j ne = get_or-set_other seats i j last.seat no_seat ne

  -- nobody has what it had, and who has another device has it still
  left_holder : (d : ℕ) → lends last.seat.stints d ≡ false → borrower left d ≡ holder_over (seat_at seats i).p (borrower seats d)
  left_holder d none = of (lends (seat_at seats i).stints d) refl
    where
      of : (b : Bool) → lends (seat_at seats i).stints d ≡ b → borrower left d ≡ holder_over (seat_at seats i).p (borrower seats d)
      of true had =
          borrower_none left d
          (λ j within. ⊎_elim
          (λ (same : j ≡ i). ap (λ k. lends (seat_at left k).stints d) same ∙ ap (λ (y : Seat). lends y.stints d) at_left ∙ none)
          (λ (ne : j ≢ i). ap (λ (y : Seat). lends y.stints d) (not_at j ne)
          ∙ others_none reaches seats s run i lt d had j (omega (arith, length-set seats i last.seat)) ne)
          (cases_eq j i))
          ∙ sym (ap (λ b. cond b None (borrower seats d)) (taker_is reaches seats s run i lt d ∙ had))
      of false had =
          borrower_same seats left d (length-set seats i last.seat)
          (λ j within. ⊎_elim
          (λ (same : j ≡ i). ap (λ k. lends (seat_at left k).stints d) same ∙ ap (λ (y : Seat). lends y.stints d) at_left ∙ none
          ∙ sym (ap (λ k. lends (seat_at seats k).stints d) same ∙ had))
          (λ (ne : j ≢ i). ap (λ (y : Seat). lends y.stints d) (not_at j ne))
          (cases_eq j i))
          (λ j. ⊎_elim
          (λ (same : j ≡ i). ap (λ k. (seat_at left k).p) same ∙ ap (λ (y : Seat). y.p) at_left ∙ all_retired.number ∙ sym (ap (λ k. (seat_at seats k).p) same))
          (λ (ne : j ≢ i). ap (λ (y : Seat). y.p) (not_at j ne))
          (cases_eq j i))
          ∙ sym (ap (λ b. cond b None (borrower seats d)) (taker_is reaches seats s run i lt d ∙ had))

  settled_is : settled first ≡ last
  settled_is = ap (λ b. cond b first last) dead

  -- a program without a transfer gives up all that it has from the pool
  pub settled_holder : ((d : ℕ) (h : Held) → (spot_at s.spots d).flight ≡ Some h → h.p ≢ (seat_at seats i).p) → (d : ℕ)
      → borrower (set seats i (settled first).seat) d ≡ holder_over (seat_at seats i).p (borrower seats d)
  settled_holder alone d = ap (λ (b : Both). borrower (set seats i b.seat) d) settled_is ∙ left_holder d (none_held alone d)

  pub settled_over : HasRetired reaches seats i s (settled first)
  settled_over = subst (HasRetired reaches seats i s) (sym settled_is) all_retired

-- a program, whether it is over or not
pub settled_all : (reaches : List Reach) (seats : List Seat) (s : Shared) (i : ℕ) → IsRunning reaches seats s → i < length seats
    → HasRetired reaches seats i s (settled (both_of (seat_at seats i) s))
settled_all reaches seats s i run lt =
    ⊎_elim
    (λ (live : is_live (seat_at seats i).registers.state ≡ true).
    subst (HasRetired reaches seats i s) (sym
    (ap (λ b. cond b (both_of (seat_at seats i) s) (retired (length (seat_at seats i).stints) (both_of (seat_at seats i) s))) live))
    (retired_none reaches seats i s run))
    (λ (dead : is_live (seat_at seats i).registers.state ≡ false). settled_over reaches seats s i run lt dead)
    (cases_Bool (is_live (seat_at seats i).registers.state))

-- ---- transfers that would be pending

none_pending : (v : View) (p n : ℕ) (xs : List Spot) → ((k : ℕ) → k < length xs → v.is_busy (n + k) ≡ is_some (spot_at xs k).flight)
    → first_pending v (map Device (own_from p n xs)) ≡ None → (k : ℕ) → k < length xs → is_of p (spot_at xs k).flight ≡ false
none_pending v p n [] busy free k lt = absurd (omega arith)
none_pending v p n (x ∷ xs) busy free k lt =
    of (is_of p x.flight) refl
    (none_pending v p (n + 1) xs (λ j within. let e : n + 1 + j ≡ n + suc j = omega arith in ap v.is_busy e ∙ busy (suc j) (omega arith))) k lt
  where
    some_of : (o : Option Held) → is_of p o ≡ true → is_some o ≡ true
    some_of None is = cc
    some_of (Some h) is = refl

    of : (b : Bool) → is_of p x.flight ≡ b → (first_pending v (map Device (own_from p (n + 1) xs)) ≡ None → (j : ℕ) → j < length xs
        → is_of p (spot_at xs j).flight ≡ false) → (j : ℕ) → j < length (x ∷ xs) → is_of p (spot_at (x ∷ xs) j).flight ≡ false
    of true is later j within =
        let e : n ≡ n + 0 = omega arith in
        let is_busy : v.is_busy n ≡ true = ap v.is_busy e ∙ busy 0 (omega arith) ∙ some_of x.flight is in
        cc (sym (ap (λ b. first_pending v (map Device (cond b (n ∷ own_from p (n + 1) xs) (own_from p (n + 1) xs)))) is
        ∙ ap (λ b. cond b (Some (Device n)) (first_pending v (map Device (own_from p (n + 1) xs)))) is_busy) ∙ free)
    of false other later zero within = other
    of false other later (suc j) within = later
        (sym (ap (λ b. first_pending v (map Device (cond b (n ∷ own_from p (n + 1) xs) (own_from p (n + 1) xs)))) other) ∙ free) j (omega arith)

-- a program whose transfers aren't pending has none
pub alone_of : (q : Part) (t : Setting) (s : Shared) → first_pending (view q t s) (map Device (own_from q.p 0 s.spots)) ≡ None → (d : ℕ) (h : Held)
    → (spot_at s.spots d).flight ≡ Some h → h.p ≢ q.p
alone_of q t s free d h flies same =
    ⊎_elim
    (λ (lt : d < length s.spots).
    cc (sym (eq-eqb h.p q.p same) ∙ (ap (is_of q.p) (sym flies)
    ∙ none_pending (view q t s) q.p 0 s.spots (λ k within. let e : 0 + k ≡ k = omega arith in ap (is_busy_in s) e) free d lt)))
    (λ (past : length s.spots ≤ d). cc (sym (ap (λ (x : Spot). x.flight) (get_or_past s.spots d no_spot past)) ∙ flies))
    (cases_lt d (length s.spots))
