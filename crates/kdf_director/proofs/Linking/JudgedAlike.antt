-- A program that follows the journal is judged by the machine as by the journal: what of it is pending, on which
-- devices it has transfers, what holds it up, and what it is answered.
use Rattle.std.specs.Prelude.{find, map, unwrap_or}
use Rattle.std.specs.List.{filter, range_with_len}
use Rattle.std.proofs.Common.{◌≡◌, ◌≢◌, ℕ, zero, suc, ◌+◌, ◌*◌, ◌/◌, ◌<◌, ◌≤◌, Bool, true, false, ◌||◌, ◌&&◌, List, [], ◌∷◌, length, get_or, Option, Some, None}
use Rattle.std.proofs.Common.{is_some, is_none, cond, refl, sym, ap, ◌∙◌, subst, ⊎_elim, arith, not}
use Rattle.std.proofs.lemmas.Bool.{cases_Bool, cases_eq, cases_lt, or_right, and_parts, and_from, eq-eqb, ne_eqb, le-leb, lt-ltb, leb-true, ltb-true}
use Rattle.std.proofs.Math.Path.{fun_ext}
use Rattle.std.proofs.lemmas.List.{get_or_past}
use Rattle.kdf_journal.specs.declared.entry.Entry.{Entry}
use Rattle.kdf_journal.specs.Counts.{clock, pending, answers, ran, holder}
use Rattle.kdf_lockout.specs.Groups.{Lent, group_at, is_out}
use Rattle.kdf_transfer.specs.AtOnce.{has_area}
use Rattle.kdf_transfer.specs.InFlight.{Covers}
use Rattle.kdf_journal.specs.declared.need.Need.{Need}
use Rattle.kdf_journal.specs.declared.need.Need.TheVariants.{Group, Device, Pool}
use Rattle.kdf_processor.specs.Effect.{Question, IsBusy, IsOut, Time, Effect, Asking, FreeOf, OfService}
use Rattle.kdf_processor.specs.Needs.{needs}
use Rattle.kdf_processor.specs.Row.{done_by}
use Rattle.kdf_transfer.specs.Devices.{is_kind}
use Rattle.kdf_transfer.specs.Slots.{Slot}
use Rattle.kdf_processor.specs.State.{State}
use Rattle.kdf_transfer.specs.ByNumber.{device_count}
use Rattle.kdf_processor.specs.View.{groups_of, is_pending}
use Rattle.kdf_yard.specs.declared.moment.Moment.{Moment}
use Rattle.kdf_theory.specs.Flights.{Flight, touches}
use Rattle.kdf_theory.specs.Seen.{touched_below}
use Rattle.kdf_theory.specs.ByJournal.{flights_of, is_free_after, is_pending_after, mine_after, own, seen_of, seen_world, free_after}
use Rattle.kdf_theory.specs.ByJournal as told
use Rattle.kdf_theory.specs.True.{known}
use Rattle.kdf_theory.specs.World.{first_need}
use Rattle.kdf_places.specs.Words.{has_group}
use Rattle.kdf_places.specs.Spots.{Held, Spot, no_spot, spot_at, is_of, lease_held, leases_of, own_from}
use Rattle.kdf_yard.specs.Fields.Parts.{Part, Seat, Reach, is_lent_by}
use Rattle.kdf_places.specs.Shared.{Shared}
use Rattle.kdf_yard.specs.Fields.Running.{AreLent, seat_at, part_at, own_state, hold_of, answers_at, IsHeld, IsRunning}
use Rattle.kdf_yard.specs.Fields.Shared.{view, free_in, is_free_in, moment, setting}
use Rattle.kdf_yard.specs.Fields.Sound.{IsFlightOf}
use Rattle.kdf_director.specs.Fields.Following.{IsLink, Linked, IsFollowing, AreFollowing, asked_at}
use Rattle.kdf_theory.proofs.Seen.NeedsInside.{IsInside, IsNear, AreNear, needs_near, near_area, find_near, any_near}
use Rattle.kdf_director.proofs.Linking.TransfersLinked.{linked_own}
use Rattle.kdf_theory.proofs.Course.FlightsOnCourse.{IsOnCourse}
use Rattle.kdf_yard.proofs.Turns.OneOrder.{numbers_apart}
use Rattle.kdf_journal.specs.declared.kind.Kind.{Kind}
use Rattle.kdf_processor.proofs.Frees.{none_of_kind}
use Rattle.kdf_processor.proofs.RowFacts.{pool_lone}
use Rattle.kdf_theory.specs.Slots.{start}

-- two truths that follow from each other are one
both_ways : (a b : Bool) → (a ≡ true → b ≡ true) → (b ≡ true → a ≡ true) → a ≡ b
both_ways true b f g = sym (f refl)
both_ways false true f g = g refl
both_ways false false f g = refl

-- ---- groups that transfers touch

touched_some : (n : ℕ) (fs : ℕ → Option Flight) (g : ℕ) → touched_below n fs g ≡ true → (d : ℕ) × (touches (fs d) g ≡ true)
touched_some zero fs g is = cc
touched_some (suc n) fs g is =
    ⊎_elim
    (λ (here : touches (fs n) g ≡ true). (n, here))
    (λ (not : touches (fs n) g ≡ false). touched_some n fs g (sym (ap (λ b. b || touched_below n fs g) not) ∙ is))
    (cases_Bool (touches (fs n) g))

touched_by : (n : ℕ) (fs : ℕ → Option Flight) (g d : ℕ) → d < n → touches (fs d) g ≡ true → touched_below n fs g ≡ true
touched_by zero fs g d lt is = absurd (omega arith)
touched_by (suc n) fs g d lt is =
    ⊎_elim
    (λ (same : d ≡ n). ap (λ b. b || touched_below n fs g) (subst (λ k. touches (fs k) g ≡ true) same is))
    (λ (ne : d ≢ n). or_right _ _ (touched_by n fs g d (omega arith) is))
    (cases_eq d n)

some_flight : (o : Option Flight) (g : ℕ) → touches o g ≡ true → (f : Flight) × (o ≡ Some f)
some_flight None g is = cc
some_flight (Some f) g is = (f, refl)

pub some_lease : (o : Option Lent) → is_some o ≡ true → (k : Lent) × (o ≡ Some k)
some_lease None h = cc
some_lease (Some k) h = (k, refl)

none_here : (o : Option (List ℕ)) → is_none o ≡ true → o ≡ None
none_here None is = refl
none_here (Some ws) is = cc

-- a transfer is of slot p where the journal tells it of p
linked_of : (q : Part) (d : ℕ) (o : Option Held) (f : Option Flight) → Linked q d o f → is_of q.p o ≡ is_some f
linked_of q d None None link = refl
linked_of q d None (Some f) link = absurd link
linked_of q d (Some h) None link = ne_eqb h.p q.p link
linked_of q d (Some h) (Some f) link = eq-eqb h.p q.p link.owner

-- devices with transfers, one after another
own_from_is : (p : ℕ) (test : ℕ → Bool) (d : ℕ) (spots : List Spot) → ((k : ℕ) → k < length spots → is_of p (spot_at spots k).flight ≡ test (d + k))
    → own_from p d spots ≡ filter test (range_with_len d (length spots))
own_from_is p test d [] same = refl
own_from_is p test d (x ∷ spots) same =
    let first : is_of p x.flight ≡ test d = same 0 (omega arith) ∙ ap test (let e : d + 0 ≡ d = omega arith in e) in
    ap (λ b. cond b (d ∷ own_from p (d + 1) spots) (own_from p (d + 1) spots)) first
    ∙ ap (λ ds. cond (test d) (d ∷ ds) ds)
    (own_from_is p test (d + 1) spots (λ k lt. same (suc k) (omega arith) ∙ ap test (let e : d + suc k ≡ d + 1 + k = omega arith in e)))

-- what an order that asks is told decides what it does, and nothing else is asked
pub done_alike : (a b : Question → ℕ) (size : ℕ) (e : Effect) (s : State) → IsInside size e
    → ((first last : ℕ) → AreNear size (map Group (groups_of first last)) → a (IsOut first last) ≡ b (IsOut first last))
    → ((d : ℕ) → a (IsBusy d) ≡ b (IsBusy d)) → ((kind : Kind) → a (FreeOf kind) ≡ b (FreeOf kind)) → ((word : ℕ) → a (OfService word) ≡ b (OfService word))
    → a Time ≡ b Time → done_by a e s ≡ done_by b e s
done_alike a b size (Asking (IsBusy d) after) s is out busy free served time = ap (λ n. done_by (λ _. n) (Asking (IsBusy d) after) s) (busy d)
done_alike a b size (Asking (IsOut first last) after) s is out busy free served time = ap (λ n. done_by (λ _. n) (Asking (IsOut first last) after) s)
    (out first last (near_area size first last is))
done_alike a b size (Asking Time after) s is out busy free served time = ap (λ n. done_by (λ _. n) (Asking Time after) s) time
done_alike a b size (Asking (FreeOf kind) after) s is out busy free served time = ap (λ n. done_by (λ _. n) (Asking (FreeOf kind) after) s) (free kind)
done_alike a b size (Asking (OfService word) after) s is out busy free served time = ap (λ n. done_by (λ _. n) (Asking (OfService word) after) s) (served word)
done_alike a b size e s is out busy free served time = refl

module _ (slots : List Slot) (J : List Entry) (reaches : List Reach) (seats : List Seat) (s : Shared) (run : IsRunning reaches seats s)
    (old : AreFollowing slots J reaches seats s) (i : ℕ) (lt : i < length seats) (course : IsOnCourse slots J (seat_at seats i).p) where
  abbrev q : Part
  q = part_at reaches seats i

  abbrev fs : ℕ → Option Flight
  fs = flights_of slots J q.p

  fol : IsFollowing slots J q (own_state reaches seats s (asked_at seats J i) i) s
  fol = old.each i lt

  -- a transfer of the program
  module _ (d : ℕ) (h : Held) (flies : (spot_at s.spots d).flight ≡ Some h) where
    held : IsHeld reaches seats d (spot_at s.spots d) h
    held = run.flights d h flies

    pub mine_is : h.p ≡ q.p → IsFlightOf q d (spot_at s.spots d) h
    mine_is same =
        ⊎_elim
        (λ (is : held.by ≡ i). subst (λ a. IsFlightOf (part_at reaches seats a) d (spot_at s.spots d) h) is held.flight)
        (λ (ne : held.by ≢ i). absurd (numbers_apart reaches seats s held.by i run held.there lt ne (sym held.flight.owner ∙ same)))
        (cases_eq held.by i)

    -- one over a group of the program's window is the program's
    its : (g : ℕ) → 32 * g < q.size → has_group (leases_of s.spots d) (q.base / 32 + g) ≡ true → h.p ≡ q.p
    its g near has =
        let lease = some_lease h.motion.lease (lease_there h.motion.lease (sym (ap (λ o. has_group (lease_held o) (q.base / 32 + g)) flies) ∙ has)) in
        let area : has_area h.motion.order ≡ true = sym held.flight.lease ∙ ap is_some lease.1 in
        let c = subst (λ o. Covers o h.motion.first h.motion.last) lease.1 (held.flight.covers area) in
        let in_it = and_parts _ _ (sym (ap (λ o. has_group o (q.base / 32 + g)) (ap lease_held flies ∙ lease.1)) ∙ has) in
        let from = leb-true lease.0.first (q.base / 32 + g) in_it.0 in
        let to = ltb-true (q.base / 32 + g) (lease.0.first + length lease.0.groups) in_it.1 in
        let first = c.first_group in
        let count = c.count in
        let low = held.flight.low area in
        let high = held.flight.high area in
        let at = run.at_group i lt in
        let at' = run.at_group held.by held.there in
        ⊎_elim
        (λ (same : held.by ≡ i). held.flight.owner ∙ ap (λ a. (seat_at seats a).p) same)
        (λ (ne : held.by ≢ i).
        ⊎_elim
        (λ (below : held.by < i). let gap = run.apart held.by i below lt in absurd (omega arith))
        (λ (above : i ≤ held.by). let gap = run.apart i held.by (omega arith) held.there in absurd (omega arith))
        (cases_lt held.by i))
        (cases_eq held.by i)
      where
        lease_there : (o : Option Lent) → has_group o (q.base / 32 + g) ≡ true → is_some o ≡ true
        lease_there None is = cc
        lease_there (Some l) is = refl

  -- a group that one of its transfers touches is out
  touched_out : (d g : ℕ) → touches (fs d) g ≡ true → is_out s.cells (q.base / 32 + g) ≡ true
  touched_out d g is =
      let f = some_flight (fs d) g is in
      by_flight (spot_at s.spots d).flight refl f.0 f.1
    where
      by_flight : (o : Option Held) → (spot_at s.spots d).flight ≡ o → (f : Flight) → fs d ≡ Some f → is_out s.cells (q.base / 32 + g) ≡ true
      by_flight None idle f there = absurd (subst (Linked q d None) there (subst (λ o. Linked q d o (fs d)) idle (fol.linked d)))
      by_flight (Some h) flies f there =
          let link : IsLink q d h f = subst (Linked q d (Some h)) there (subst (λ o. Linked q d o (fs d)) flies (fol.linked d)) in
          let flight = mine_is d h flies link.owner in
          let parts = and_parts _ _ (sym (ap (λ o. touches o g) there) ∙ is) in
          let range = and_parts _ _ parts.1 in
          let low = leb-true (f.first / 32) g range.0 in
          let high = leb-true g (f.last / 32) range.1 in
          let has : has_area h.motion.order ≡ true = ap has_area link.order ∙ parts.0 in
          let lease = some_lease h.motion.lease (flight.lease ∙ has) in
          let c = subst (λ o. Covers o h.motion.first h.motion.last) lease.1 (flight.covers has) in
          let at = run.at_group i lt in
          let first = link.first in
          let last = link.last in
          let group = c.first_group in
          let count = c.count in
          let in_low : lease.0.first ≤ q.base / 32 + g = omega arith in
          let in_high : q.base / 32 + g < lease.0.first + length lease.0.groups = omega arith in
          ap is_none (run.sound.out d (q.base / 32 + g)
          (ap (λ o. has_group o (q.base / 32 + g)) (ap lease_held flies ∙ lease.1)
          ∙ and_from _ _ (le-leb lease.0.first (q.base / 32 + g) in_low) (lt-ltb (q.base / 32 + g) (lease.0.first + length lease.0.groups) in_high)))

  -- and a group of its window that is out is touched by one of them
  out_touched : (g : ℕ) → 32 * g < q.size → is_out s.cells (q.base / 32 + g) ≡ true → touched_below device_count fs g ≡ true
  out_touched g near out =
      let at = run.at_group i lt in
      let fits = run.in_store i lt in
      let inside : q.base / 32 + g < length s.cells = omega arith in
      let lease = run.sound.held (q.base / 32 + g) inside (none_here (group_at s.cells (q.base / 32 + g)) out) in
      by_flight lease.0 (spot_at s.spots lease.0).flight refl lease.1
    where
      by_flight : (d : ℕ) (o : Option Held) → (spot_at s.spots d).flight ≡ o → has_group (leases_of s.spots d) (q.base / 32 + g) ≡ true
          → touched_below device_count fs g ≡ true
      by_flight d None idle has = cc (sym (ap (λ o. has_group (lease_held o) (q.base / 32 + g)) idle) ∙ has)
      by_flight d (Some h) flies has =
          let same = its d h flies g near has in
          let f = linked_own q d h (fs d) same (subst (λ o. Linked q d o (fs d)) flies (fol.linked d)) in
          let flight = mine_is d h flies same in
          let lease = lease_of h.motion.lease (sym (ap (λ o. has_group (lease_held o) (q.base / 32 + g)) flies) ∙ has) in
          let area : has_area h.motion.order ≡ true = sym flight.lease ∙ ap is_some lease.1 in
          let c = subst (λ o. Covers o h.motion.first h.motion.last) lease.1 (flight.covers area) in
          let in_it = and_parts _ _ (sym (ap (λ o. has_group o (q.base / 32 + g)) (ap lease_held flies ∙ lease.1)) ∙ has) in
          let from = leb-true lease.0.first (q.base / 32 + g) in_it.0 in
          let to = ltb-true (q.base / 32 + g) (lease.0.first + length lease.0.groups) in_it.1 in
          let group = c.first_group in
          let count = c.count in
          let rising = c.rising in
          let at = run.at_group i lt in
          let first = f.2.first in
          let last = f.2.last in
          let low : f.0.first / 32 ≤ g = omega arith in
          let high : g ≤ f.0.last / 32 = omega arith in
          let small : d < device_count = there d h flies in
          touched_by device_count fs g d small
          (ap (λ o. touches o g) f.1 ∙ and_from _ _ (sym (ap has_area f.2.order) ∙ area)
          (and_from _ _ (le-leb (f.0.first / 32) g low) (le-leb g (f.0.last / 32) high)))
        where
          lease_of : (o : Option Lent) → has_group o (q.base / 32 + g) ≡ true → (k : Lent) × (o ≡ Some k)
          lease_of None is = cc
          lease_of (Some k) is = (k, refl)

          there : (d : ℕ) (h : Held) → (spot_at s.spots d).flight ≡ Some h → d < device_count
          there d h flies =
              ⊎_elim
              (λ (small : d < length s.spots). let n = run.sound.spots in omega arith)
              (λ (past : length s.spots ≤ d). cc (sym (ap (λ (x : Spot). x.flight) (get_or_past s.spots d no_spot past)) ∙ flies))
              (cases_lt d (length s.spots))

  -- a group of its window is out exactly where it is pending
  pub group_same : (g : ℕ) → 32 * g < q.size → is_out s.cells (q.base / 32 + g) ≡ touched_below device_count fs g
  group_same g near =
      both_ways _ _ (out_touched g near)
      (λ is. let d = touched_some device_count fs g is in touched_out d.0 g d.1)

  -- its pool is the one that it was loaded with
  same_pool : (start slots q.p).stock.claims.pool ≡ q.pool
  unfolding own own_state
  same_pool = sym (pool_lone (start slots q.p) (answers q.p J) (ran q.p J)) ∙ sym (ap (λ (x : State). x.stock.claims.pool) fol.is_seen)

  -- its transfers are on the same devices
  pub mine_same : own_from q.p 0 s.spots ≡ mine_after J q.p
  unfolding mine_after
  mine_same =
      own_from_is q.p (λ d. told.is_of q.p (pending d J)) 0 s.spots (λ k lt'. linked_of q k (spot_at s.spots k).flight (fs k) (fol.linked k) ∙ course.mine k
      ∙ ap (λ d. told.is_of q.p (pending d J)) (let e : k ≡ 0 + k = omega arith in e))
      ∙ ap (λ n. filter (λ d. told.is_of q.p (pending d J)) (range_with_len 0 n)) run.sound.spots

  -- its needs don't hang on what it was answered
  any_asked : (n : ℕ) (mine : List ℕ) → needs (own_state reaches seats s n i) mine ≡ needs (own_state reaches seats s (asked_at seats J i) i) mine
  unfolding own_state
  any_asked n mine = refl

  needs_are : (n : ℕ) (mine : List ℕ) → needs (own_state reaches seats s n i) mine ≡ needs (seen_of slots J q.p) mine
  needs_are n mine = any_asked n mine ∙ ap (λ (x : State). needs x mine) fol.is_seen

  size_is : (n : ℕ) → (own_state reaches seats s n i).stock.claims.size ≡ q.size
  unfolding own_state
  size_is n = refl

  -- what it is answered
  pub busy_same : (heard d : ℕ) → answers_at reaches seats (moment (clock J) heard) s i (IsBusy d) ≡ known (is_pending_after slots J q.p) (clock J)
      (free_after slots J q.p) heard (IsBusy d)
  busy_same heard d = ap (λ b. cond b 1 0) (old.busy d)

  pub out_same : (heard first last : ℕ) → AreNear q.size (map Group (groups_of first last))
      → answers_at reaches seats (moment (clock J) heard) s i (IsOut first last) ≡ known (is_pending_after slots J q.p) (clock J)
      (free_after slots J q.p) heard (IsOut first last)
  out_same heard first last near =
      ap (λ b. cond b 1 0)
      (any_near q.size (λ g. is_out s.cells (q.base / 32 + g)) (touched_below device_count fs) group_same (groups_of first last) near)

  -- ---- where the pool lends as the journal tells
  module _ (lent : AreLent J reaches seats) where
    -- a device of the pool is free in the machine where it is by the journal
    free_at : (kind : Kind) (d : ℕ) (o : Option Kind) → get_or q.pool d None ≡ o
        → is_free_after slots J q.p kind d ≡ is_free_in q.pool (is_lent_by seats) kind d
    free_at kind d None is =
        ap (λ ks. is_kind kind (get_or ks d None) && not (is_some (holder d J))) same_pool
        ∙ ap (λ k. is_kind kind k && not (is_some (holder d J))) is
        ∙ none_here (not (is_some (holder d J)))
        ∙ sym (none_here (not (is_lent_by seats d)))
        ∙ sym (ap (λ k. is_kind kind k && not (is_lent_by seats d)) is)
      where
        none_here : (b : Bool) → (is_kind kind None && b) ≡ false
        none_here b = ap (λ x. x && b) (none_of_kind kind)
    free_at kind d (Some k) is =
        ap (λ ks. is_kind kind (get_or ks d None) && not (is_some (holder d J))) same_pool
        ∙ ap (λ h. is_kind kind (get_or q.pool d None) && not (is_some h)) (sym (lent i d lt (ap is_some is)))

    pub free_is : (kind : Kind) → free_after slots J q.p kind ≡ free_in q.pool (is_lent_by seats) kind
    unfolding free_after free_in
    free_is kind = ap (λ test. find test (range_with_len 0 device_count)) (fun_ext (λ d. free_at kind d (get_or q.pool d None) refl))

    -- so a need is pending in the machine exactly where it is by the journal
    pub pending_same : (t : Moment) (n : Need) → IsNear q.size n → is_pending (view q (setting (is_lent_by seats) t) s) n ≡ is_pending_after slots J q.p n
    pending_same t (Group g) near = group_same g near
    pending_same t (Device d) near = old.busy d
    pending_same t (Pool kind) near = ap (λ (o : Option ℕ). not (is_some o)) (sym (free_is kind))

    -- what holds it up
    pub hold_same : hold_of reaches seats s i ≡ first_need (seen_world slots J) q.p
    unfolding hold_of first_need
    hold_same =
        find_near q.size (is_pending (view q (setting (is_lent_by seats) (moment 0 0)) s)) (is_pending_after slots J q.p) (pending_same (moment 0 0))
        (needs (own_state reaches seats s 0 i) (own_from q.p 0 s.spots))
        (subst (λ n. AreNear n (needs (own_state reaches seats s 0 i) (own_from q.p 0 s.spots))) (size_is 0)
        (needs_near (own_state reaches seats s 0 i) (own_from q.p 0 s.spots)))
        ∙ ap (find (is_pending_after slots J q.p)) (needs_are 0 (own_from q.p 0 s.spots) ∙ ap (needs (seen_of slots J q.p)) mine_same)

    pub free_same : (heard : ℕ) (kind : Kind) → answers_at reaches seats (moment (clock J) heard) s i (FreeOf kind) ≡ known (is_pending_after slots J q.p)
        (clock J) (free_after slots J q.p) heard (FreeOf kind)
    free_same heard kind = ap (λ (o : Option ℕ). unwrap_or o 0) (sym (free_is kind))
