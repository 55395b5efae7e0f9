-- What holds at each moment is kept.
use Rattle.std.specs.Option.{option_map}
use Rattle.std.proofs.Common.{◌≡◌, ◌≢◌, ℕ, ◌+◌, ◌/◌, ◌<◌, ◌⊎◌, inl, Bool, true, false, List, length, set, Option, Some, None, is_some, cond, refl, sym, ap, ◌∙◌}
use Rattle.std.proofs.Common.{subst, ⊎_elim, arith}
use Rattle.std.proofs.lemmas.Bool.{cases_eq}
use Rattle.std.proofs.lemmas.List.{get_or-set_same, get_or-set_other, length-set}
use Rattle.kdf_lockout.specs.Groups.{lent_groups, touched}
use Rattle.kdf_transfer.specs.AtOnce.{has_area}
use Rattle.kdf_journal.specs.declared.need.Need.{Need}
use Rattle.kdf_processor.specs.declared.registers.Registers.{Registers}
use Rattle.kdf_processor.specs.Effect.{Effect, Keeping, Returning, Starting}
use Rattle.kdf_processor.specs.Lone.{is_live}
use Rattle.kdf_processor.specs.Needs.{effect_needs}
use Rattle.kdf_processor.specs.Outcome.{done}
use Rattle.kdf_processor.specs.View.{first_pending}
use Rattle.kdf_transfer.specs.ByNumber.{device_count}
use Rattle.kdf_transfer.specs.Devices.{Fixture, blank_fixture, new_progress}
use Rattle.kdf_yard.specs.declared.moment.Moment.{Moment}
use Rattle.kdf_yard.specs.Fields.Keeping.{IsActive, IsKept}
use Rattle.kdf_places.specs.Spots.{Held, Spot, blank_spot, no_spot, spot_at, fixture_or}
use Rattle.kdf_yard.specs.Fields.Parts.{Part, Seat, Reach, has_device, in_pool, own_claims}
use Rattle.kdf_places.specs.Shared.{Shared, IsSound}
use Rattle.kdf_yard.specs.Fields.Shared.{Setting, view, after_act}
use Rattle.kdf_places.specs.Transfers.{start_lease, start_spot}
use Rattle.kdf_yard.specs.Fields.Running.{seat_at, part_at, hold_of, IsHeld, IsRunning, IsUnlent}
use Rattle.kdf_yard.specs.Fields.Sound.{IsFlightOf}
use Rattle.kdf_theory.proofs.Seen.EffectsChecked.{IsLawful}
use Rattle.kdf_yard.proofs.Physical.PartsAlike.{SamePart, flight_same}
use Rattle.kdf_places.proofs.TransfersBegin.{length-start, start_covers}
use Rattle.kdf_yard.proofs.Turns.OrdersTried.{IsPart, give_its, start_has, start_small, start_free}
use Rattle.kdf_yard.proofs.Physical.PoolDevices.{at_spot, with_spot}
use Rattle.kdf_yard.proofs.Turns.OneOrder as turn

-- the flights of what is shared are flights of the programs
abbrev pub AreFlights : List Reach → List Seat → Shared → Type 0
AreFlights reaches seats s = (d : ℕ) (h : Held) → (spot_at s.spots d).flight ≡ Some h → IsHeld reaches seats d (spot_at s.spots d) h

abbrev pub KeepsFixtures : Shared → Shared → Type 0
KeepsFixtures s s' = (d : ℕ) → is_some (spot_at s.spots d).fixture ≡ true → is_some (spot_at s'.spots d).fixture ≡ true

abbrev pub AreKept : List Reach → List Seat → Shared → Type 0
AreKept reaches seats s = (i : ℕ) → i < length seats → IsKept (part_at reaches seats i) s

abbrev pub AreActive : List Reach → List Seat → Type 0
AreActive reaches seats = (i : ℕ) → i < length seats → is_live (seat_at seats i).registers.state ≡ true → IsActive (part_at reaches seats i)

-- a device that one of these programs has it had, or no other has it
abbrev pub AreGained : List Reach → (seats seats' : List Seat) → Type 0
AreGained reaches seats seats' =
    (i d : ℕ) → i < length seats → has_device (part_at reaches seats' i) d ≡ true
    → (has_device (part_at reaches seats i) d ≡ true) ⊎ ((j : ℕ) → j < length seats → j ≢ i → has_device (part_at reaches seats' j) d ≡ false)

-- a program has the device of a transfer still
abbrev pub AreNotLost : List Reach → (seats seats' : List Seat) → Shared → Type 0
AreNotLost reaches seats seats' s' =
    (i d : ℕ) → i < length seats → is_some (spot_at s'.spots d).flight ≡ true → has_device (part_at reaches seats i) d ≡ true
    → has_device (part_at reaches seats' i) d ≡ true

-- a device of the pool that nobody has then has moved nothing
abbrev pub AreFresh : List Reach → (seats seats' : List Seat) → Shared → Type 0
AreFresh reaches seats seats' s' =
    (i d : ℕ) → i < length seats → in_pool (part_at reaches seats i) d ≡ true → IsUnlent seats' d → (spot_at s'.spots d).progress ≡ new_progress

-- where the programs have what they had
pub gained_none : (reaches : List Reach) (seats : List Seat) → AreGained reaches seats seats
gained_none reaches seats i d lt has = inl has

-- the programs keep their parts, the flights are theirs, and each has what it had, or what it took
pub running_by : (reaches : List Reach) (seats seats' : List Seat) (s s' : Shared) → IsRunning reaches seats s → length seats' ≡ length seats
    → ((i : ℕ) → SamePart (part_at reaches seats i) (part_at reaches seats' i)) → length s'.cells ≡ length s.cells → IsSound s'
    → AreGained reaches seats seats' → AreFresh reaches seats seats' s' → AreNotLost reaches seats seats' s' → KeepsFixtures s s' → AreFlights reaches seats s'
    → AreKept reaches seats' s' → AreActive reaches seats' → IsRunning reaches seats' s'
running_by reaches seats seats' s s' run count parts cells sound gained fresh not_lost fixtures flights kept active =
    record {
      sound = sound;
      numbered = λ i j low lt. (let a = (parts i).p in let b = (parts j).p in let c = run.numbered i j low (omega arith) in omega arith);
      at_group = λ i lt. run.at_group i (omega arith);
      in_store = λ i lt. omega (arith, run.in_store i (omega arith));
      apart = λ i j low lt. run.apart i j low (omega arith);
      common = λ i j lt lt'. run.common i j (omega arith) (omega arith);
      kept = kept;
      active = active;
      single = λ i j d lt lt' ne has. alone i j d (omega arith) (omega arith) ne has;
      fresh = λ i d lt pooled unlent. fresh i d (omega arith) pooled unlent;
      fixtures = λ i d lt has. fixtures d (run.fixtures i d (omega arith) has);
      flights = λ d h flies. held d h flies (flights d h flies);
    }
  where
    held : (d : ℕ) (h : Held) → (spot_at s'.spots d).flight ≡ Some h → IsHeld reaches seats d (spot_at s'.spots d) h
        → IsHeld reaches seats' d (spot_at s'.spots d) h
    held d h flies is =
        record {
          by = is.by;
          there = (let a = is.there in omega arith);
          flight = flight_same (part_at reaches seats is.by) (part_at reaches seats' is.by) d (spot_at s'.spots d) h (parts is.by)
              (not_lost is.by d is.there (ap is_some flies) is.flight.its) is.flight;
        }

    alone : (i j d : ℕ) → i < length seats → j < length seats → i ≢ j → has_device (part_at reaches seats' i) d ≡ true
        → has_device (part_at reaches seats' j) d ≡ false
    alone i j d lt lt' ne has = of (has_device (part_at reaches seats' j) d) refl
      where
        clash : has_device (part_at reaches seats' j) d ≡ true → ⊥
        clash had =
            ⊎_elim
            (λ (was : has_device (part_at reaches seats i) d ≡ true).
            ⊎_elim
            (λ (also : has_device (part_at reaches seats j) d ≡ true). cc (sym (run.single i j d lt lt' ne was) ∙ also))
            (λ (others : (k : ℕ) → k < length seats → k ≢ j → has_device (part_at reaches seats' k) d ≡ false). cc (sym (others i lt ne) ∙ has))
            (gained j d lt' had))
            (λ (others : (k : ℕ) → k < length seats → k ≢ i → has_device (part_at reaches seats' k) d ≡ false). cc (sym (others j lt' (λ same. ne (sym same)))
            ∙ had))
            (gained i d lt has)

        of : (b : Bool) → has_device (part_at reaches seats' j) d ≡ b → has_device (part_at reaches seats' j) d ≡ false
        of true is = absurd (clash is)
        of false is = is

-- an effect none of whose needs is pending
module _ (reaches : List Reach) (seats : List Seat) (t : Moment) (s : Shared) (p : ℕ) (r : Registers) (own : List ℕ) (run : IsRunning reaches seats s)
    (lt : p < length seats) (live : is_live (seat_at seats p).registers.state ≡ true) where
  abbrev q : Part
  q = part_at reaches seats p

  abbrev u : Setting
  u = turn.told_by seats t

  part : IsPart q u s
  part = turn.is_part reaches seats t s p run lt live

  -- a place without a transfer, where none was, and a device where one was
  flights_idle : (d : ℕ) (y : Spot) → d < length s.spots → y.flight ≡ None → AreFlights reaches seats (with_spot d y s)
  flights_idle d y inside none x h =
      at_spot s.spots d y inside (λ e z. z.flight ≡ Some h → IsHeld reaches seats e z h)
      (λ flies. cc (sym none ∙ flies)) (λ e ne. run.flights e h) x

  fixtures_idle : (d : ℕ) (y : Spot) → d < length s.spots → (is_some (spot_at s.spots d).fixture ≡ true → is_some y.fixture ≡ true)
      → KeepsFixtures s (with_spot d y s)
  fixtures_idle d y inside same =
      at_spot s.spots d y inside (λ e z. is_some (spot_at s.spots e).fixture ≡ true → is_some z.fixture ≡ true) same (λ e ne some. some)

  small_inside : (d : ℕ) → d < device_count → d < length s.spots
  small_inside d small = let e = run.sound.spots in omega arith

  some_blank : (o : Option Fixture) → is_some o ≡ true → is_some (option_map (λ (f : Fixture). blank_fixture f.kind) o) ≡ true
  some_blank None is = cc
  some_blank (Some f) is = refl

  pub flights_by : (e : Effect) → IsLawful (own_claims q s) e → first_pending (view q u s) (effect_needs own e) ≡ None
      → AreFlights reaches seats (after_act q s (done (view q u s) r e).act)
  flights_by (Starting d o first last after) lawful free x h flies =
      ⊎_elim
      (λ (same : x ≡ d).
      let here : spot_at (set s.spots d new) x ≡ new = ap (spot_at (set s.spots d new)) same ∙ get_or-set_same s.spots d new no_spot inside in
      let is : held ≡ h = cc (sym (ap (λ (y : Spot). y.flight) here) ∙ flies) in
      record {
        by = p;
        there = lt;
        flight = subst (λ y. IsFlightOf q x y h) (sym here) (subst (IsFlightOf q x new) is (subst (λ y. IsFlightOf q y new held) (sym same) begun));
      })
      (λ (ne : x ≢ d).
      let there = get_or-set_other s.spots d x new no_spot ne in
      subst (λ y. IsHeld reaches seats x y h) (sym there) (run.flights x h (ap (λ (y : Spot). y.flight) (sym there) ∙ flies)))
      (cases_eq x d)
    where
      new : Spot
      new = start_spot q.p o (q.base + first) (q.base + last) s.cells (spot_at s.spots d)

      held : Held
      held = record {
        p = q.p;
        motion = record {
          order = o;
          first = q.base + first;
          last = q.base + last;
          fixture = fixture_or (spot_at s.spots d).fixture;
          progress = (spot_at s.spots d).progress;
          lease = start_lease o (q.base + first) (q.base + last) s.cells;
          moved = 0;
        };
      }

      inside : d < length s.spots
      inside = let e = run.sound.spots in let small = start_small q u s d o first last after own part lawful free in omega arith

      some_lease : (b : Bool) → is_some (cond b (Some (lent_groups s.cells ((q.base + first) / 32) (touched (q.base + first) (q.base + last)))) None) ≡ b
      some_lease true = refl
      some_lease false = refl

      begun : IsFlightOf q d new held
      begun =
          record {
            owner = refl;
            its = start_has q u s d o first last after own part lawful free;
            fixture = refl;
            progress = refl;
            lease = some_lease (has_area o);
            covers = λ has. start_covers o (q.base + first) (q.base + last) s.cells has (start_free q u s d o first last after own part lawful free has);
            low = λ has. omega arith;
            high = λ has. (let area = (lawful.1 has).inside in omega arith);
            moved = omega arith;
          }
  flights_by (Returning true d after) lawful free x h flies =
      let its = give_its q u s d after part lawful free in
      flights_idle d (blank_spot (spot_at s.spots d)) (small_inside d (part.kept.few d its.pooled)) refl x h flies
  flights_by (Returning false d after) lawful free x h flies = run.flights x h flies
  flights_by e lawful free x h flies = run.flights x h flies

  pub fixtures_by : (e : Effect) → IsLawful (own_claims q s) e → first_pending (view q u s) (effect_needs own e) ≡ None
      → KeepsFixtures s (after_act q s (done (view q u s) r e).act)
  fixtures_by (Starting d o first last after) lawful free x some =
      ⊎_elim
      (λ (same : x ≡ d).
      let inside : d < length s.spots = (let e = run.sound.spots in let small = start_small q u s d o first last after own part lawful free in omega arith) in
      ap (λ y. is_some (spot_at (set s.spots d (start_spot q.p o (q.base + first) (q.base + last) s.cells (spot_at s.spots d))) y).fixture) same
      ∙ ap (λ (y : Spot). is_some y.fixture) (get_or-set_same s.spots d (start_spot q.p o (q.base + first) (q.base + last) s.cells (spot_at s.spots d)) no_spot
      inside))
      (λ (ne : x ≢ d). ap (λ (y : Spot). is_some y.fixture) (get_or-set_other s.spots d x _ no_spot ne) ∙ some)
      (cases_eq x d)
  fixtures_by (Returning true d after) lawful free x some =
      let its = give_its q u s d after part lawful free in
      fixtures_idle d (blank_spot (spot_at s.spots d)) (small_inside d (part.kept.few d its.pooled)) (some_blank (spot_at s.spots d).fixture) x some
  fixtures_by (Returning false d after) lawful free x some = some
  fixtures_by e lawful free x some = some

  pub cells_by : (e : Effect) → IsLawful (own_claims q s) e → first_pending (view q u s) (effect_needs own e) ≡ None
      → length (after_act q s (done (view q u s) r e).act).cells ≡ length s.cells
  cells_by (Keeping a w after) lawful free = length-set s.cells ((q.base + a) / 32) _
  cells_by (Starting d o first last after) lawful free = length-start o (q.base + first) (q.base + last) s.cells
      (start_free q u s d o first last after own part lawful free)
  cells_by (Returning true d after) lawful free = refl
  cells_by (Returning false d after) lawful free = refl
  cells_by e lawful free = refl

-- one order more of a live program
pub running_tried : (reaches : List Reach) (seats : List Seat) (t : Moment) (s : Shared) (p : ℕ) (run : IsRunning reaches seats s) (lt : p < length seats)
    → is_live (seat_at seats p).registers.state ≡ true → (o : Option Need) → hold_of reaches seats s p ≡ o
    → IsRunning reaches (turn.later reaches seats t s p run lt o) (turn.shared reaches seats t s p run lt o)
running_tried reaches seats t s p run lt live (Some need) is =
    running_by reaches seats (turn.later reaches seats t s p run lt (Some need)) s s run (length-set seats p _)
    (turn.same_part reaches seats t s p run lt (Some need)) refl run.sound
    (turn.tried_gains reaches seats t s p run lt live (Some need) is)
    (turn.tried_fresh reaches seats t s p run lt live (Some need) is)
    (turn.tried_keeps reaches seats t s p run lt live (Some need) is)
    (λ d some. some) run.flights
    (λ i within. turn.tried_kept reaches seats t s p run lt live (Some need) is i
    (omega (arith, length-set seats p (turn.new reaches seats t s p run lt (Some need)))))
    (λ i within. turn.tried_active reaches seats t s p run lt live (Some need) is i
    (omega (arith, length-set seats p (turn.new reaches seats t s p run lt (Some need)))))
running_tried reaches seats t s p run lt live None is =
    let q = part_at reaches seats p in
    let r = (seat_at seats p).registers in
    let lawful = turn.lawful reaches seats t s p run lt in
    let free = turn.free reaches seats t s p run lt is in
    let own = turn.own reaches seats t s p run lt in
    let e = turn.e reaches seats t s p run lt in
    running_by reaches seats (turn.later reaches seats t s p run lt None) s (turn.shared reaches seats t s p run lt None) run (length-set seats p _)
    (turn.same_part reaches seats t s p run lt None)
    (cells_by reaches seats t s p r own run lt live e lawful free)
    (turn.tried_sound reaches seats t s p run lt live None is)
    (turn.tried_gains reaches seats t s p run lt live None is)
    (turn.tried_fresh reaches seats t s p run lt live None is)
    (turn.tried_keeps reaches seats t s p run lt live None is)
    (fixtures_by reaches seats t s p r own run lt live e lawful free)
    (flights_by reaches seats t s p r own run lt live e lawful free)
    (λ i within. turn.tried_kept reaches seats t s p run lt live None is i (omega (arith, length-set seats p (turn.new reaches seats t s p run lt None))))
    (λ i within. turn.tried_active reaches seats t s p run lt live None is i (omega (arith, length-set seats p (turn.new reaches seats t s p run lt None))))
