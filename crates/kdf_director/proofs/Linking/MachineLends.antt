-- The windows, the store and the transfers of a machine are those of its programs.
use Rattle.std.specs.Prelude.{IsSomeAnd}
use Rattle.std.specs.Option.{option_map}
use Rattle.std.proofs.Common.{◌≡◌, ℕ, ◌+◌, ◌-◌, ◌*◌, ◌/◌, ◌<◌, ◌≤◌, Bool, true, false, eqb, List, [], ◌∷◌, length, get_or, map, Option, Some, None, is_some}
use Rattle.std.proofs.Common.{cond, refl, sym, ap, ap₂, ◌∙◌, subst, ⊎_elim, arith}
use Rattle.std.proofs.lemmas.Bool.{and_parts, and_from, cases_lt, eqb-true, le-leb, lt-ltb, leb-true}
use Rattle.std.proofs.lemmas.List.{get_or_past, get_or-map, length-map}
use Rattle.kdf_journal.specs.declared.entry.Entry.{Entry}
use Rattle.kdf_journal.specs.Counts.{moved, pending}
use Rattle.kdf_journal.specs.declared.kind.Kind.{Kind}
use Rattle.kdf_lockout.specs.Groups.{is_out}
use Rattle.kdf_relocate.specs.Windows.{windows_from}
use Rattle.kdf_relocate.specs.declared.window.Window.{Window}
use Rattle.kdf_transfer.specs.AtOnce.{has_area, kind_of}
use Rattle.kdf_transfer.specs.InFlight.{Covers, Motion, lent_at}
use Rattle.kdf_transfer.specs.Devices.{is_kind}
use Rattle.kdf_processor.specs.Claims.{is_claimed}
use Rattle.kdf_processor.specs.Effect.{Effect, Failing, Ending, Changing, Fetching, Keeping, Testing, Starting, Asking, Claiming, Returning, Spooling}
use Rattle.kdf_transfer.specs.Slots.{Slot}
use Rattle.kdf_transfer.specs.ByNumber.{device_count}
use Rattle.kdf_processor.specs.Needs.{next_effect}
use Rattle.kdf_processor.specs.State.{State, word_at}
use Rattle.kdf_director.specs.Fields.Agrees.{Agrees}
use Rattle.kdf_theory.specs.Flights.{Flight, touches}
use Rattle.kdf_theory.specs.Flying.{IfFlight}
use Rattle.kdf_director.specs.Fields.Following.{IsLink, Linked, asked_at}
use Rattle.kdf_director.specs.Lends.{IsBegun, IsFlight, IsLent, IsStored, place_of, size_in, windows_in}
use Rattle.kdf_yard.specs.Fields.Filled.{loaded, size_at, sizes_of, slot_loaded}
use Rattle.kdf_yard.specs.Fields.Parts.{Part, Reach, Seat, reach_of, window_at}
use Rattle.kdf_places.specs.Shared.{Shared}
use Rattle.kdf_places.specs.Words.{has_group, word_at_place, word_where}
use Rattle.kdf_yard.specs.Fields.Running.{no_seat, own_state, part_at, reach_at, reaches_in, seat_at}
use Rattle.kdf_theory.specs.MachineView.{MachineView, state_of}
use Rattle.kdf_director.specs.Fields.Viewed.{states_in}
use Rattle.kdf_theory.specs.Seen.{touched_below}
use Rattle.kdf_yard.specs.Fields.Sound.{IsFlightOf}
use Rattle.kdf_places.specs.Spots.{Held, Spot, lease_held, leases_of, no_spot, spot_at}
use Rattle.kdf_theory.specs.ByJournal.{flight_by, flight_of, flights_of, own, own_after}
use Rattle.kdf_yard.specs.declared.slot.Loaded.{Loaded}
use Rattle.kdf_theory.proofs.Lists.{map_twice}
use Rattle.kdf_director.proofs.Linking.JudgedAlike.{group_same, some_lease}
use Rattle.kdf_director.proofs.Linking.TransfersLinked.{count_is, linked_own}
use Rattle.kdf_theory.proofs.Course.FlightsOnCourse.{legal-course}
use Rattle.kdf_director.proofs.Linking.OwnStates.{program_is, state_is}
use Rattle.kdf_places.proofs.WordsHereAndOut.{word_out_one, here_word}
use Rattle.kdf_yard.proofs.Physical.PartsShow.{none_kind}
use Rattle.kdf_yard.proofs.Turns.AfterTheTry.{word_shown}
use Rattle.kdf_limits.specs.declared.store.TheConstants.{DIRECTOR_WORDS}

-- ---- windows

size_same : (loads : List Loaded) (p : ℕ) → size_at (map loaded loads) p ≡ size_in (map slot_loaded loads) p
size_same [] p = refl
size_same (l ∷ loads) p = ap (cond (eqb l.p p) l.size) (size_same loads p)

-- those of the sizes that were loaded
pub windows_same : (loads : List Loaded) → windows_from DIRECTOR_WORDS (sizes_of (map loaded loads)) ≡ windows_in (map slot_loaded loads)
windows_same loads =
    ap₂ (λ a b. windows_from DIRECTOR_WORDS (a ∷ b ∷ size_at (map loaded loads) 2 ∷ size_at (map loaded loads) 3 ∷ [])) (size_same loads 0) (size_same loads 1)
    ∙ ap₂ (λ c d. windows_from DIRECTOR_WORDS (size_in (map slot_loaded loads) 0 ∷ size_in (map slot_loaded loads) 1 ∷ c ∷ d ∷ [])) (size_same loads 2)
    (size_same loads 3)

abbrev reached : Reach → Window
reached r = record { base = r.base; size = r.size }

-- ---- what order began a flight

begun_by : (n d : ℕ) (x : State) (e : Effect) (f : Flight) → flight_by n d x e ≡ Some f → f.before ≡ x
begun_by n d x (Starting e o first last after) f is = sym (ap before is)
  where
    before : Option Flight → State
    before (Some g) = g.before
    before None = x
begun_by n d x (Failing kind) f is = cc
begun_by n d x (Ending after) f is = cc
begun_by n d x (Changing after) f is = cc
begun_by n d x (Fetching address after) f is = cc
begun_by n d x (Keeping address word after) f is = cc
begun_by n d x (Testing device what after) f is = cc
begun_by n d x (Asking question after) f is = cc
begun_by n d x (Claiming device after) f is = cc
begun_by n d x (Returning pooled device after) f is = cc
begun_by n d x (Spooling stream first last after) f is = cc

owner_of : (slots : List Slot) (J : List Entry) (p d : ℕ) (begun : ℕ × ℕ) (f : Flight) → flight_of slots J p d (Some begun) ≡ Some f
    → (begun.0 ≡ p) × (f.before ≡ own_after slots J p (begun.1 - 1))
owner_of slots J p d begun f is = by_owner (eqb begun.0 p) refl is
  where
    by_owner : (b : Bool) → eqb begun.0 p ≡ b
        → cond b (flight_by (moved d J) d (own_after slots J p (begun.1 - 1)) (next_effect (own_after slots J p (begun.1 - 1)))) None ≡ Some f
        → (begun.0 ≡ p) × (f.before ≡ own_after slots J p (begun.1 - 1))
    by_owner true same is = (
      eqb-true begun.0 p same,
      begun_by (moved d J) d (own_after slots J p (begun.1 - 1)) (next_effect (own_after slots J p (begun.1 - 1))) f is,
    )
    by_owner false other is = cc

told_is : (slots : List Slot) (J : List Entry) (p d : ℕ) (begun : ℕ × ℕ) (f : Flight) → pending d J ≡ Some begun → flights_of slots J p d ≡ Some f
    → flight_of slots J p d (Some begun) ≡ Some f
unfolding flights_of
told_is slots J p d begun f is told = ap (flight_of slots J p d) (sym is) ∙ told

-- a device of some kind is there
kind_there : (k : Kind) (o : Option Kind) → is_kind k o ≡ true → is_some o ≡ true
kind_there k None is = absurd (none_kind k is)
kind_there k (Some x) is = refl

some_same : {x y : State} → Some x ≡ Some y → x ≡ y
some_same e = cc

module _ (windows : List Window) (loads : List Loaded) (seats : List Seat) (s : Shared) (J : List Entry) (room : ℕ) (many : length loads ≡ length seats)
    (a : Agrees (map slot_loaded loads) (reaches_in windows loads) seats s J)
    (placed : windows ≡ windows_from DIRECTOR_WORDS (sizes_of (map loaded loads))) where
  abbrev slots : List Slot
  slots = map slot_loaded loads

  abbrev reaches : List Reach
  reaches = reaches_in windows loads

  abbrev m : MachineView
  m = record { slots = slots; states = states_in reaches seats s J; journal = J; room = room }

  abbrev own_at : ℕ → State
  own_at i = own_state reaches seats s (asked_at seats J i) i

  -- a program reaches the window of its number
  all_reached : map reached reaches ≡ map (λ (x : Seat). window_at windows x.p) seats
  all_reached =
      map_twice reached (reach_of windows) loads
      ∙ sym (map_twice (window_at windows) (λ (l : Loaded). l.p) loads)
      ∙ ap (map (window_at windows)) (sym (map_twice (λ (x : Slot). x.p) slot_loaded loads) ∙ sym a.numbers)
      ∙ map_twice (window_at windows) (λ (x : Seat). x.p) seats

  reached_is : (i : ℕ) → i < length seats → reached (reach_at reaches i) ≡ window_at windows (seat_at seats i).p
  reached_is i lt =
      let count = length-map loads (reach_of windows) in
      sym (get_or-map reached reaches i (record { base = 0; size = 0; devices = []; pool = []; served = false }) (record { base = 0; size = 0 }) (omega arith))
      ∙ ap (λ ws. get_or ws i (let none : Window = record { base = 0; size = 0 } in none)) all_reached
      ∙ get_or-map (λ (x : Seat). window_at windows x.p) seats i no_seat (record { base = 0; size = 0 }) lt

  size_is : (i : ℕ) → (own_at i).stock.claims.size ≡ (reach_at reaches i).size
  unfolding own_state
  size_is i = refl

  pub base_is : (p i : ℕ) → i < length seats → (seat_at seats i).p ≡ p → (window_at windows p).base ≡ (reach_at reaches i).base
  base_is p i lt is = ap (λ k. (window_at windows k).base) (sym is) ∙ sym (ap (λ (w : Window). w.base) (reached_is i lt))

  pub size_of : (p i : ℕ) → i < length seats → (seat_at seats i).p ≡ p → (window_at windows p).size ≡ (reach_at reaches i).size
  size_of p i lt is = ap (λ k. (window_at windows k).size) (sym is) ∙ sym (ap (λ (w : Window). w.size) (reached_is i lt))

  place_is : (p i x : ℕ) → i < length seats → (seat_at seats i).p ≡ p → place_of slots p x ≡ (reach_at reaches i).base + x
  place_is p i x lt is =
      ap (λ (ws : List Window). (window_at ws p).base + x) (sym (placed ∙ windows_same loads))
      ∙ ap (λ b. b + x) (base_is p i lt is)

  -- ---- words
  module _ (p : ℕ) (own : State) (there : state_of m p ≡ Some own) where
    at : (i : ℕ) × (i < length seats) × ((seat_at seats i).p ≡ p)
    at = program_is slots reaches seats s J room a p (ap is_some there)

    own_is : own_at at.0 ≡ own
    own_is = some_same (sym (state_is slots reaches seats s J room a p at.0 at.1 at.2) ∙ there)

    own_size : own.stock.claims.size ≡ (window_at windows p).size
    own_size = ap (λ (x : State). x.stock.claims.size) (sym own_is) ∙ size_is at.0 ∙ sym (size_of p at.0 at.1 at.2)

    -- an address is in the window
    pub below : (x : ℕ) → x < own.stock.claims.size → x < (window_at windows p).size
    below x lt = let e = own_size in omega arith

    pub in_store : (window_at windows p).base + (window_at windows p).size ≤ 32 * length s.cells
    in_store =
        let base = base_is p at.0 at.1 at.2 in
        let size = size_of p at.0 at.1 at.2 in
        let fits = a.running.in_store at.0 at.1 in
        omega arith

    -- the word at its place is the program's
    pub word_own : (x : ℕ) → x < own.stock.claims.size → word_at_place s.cells (leases_of s.spots) ((window_at windows p).base + x) ≡ word_at own x
    word_own x lt =
        ap (λ b. word_at_place s.cells (leases_of s.spots) (b + x)) (base_is p at.0 at.1 at.2)
        ∙ word_shown reaches seats s (asked_at seats J at.0) at.0 x (let e = own_size in let size = size_of p at.0 at.1 at.2 in omega arith)
        ∙ ap (λ (y : State). word_at y x) own_is

    pub stored : (x : ℕ) → x < own.stock.claims.size → IsStored m s.cells p x own
    stored x lt =
        record {
          out = ap (is_out s.cells) group ∙ group_same slots J reaches seats s a.running a.following at.0 at.1
              (legal-course slots J a.are a.legal (seat_at seats at.0).p) (x / 32) near
              ∙ ap (λ k. touched_below device_count (flights_of slots J k) (x / 32)) at.2;
          word = λ here.
              sym (here_word s.cells (leases_of s.spots) (place_of slots p x) here)
              ∙ ap (λ (ws : List Window). word_at_place s.cells (leases_of s.spots) ((window_at ws p).base + x)) (sym (placed ∙ windows_same loads))
              ∙ word_own x lt;
        }
      where
        near : 32 * (x / 32) < (reach_at reaches at.0).size
        near = let e = own_size in let size = size_of p at.0 at.1 at.2 in omega arith

        group : place_of slots p x / 32 ≡ (reach_at reaches at.0).base / 32 + x / 32
        group =
            let place = place_is p at.0 x at.1 at.2 in
            let whole = a.running.at_group at.0 at.1 in
            omega arith

  -- ---- transfers
  module _ (d : ℕ) where
    abbrev q : ℕ → Part
    q i = part_at reaches seats i

    small : (h : Held) → (spot_at s.spots d).flight ≡ Some h → d < device_count
    small h flies =
        ⊎_elim
        (λ (low : d < length s.spots). let n = a.running.sound.spots in omega arith)
        (λ (past : length s.spots ≤ d). cc (sym (ap (λ (x : Spot). x.flight) (get_or_past s.spots d no_spot past)) ∙ flies))
        (cases_lt d (length s.spots))

    -- the lease has the words of the groups that the area touches
    word_in_lease : (h : Held) → (spot_at s.spots d).flight ≡ Some h → (i : ℕ) → i < length seats → IsFlightOf (q i) d (spot_at s.spots d) h → (f : Flight)
        → IsLink (q i) d h f → (x : ℕ) → x < (reach_at reaches i).size → touches (Some f) (x / 32) ≡ true
        → lent_at h.motion.lease ((reach_at reaches i).base + x) ≡ word_at (own_at i) x
    word_in_lease h flies i lt flight f link x inside is =
        let parts = and_parts _ _ is in
        let range = and_parts _ _ parts.1 in
        let low = leb-true (f.first / 32) (x / 32) range.0 in
        let high = leb-true (x / 32) (f.last / 32) range.1 in
        let area : has_area h.motion.order ≡ true = ap has_area link.order ∙ parts.0 in
        let lease = some_lease h.motion.lease (flight.lease ∙ area) in
        let c = subst (λ o. Covers o h.motion.first h.motion.last) lease.1 (flight.covers area) in
        let whole = a.running.at_group i lt in
        let first = link.first in
        let last = link.last in
        let group = c.first_group in
        let count = c.count in
        let in_low : lease.0.first ≤ ((reach_at reaches i).base + x) / 32 = omega arith in
        let in_high : ((reach_at reaches i).base + x) / 32 < lease.0.first + length lease.0.groups = omega arith in
        let held : leases_of s.spots d ≡ h.motion.lease = ap lease_held flies in
        let has : has_group (leases_of s.spots d) (((reach_at reaches i).base + x) / 32) ≡ true =
        ap (λ o. has_group o (((reach_at reaches i).base + x) / 32)) (held ∙ lease.1)
        ∙ and_from _ _ (le-leb lease.0.first (((reach_at reaches i).base + x) / 32) in_low)
        (lt-ltb (((reach_at reaches i).base + x) / 32) (lease.0.first + length lease.0.groups) in_high) in
        sym (ap (λ o. lent_at o ((reach_at reaches i).base + x)) held)
        ∙ sym (word_out_one device_count d (leases_of s.spots) ((reach_at reaches i).base + x) (small h flies) has
        (λ e ne. a.running.sound.alone d e (((reach_at reaches i).base + x) / 32) ne has))
        ∙ sym (ap (word_where (leases_of s.spots) ((reach_at reaches i).base + x)) (a.running.sound.out d (((reach_at reaches i).base + x) / 32) has))
        ∙ word_shown reaches seats s (asked_at seats J i) i x inside

    -- the device of a flight is claimed
    claimed_is : (i : ℕ) → i < length seats → (f : Flight) → flights_of slots J (q i).p d ≡ Some f → is_claimed (own_at i).stock.claims d ≡ true
    claimed_is i lt f told =
        ap (λ (x : State). is_claimed x.stock.claims d) (a.following.each i lt).is_seen
        ∙ kind_there (kind_of f.order) _ (subst (IfFlight (own slots J (q i).p) d) told ((legal-course slots J a.are a.legal (q i).p).flying.each d)).claimed

    flight_is : (h : Held) → (spot_at s.spots d).flight ≡ Some h → (p i : ℕ) → i < length seats → (seat_at seats i).p ≡ p
        → IsFlightOf (q i) d (spot_at s.spots d) h → (f : Flight) → IsLink (q i) d h f → flights_of slots J (q i).p d ≡ Some f
        → IsFlight m p d (own_at i) h.motion f
    flight_is h flies p i lt same flight f link told =
        record {
          claimed = claimed_is i lt f told;
          order = link.order;
          fixture = link.fixture;
          progress = link.progress;
          total = sym (count_is (q i) d h f link);
          moved = link.moved;
          lease = flight.lease ∙ ap has_area link.order;
          groups = λ area.
              subst (λ x. Covers h.motion.lease x (place_of slots p f.last)) (link.first ∙ sym (place_is p i f.first lt same))
              (subst (λ x. Covers h.motion.lease h.motion.first x) (link.last ∙ sym (place_is p i f.last lt same))
              (flight.covers (ap has_area link.order ∙ area)));
          words = λ x inside is.
              ap (lent_at h.motion.lease) (place_is p i x lt same)
              ∙ word_in_lease h flies i lt flight f link x (let e = size_is i in omega arith) is;
        }

    -- a transfer is the flight that the journal tells
    begun_is : (h : Held) → (spot_at s.spots d).flight ≡ Some h → (begun : ℕ × ℕ) → pending d J ≡ Some begun → IsBegun m begun.0 begun.1 d h.motion
    begun_is h flies begun is =
        let held = a.running.flights d h flies in
        let i = held.by in
        let lt = held.there in
        let fol = a.following.each i lt in
        let f = linked_own (q i) d h (flights_of slots J (q i).p d) held.flight.owner
        (subst (λ o. Linked (q i) d o (flights_of slots J (q i).p d)) flies (fol.linked d)) in
        let order = owner_of slots J (q i).p d begun f.0 (told_is slots J (q i).p d begun f.0 is f.1) in
        record {
          flight = f.0;
          told = ap (λ k. flights_of slots J k d) order.0 ∙ f.1;
          before = order.1 ∙ ap (λ k. own_after slots J k (begun.1 - 1)) (sym order.0);
          is_it =
              subst (λ o. IsSomeAnd o (λ own. IsFlight m begun.0 d own h.motion f.0))
              (sym (state_is slots reaches seats s J room a begun.0 i lt (sym order.0)))
              (flight_is h flies begun.0 i lt (sym order.0) held.flight f.0 f.2 f.1);
        }

    pub lent : (t : Option Motion) → t ≡ option_map (λ (h : Held). h.motion) (spot_at s.spots d).flight → IsLent m d (pending d J) t
    lent t is = by_both (spot_at s.spots d).flight refl (pending d J) refl t is
      where
        by_both : (o : Option Held) → (spot_at s.spots d).flight ≡ o → (k : Option (ℕ × ℕ)) → pending d J ≡ k → (t : Option Motion)
            → t ≡ option_map (λ (h : Held). h.motion) o → IsLent m d k t
        by_both None idle None none t is = is
        by_both None idle (Some begun) some t is = cc (sym (ap is_some idle) ∙ a.following.busy d ∙ ap is_some some)
        by_both (Some h) flies None none t is = cc (sym (ap is_some flies) ∙ a.following.busy d ∙ ap is_some none)
        by_both (Some h) flies (Some begun) some t is = subst (IsLent m d (Some begun)) (sym is) (begun_is h flies begun some)
