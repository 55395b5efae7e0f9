-- The programs go on following the journal through an order of one of them.
use Rattle.std.specs.List.{range_with_len}
use Rattle.std.proofs.Common.{◌≡◌, ◌≢◌, ℕ, ◌+◌, ◌-◌, ◌*◌, ◌/◌, ◌%◌, ◌<◌, ◌≤◌, Bool, true, false, List, [], length, length-append, get_or, set, map, take, drop}
use Rattle.std.proofs.Common.{Option, Some, None, is_some, is_none, cond, refl, sym, ap, ap₂, ◌∙◌, subst, ⊎_elim, arith, length-take, length-drop}
use Rattle.std.proofs.lemmas.Bool.{cases_Bool, cases_eq, eq-eqb, ne_eqb}
use Rattle.std.proofs.lemmas.List.{ext_get_or, get_or-map, get_or-set_same, get_or-set_other, get_or-take, get_or-drop}
use Rattle.std.proofs.lemmas.List.FromFn.{length-map-range_with_len, get_or-map-range_with_len}
use Rattle.kdf_journal.specs.declared.entry.Entry.{Entry}
use Rattle.kdf_journal.specs.Counts.{answers, clock, pending}
use Rattle.kdf_journal.specs.Steps.{Note, Obeys, added}
use Rattle.kdf_journal.proofs.Added.{answer_in_note, answers_by, answers-added, pending_by, pending-added}
use Rattle.kdf_lockout.specs.Groups.{Cells, group_at, is_out, lent_groups, lent_word, touched, word_here, words_in}
use Rattle.kdf_transfer.specs.declared.order.TransferOrder.{TransferOrder}
use Rattle.kdf_transfer.specs.AtOnce.{has_area, kind_of, order_words}
use Rattle.kdf_transfer.specs.Devices.{Fixture}
use Rattle.kdf_transfer.specs.InFlight.{area_words, lent_at}
use Rattle.kdf_processor.specs.declared.registers.Registers.{Registers}
use Rattle.kdf_processor.specs.Effect.{Question, Effect, Failing, Ending, Changing, Fetching, Keeping, Testing, Starting, Asking, Claiming, Returning, Spooling}
use Rattle.kdf_processor.specs.Effect.{FreeOf}
use Rattle.kdf_journal.specs.declared.need.Need.TheVariants.{Device}
use Rattle.kdf_processor.specs.Lone.{is_live}
use Rattle.kdf_processor.specs.Needs.{effect_needs, next_effect}
use Rattle.kdf_processor.specs.Outcome.{Outcome, held_or}
use Rattle.kdf_processor.specs.Row.{done_by, next_of}
use Rattle.kdf_transfer.specs.Slots.{Slot}
use Rattle.kdf_processor.specs.State.{Claims, State, device_at, fixture_at, word_at}
use Rattle.kdf_processor.specs.View.{first_pending}
use Rattle.kdf_theory.specs.Flights.{Flight, beginning, flights_after, with_flight}
use Rattle.kdf_theory.specs.Legal.{IsLegal, Meets, note_of, note_of_outcome}
use Rattle.kdf_theory.specs.Seen.{begun_row, seen, seen_device, touched_below, tried}
use Rattle.kdf_theory.specs.Slots.{AreSlots}
use Rattle.kdf_theory.specs.ByJournal.{flights_of, lone_world, mine_after, own, seen_of, seen_world}
use Rattle.kdf_theory.specs.True.{truth}
use Rattle.kdf_theory.specs.World.{first_need}
use Rattle.kdf_transfer.specs.ByNumber.{device_count}
use Rattle.kdf_places.specs.Words as physical
use Rattle.kdf_yard.specs.Fields.Running.{AreLent, seat_at, part_at, own_state, hold_of, outcome_at, answers_at, IsRunning}
use Rattle.kdf_places.specs.Spots.{Held, Spot, blank_spot, no_spot, spot_at, fixture_or, leases_of, own_from}
use Rattle.kdf_yard.specs.Fields.Parts.{Part, Seat, Reach, asked_after, has_device, own_claims, own_progress, own_stock}
use Rattle.kdf_places.specs.Shared.{Shared}
use Rattle.kdf_yard.specs.Fields.Shared.{Setting, view, after_act, moment}
use Rattle.kdf_places.specs.Transfers.{start_lease, start_spot}
use Rattle.kdf_yard.specs.Fields.Turned.{HasTurned}
use Rattle.kdf_yard.specs.declared.remark.Remark.{Remark}
use Rattle.kdf_processor.specs.declared.step.Step.{Step}
use Rattle.kdf_director.specs.Fields.Following.{IsLink, Linked, IsFollowing, AreFollowing, asked_at}
use Rattle.kdf_places.proofs.GroupsKept.{free_here}
use Rattle.kdf_theory.proofs.Seen.OrdersSeen.{same_next, with_flight_is, with_flight_other}
use Rattle.kdf_theory.proofs.Course.FlightsAdded.{begun_at, pending_behind, pending-obeys}
use Rattle.kdf_theory.proofs.Seen.NeedsInside.{IsInside, next_inside}
use Rattle.kdf_director.proofs.Linking.JudgedAlike.{busy_same, free_same, done_alike, group_same, hold_same, out_same}
use Rattle.kdf_director.proofs.Linking.EventsFollowed.{answers_same}
use Rattle.kdf_theory.proofs.Seen.EffectsChecked.{IsLawful}
use Rattle.kdf_theory.proofs.Course.LegalFacts.{legal_alive}
use Rattle.kdf_director.proofs.Linking.TransfersLinked.{follow_part, linked_none, linked_set}
use Rattle.kdf_theory.proofs.Course.OrdersObeyed.{obeys-flights, obeys-others, obeys-seen}
use Rattle.kdf_theory.proofs.Course.FlightsOnCourse.{IsOnCourse, apart-mine, free_hides_none, legal-course}
use Rattle.kdf_theory.proofs.Course.SeenJournals.{same-need, same-note}
use Rattle.kdf_theory.proofs.Seen.SeenStates.{seen_apart, seen_device_at, seen_number, seen_word_at}
use Rattle.kdf_yard.proofs.Physical.PlacesAlike.{same_at}
use Rattle.kdf_yard.proofs.Physical.PartsShow.{claim_fixture, own_device, own_word}
use Rattle.kdf_places.proofs.WordsHereAndOut.{here_word}
use Rattle.kdf_transfer.proofs.Numbers.{length-numbers}
use Rattle.kdf_yard.proofs.Turns.OrdersTried.{IsPart, start_free, start_has, start_idle, start_small}
use Rattle.kdf_yard.proofs.Turns.OneOrder as turn
use Rattle.kdf_theory.proofs.Course.Worlds.{next_on}

-- a word of the groups that a lease takes
lent_here : (cells : Cells) (from n x : ℕ) → from + n ≤ length cells → from ≤ x / 32 → x / 32 < from + n
    → lent_word (lent_groups cells from n) x ≡ word_here cells x
unfolding lent_groups
lent_here cells from n x fits low high =
    let within : x / 32 - from < n = omega arith in
    let inside : x / 32 - from < length (take n (drop from cells)) = omega (arith, length-take n (drop from cells), length-drop from cells) in
    let e : from + (x / 32 - from) ≡ x / 32 = omega arith in
    ap (λ g. get_or g (x % 32) 0)
    (get_or-map words_in (take n (drop from cells)) (x / 32 - from) None [] inside
    ∙ ap words_in (get_or-take n (drop from cells) (x / 32 - from) None within ∙ get_or-drop from cells (x / 32 - from) None ∙ ap (group_at cells) e))

or_some : (x : Option Fixture) → is_some x ≡ true → x ≡ Some (fixture_or x)
or_some None h = cc
or_some (Some y) h = refl

-- an answer is counted where its note tells it
asked_told : (n : ℕ) (answer : Question → ℕ) (e : Effect) (s : State) → n + length (answer_in_note (note_of_outcome (done_by answer e s))) ≡ asked_after n
    (done_by answer e s).act
asked_told n answer (Failing kind) s = omega arith
asked_told n answer (Ending after) s = omega arith
asked_told n answer (Changing after) s = omega arith
asked_told n answer (Fetching a after) s = omega arith
asked_told n answer (Keeping a w after) s = omega arith
asked_told n answer (Testing d what after) s = omega arith
asked_told n answer (Starting d o first last after) s = omega arith
asked_told n answer (Asking (FreeOf kind) after) s = omega arith
asked_told n answer (Asking question after) s = omega arith
asked_told n answer (Claiming d after) s = omega arith
asked_told n answer (Returning true d after) s = omega arith
asked_told n answer (Returning false d after) s = omega arith
asked_told n answer (Spooling stream first last after) s = omega arith

module _ (slots : List Slot) (J : List Entry) (reaches : List Reach) (seats : List Seat) (s : Shared) (are : AreSlots slots) (legal : IsLegal slots J)
    (run : IsRunning reaches seats s) (old : AreFollowing slots J reaches seats s) (lent : AreLent J reaches seats) (i : ℕ) (lt : i < length seats) (heard : ℕ)
    (note : Note) (meets : Meets (lone_world slots J) slots J heard (Obeys (seat_at seats i).p note)) where
  abbrev q : Part
  q = part_at reaches seats i

  abbrev p : ℕ
  p = (seat_at seats i).p

  abbrev J' : List Entry
  J' = added J (Obeys p note)

  abbrev fs : ℕ → Option Flight
  fs = flights_of slots J p

  abbrev l : State
  l = own slots J p

  abbrev n : ℕ
  n = asked_at seats J i

  abbrev mine : State
  mine = own_state reaches seats s n i

  abbrev answer : Question → ℕ
  answer = truth (lone_world slots J) J p heard

  fol : IsFollowing slots J q mine s
  fol = old.each i lt

  course : IsOnCourse slots J p
  course = legal-course slots J are legal p

  registers_own : (seat_at seats i).registers ≡ mine.registers
  unfolding own_state
  registers_own = refl

  -- it is live
  is_on : is_live (seat_at seats i).registers.state ≡ true
  is_on =
      ap (λ (r : Registers). is_live r.state) (registers_own ∙ ap (λ (x : State). x.registers) fol.is_seen)
      ∙ legal_alive slots J legal p
      ∙ next_on (lone_world slots J) slots J p meets.0

  abbrev told : Setting
  told = turn.told_by seats (moment 0 0)

  part : IsPart q told s
  part = turn.is_part reaches seats (moment 0 0) s i run lt is_on

  none_holds : first_need (lone_world slots J) p ≡ None
  none_holds = meets.1

  -- nothing holds it up, in the machine either
  none : hold_of reaches seats s i ≡ None
  none = hold_same slots J reaches seats s run old i lt course lent ∙ same_needs ∙ none_holds
    where
      same_needs : first_need (seen_world slots J) p ≡ first_need (lone_world slots J) p
      same_needs = same-need slots J p

  -- its next order is that of the lone state
  next_is : next_effect mine ≡ next_effect l
  next_is = ap next_effect fol.is_seen ∙ sym (same_next fs (mine_after J p) l (apart-mine slots J p (free_hides_none slots J p none_holds)))

  size_is : mine.stock.claims.size ≡ q.size
  unfolding own_state
  size_is = refl

  -- and comes to what the journal makes of it
  pub outcome_is : outcome_at reaches seats s (moment (clock J) heard) n i ≡ next_of mine answer
  unfolding outcome_at
  outcome_is =
      ap (λ o. held_or (seat_at seats i).registers o (next_of mine (answers_at reaches seats (moment (clock J) heard) s i))) none
      ∙ done_alike (answers_at reaches seats (moment (clock J) heard) s i) answer q.size (next_effect mine) mine
      (subst (λ k. IsInside k (next_effect mine)) size_is (next_inside mine))
      (out_same slots J reaches seats s run old i lt course heard)
      (busy_same slots J reaches seats s run old i lt course heard)
      (free_same slots J reaches seats s run old i lt course lent heard)
      (λ word. refl)
      refl

  -- its state after the order
  tried_is : tried (outcome_at reaches seats s (moment (clock J) heard) n i) mine ≡ seen_of slots J' p
  tried_is =
      ap (λ o. tried o mine) outcome_is
      ∙ ap (λ (x : State). begun_row x answer) fol.is_seen
      ∙ sym (obeys-seen slots J p heard note legal meets are)

  -- and the answers that it took then
  asked_is : length (answers p J') ≡ asked_after n (outcome_at reaches seats s (moment (clock J) heard) n i).act
  asked_is =
      ap length (answers-added p J (Obeys p note))
      ∙ length-append (answers p J) (answers_by p (Obeys p note))
      ∙ ap (λ vs. n + length vs) (ap (λ b. cond b (answer_in_note note) []) (eq-eqb p p refl))
      ∙ ap (λ x. n + length (answer_in_note x)) note_is
      ∙ asked_told n answer (next_effect mine) mine
      ∙ sym (ap (λ (o : Outcome). asked_after n o.act) outcome_is)
    where
      note_is : note ≡ note_of_outcome (done_by answer (next_effect mine) mine)
      note_is =
          meets.2
          ∙ sym (same-note slots J p answer none_holds)
          ∙ sym (ap (λ (x : State). note_of x answer) fol.is_seen)

  claims_same : mine.stock.claims ≡ l.stock.claims
  claims_same = ap (λ (x : State). x.stock.claims) fol.is_seen

  own_claims_is : mine.stock.claims ≡ (own_stock q 0 s).claims
  unfolding own_state
  own_claims_is = refl

  size_same : length l.stock.store ≡ q.size
  size_same = course.flying.sized ∙ sym (ap (λ (c : Claims). c.size) claims_same) ∙ ap (λ (c : Claims). c.size) own_claims_is

  number_own : length mine.stock.devices ≡ device_count
  unfolding own_state
  number_own = length-numbers (own_progress q s.spots)

  number_same : length l.stock.devices ≡ device_count
  number_same = sym (seen_number fs l) ∙ sym (ap (λ (x : State). length x.stock.devices) fol.is_seen) ∙ number_own

  lawful_mine : IsLawful (own_stock q 0 s).claims (next_effect mine)
  unfolding own_state
  lawful_mine = turn.lawful reaches seats (moment 0 0) s i run lt

  free_mine : first_pending (view q told s) (effect_needs (own_from p 0 s.spots) (next_effect mine)) ≡ None
  unfolding own_state
  free_mine = turn.free reaches seats (moment 0 0) s i run lt none

  -- a device and a word of its own
  device_own : (d : ℕ) → d < device_count → has_device q d ≡ true → device_at mine d ≡ (spot_at s.spots d).progress
  unfolding own_state
  device_own d small has = own_device q n s d small has

  word_own : (a : ℕ) → a < q.size → word_at mine a ≡ physical.word_at_place s.cells (leases_of s.spots) (q.base + a)
  unfolding own_state
  word_own a lt = own_word q n s a lt

  -- the transfer that begins
  module _ (d : ℕ) (o : TransferOrder) (first last : ℕ) (after : Registers) (lawful : IsLawful (own_stock q 0 s).claims (Starting d o first last after))
      (clear : first_pending (view q told s) (effect_needs (own_from p 0 s.spots) (Starting d o first last after)) ≡ None) where
    has : has_device q d ≡ true
    has = start_has q told s d o first last after (own_from p 0 s.spots) part lawful clear

    small : d < device_count
    small = start_small q told s d o first last after (own_from p 0 s.spots) part lawful clear

    pub idle : (spot_at s.spots d).flight ≡ None
    idle = start_idle q told s d o first last after (own_from p 0 s.spots) part lawful clear

    pub inside : d < length s.spots
    inside = let e = run.sound.spots in let k = small in omega arith

    none_there : fs d ≡ None
    none_there = linked_none q d (fs d) (subst (λ x. Linked q d x (fs d)) idle (fol.linked d))

    fixture_is : fixture_at l.stock.claims d ≡ Some (fixture_or (spot_at s.spots d).fixture)
    fixture_is =
        ap (λ c. fixture_at c d) (sym claims_same ∙ own_claims_is)
        ∙ same.1
        ∙ or_some (spot_at s.spots d).fixture (ap is_some (sym same.1) ∙ same.0)
      where
        same : (is_some (fixture_at (own_claims q s) d) ≡ true) × (fixture_at (own_claims q s) d ≡ (spot_at s.spots d).fixture)
        same = claim_fixture q s d (kind_of o) part.kept lawful.0

    in_devices : d < length l.stock.devices
    in_devices = let k = small in let m = number_same in omega arith

    progress_is : device_at l d ≡ (spot_at s.spots d).progress
    progress_is =
        sym (ap (λ x. device_at x d) fol.is_seen ∙ seen_device_at fs l d in_devices ∙ ap (λ (f : Option Flight). seen_device f d (device_at l d)) none_there)
        ∙ device_own d small has

    -- a word of its area
    area_word : (a : ℕ) → has_area o ≡ true → first ≤ a → a ≤ last → lent_at (start_lease o (q.base + first) (q.base + last) s.cells) (q.base + a) ≡ word_at l a
    area_word a is low high =
        let area = start_free q told s d o first last after (own_from p 0 s.spots) part lawful clear is in
        let rising = area.rising in
        let inside = area.inside in
        let at = part.at_group in
        let bound = lawful.1 is in
        let limit = bound.inside in
        let in_low : (q.base + first) / 32 ≤ (q.base + a) / 32 = omega arith in
        let in_high : (q.base + a) / 32 < (q.base + first) / 32 + touched (q.base + first) (q.base + last) = omega arith in
        let fits : (q.base + first) / 32 + touched (q.base + first) (q.base + last) ≤ length s.cells = omega arith in
        let here = free_here s (q.base + first) (q.base + last) ((q.base + a) / 32) area in_low in_high in
        let not_out : is_out s.cells ((q.base + a) / 32) ≡ false = ap is_none here.1 in
        let group : (q.base + a) / 32 ≡ q.base / 32 + a / 32 = omega arith in
        let near : 32 * (a / 32) < q.size = omega arith in
        let untouched : touched_below device_count fs (a / 32) ≡ false =
        sym (group_same slots J reaches seats s run old i lt course (a / 32) near) ∙ ap (is_out s.cells) (sym group) ∙ not_out in
        let lt : a < q.size = omega arith in
        let within : a < length l.stock.store = omega (arith, size_same) in
        ap (λ b. lent_at (cond b (Some (lent_groups s.cells ((q.base + first) / 32) (touched (q.base + first) (q.base + last)))) None) (q.base + a)) is
        ∙ lent_here s.cells ((q.base + first) / 32) (touched (q.base + first) (q.base + last)) (q.base + a) fits in_low in_high
        ∙ sym (word_own a lt ∙ here_word s.cells _ (q.base + a) not_out)
        ∙ ap (λ z. word_at z a) fol.is_seen
        ∙ seen_word_at fs l a within
        ∙ seen_apart device_count fs a (word_at l a) untouched

    area_is : area_words o (q.base + first) (q.base + last) (start_lease o (q.base + first) (q.base + last) s.cells) ≡ order_words o first last l.stock.store
    area_is =
        ⊎_elim
        (λ (is : has_area o ≡ true).
        let bound = lawful.1 is in
        let rising = bound.rising in
        let limit = bound.inside in
        let count : q.base + last + 1 - (q.base + first) ≡ last + 1 - first = omega arith in
        ap (λ b. cond b (map word (range_with_len (q.base + first) (q.base + last + 1 - (q.base + first)))) []) is
        ∙ ext_get_or 0 _ _
        (length-map-range_with_len word (q.base + first) (q.base + last + 1 - (q.base + first)) ∙ count
        ∙ sym (omega (arith, length-take (last + 1 - first) (drop first l.stock.store), length-drop first l.stock.store, size_same)))
        (λ k lt.
        let lt' : k < last + 1 - first = omega (arith, length-map-range_with_len word (q.base + first) (q.base + last + 1 - (q.base + first))) in
        get_or-map-range_with_len word (q.base + first) (q.base + last + 1 - (q.base + first)) k (q.base + (first + k)) 0 (omega arith) (omega arith)
        ∙ area_word (first + k) is (omega arith) (omega arith)
        ∙ sym (get_or-take (last + 1 - first) (drop first l.stock.store) k 0 lt' ∙ get_or-drop first l.stock.store k 0))
        ∙ sym (ap (λ b. cond b (take (last + 1 - first) (drop first l.stock.store)) []) is))
        (λ (not : has_area o ≡ false).
        ap (λ b. cond b (map word (range_with_len (q.base + first) (q.base + last + 1 - (q.base + first)))) []) not
        ∙ sym (ap (λ b. cond b (take (last + 1 - first) (drop first l.stock.store)) []) not))
        (cases_Bool (has_area o))
      where
        word : ℕ → ℕ
        word = lent_at (start_lease o (q.base + first) (q.base + last) s.cells)

    abbrev f : Flight
    f = beginning o first last l

    abbrev held : Held
    held = record {
      p = q.p;
      motion = record {
        order = o;
        first = q.base + first;
        last = q.base + last;
        fixture = fixture_or (spot_at s.spots d).fixture;
        progress = (spot_at s.spots d).progress;
        lease = start_lease o (q.base + first) (q.base + last) s.cells;
        moved = 0;
      };
    }

    link_new : IsLink q d held f
    link_new =
        record {
          owner = refl;
          order = refl;
          first = refl;
          last = refl;
          fixture = fixture_is;
          there = in_devices;
          progress = progress_is;
          moved = refl;
          words = λ not. area_is;
        }

    linked_new : (e : ℕ) → Linked q e (spot_at (set s.spots d (start_spot q.p o (q.base + first) (q.base + last) s.cells (spot_at s.spots d))) e).flight
        (with_flight d (Some f) fs e)
    linked_new =
        linked_set q s.spots d (start_spot q.p o (q.base + first) (q.base + last) s.cells (spot_at s.spots d)) fs (with_flight d (Some f) fs) inside fol.linked
        (λ e ne. with_flight_other d e (Some f) fs ne)
        (subst (Linked q d (Some held)) (sym (with_flight_is d d (Some f) fs refl)) link_new)

  abbrev left : Effect → Shared
  left e = after_act q s (done_by answer e mine).act

  -- what is given back has no transfer then, as before
  flight_back : (x : ℕ) (after : Registers) → first_pending (view q told s) (effect_needs (own_from p 0 s.spots) (Returning true x after)) ≡ None → (d : ℕ)
      → (spot_at (left (Returning true x after)).spots d).flight ≡ (spot_at s.spots d).flight
  flight_back x after clear d = same_at (λ (y : Spot). y.flight) s.spots x d (blank_spot (spot_at s.spots x))
      (sym (idle_back (is_some (spot_at s.spots x).flight) refl))
    where
      none_of : (o : Option Held) → is_some o ≡ false → o ≡ None
      none_of None h = refl
      none_of (Some h) is = cc

      idle_back : (b : Bool) → is_some (spot_at s.spots x).flight ≡ b → (spot_at s.spots x).flight ≡ None
      idle_back true is = cc (sym (ap (λ b. cond b (Some (Device x)) None) is) ∙ clear)
      idle_back false is = none_of (spot_at s.spots x).flight is

  linked_by : (e : Effect) → IsLawful (own_stock q 0 s).claims e → first_pending (view q told s) (effect_needs (own_from p 0 s.spots) e) ≡ None → (d : ℕ)
      → Linked q d (spot_at (left e).spots d).flight (flights_after fs l e d)
  linked_by (Starting x o first last after) lawful clear d = linked_new x o first last after lawful clear d
  linked_by (Returning true x after) lawful clear d = subst (λ f. Linked q d f (fs d)) (sym (flight_back x after clear d)) (fol.linked d)
  linked_by (Returning false x after) lawful clear d = fol.linked d
  linked_by e lawful clear d = fol.linked d

  -- of another program
  other_by : (x : Part) (own : State) → IsFollowing slots J x own s → q.p ≢ x.p → (e : Effect) → IsLawful (own_stock q 0 s).claims e
      → first_pending (view q told s) (effect_needs (own_from p 0 s.spots) e) ≡ None → (d : ℕ)
      → Linked x d (spot_at (left e).spots d).flight (flights_of slots J x.p d)
  other_by x own follows ne (Starting d o first last after) lawful clear e =
      linked_set x s.spots d (start_spot q.p o (q.base + first) (q.base + last) s.cells (spot_at s.spots d)) (flights_of slots J x.p) (flights_of slots J x.p)
      (inside d o first last after lawful clear) follows.linked (λ e ne'. refl)
      (subst (Linked x d (start_spot q.p o (q.base + first) (q.base + last) s.cells (spot_at s.spots d)).flight)
      (sym (linked_none x d (flights_of slots J x.p d) (subst (λ y. Linked x d y (flights_of slots J x.p d)) (idle d o first last after lawful clear)
      (follows.linked d)))) ne) e
  other_by x own follows ne (Returning true y after) lawful clear d = subst (λ f. Linked x d f (flights_of slots J x.p d)) (sym (flight_back y after clear d))
      (follows.linked d)
  other_by x own follows ne (Returning false y after) lawful clear d = follows.linked d
  other_by x own follows ne e lawful clear d = follows.linked d

  busy_by : (e : Effect) → IsLawful (own_stock q 0 s).claims e → first_pending (view q told s) (effect_needs (own_from p 0 s.spots) e) ≡ None → (k d : ℕ)
      → is_some (spot_at (left e).spots d).flight ≡ is_some (pending_behind p k d (pending d J) e)
  busy_by (Starting x o first last after) lawful clear k d =
      ⊎_elim
      (λ (same : d ≡ x).
      ap (λ y. is_some (spot_at (set s.spots x new) y).flight) same
      ∙ ap (λ (y : Spot). is_some y.flight) (get_or-set_same s.spots x new no_spot (inside x o first last after lawful clear))
      ∙ sym (ap (λ b. is_some (cond b (begun_at p k) (pending d J))) (eq-eqb x d (sym same))))
      (λ (ne : d ≢ x).
      ap (λ (y : Spot). is_some y.flight) (get_or-set_other s.spots x d new no_spot ne)
      ∙ old.busy d
      ∙ sym (ap (λ b. is_some (cond b (begun_at p k) (pending d J))) (ne_eqb x d (λ e. ne (sym e)))))
      (cases_eq d x)
    where
      new : Spot
      new = start_spot q.p o (q.base + first) (q.base + last) s.cells (spot_at s.spots x)
  busy_by (Returning true x after) lawful clear k d = ap is_some (flight_back x after clear d) ∙ old.busy d
  busy_by (Returning false x after) lawful clear k d = old.busy d
  busy_by e lawful clear k d = old.busy d

  -- all programs, after the turn
  pub turn_follows : (seats' : List Seat) (s' : Shared) (ended : Step) (noted : Remark)
      → HasTurned reaches (moment (clock J) heard) i seats s seats' s' ended noted → AreFollowing slots J' reaches seats' s'
  turn_follows seats' s' ended noted turned =
      record {
        each = λ j lt'.
            let within : j < length seats = (let c = turned.count in omega arith) in
            follow_part slots J' (part_at reaches seats j) (part_at reaches seats' j) (own_state reaches seats' s' (asked_at seats' J' j) j) s'
            (turned.numbers j) refl
            (subst (λ k. IsFollowing slots J' (part_at reaches seats j) (own_state reaches seats' s' (length (answers k J')) j) s') (sym (turned.numbers j))
            (⊎_elim
            (λ (same : j ≡ i). subst (λ k. IsFollowing slots J' (part_at reaches seats k) (own_state reaches seats' s' (asked_at seats J' k) k) s')
            (sym same) its)
            (λ (ne : j ≢ i). others j within ne)
            (cases_eq j i)));
        busy = λ d.
            ap is_some (flight_is d)
            ∙ busy_by (next_effect mine) lawful_mine free_mine (l.registers.ran + 1) d
            ∙ sym (ap is_some (pending-added d J (Obeys p note)
            ∙ ap (λ x. pending_by d (pending d J) (Obeys p x)) meets.2
            ∙ pending-obeys p d (pending d J) answer (next_effect l) l
            ∙ ap (pending_behind p (l.registers.ran + 1) d (pending d J)) (sym next_is)));
      }
    where
      flight_is : (d : ℕ) → (spot_at s'.spots d).flight ≡ (spot_at (left (next_effect mine)).spots d).flight
      flight_is d = turned.flights n d ∙ ap (λ (o : Outcome). (spot_at (after_act q s o.act).spots d).flight) outcome_is

      its : IsFollowing slots J' q (own_state reaches seats' s' (asked_at seats J' i) i) s'
      its =
          record {
            is_seen =
                ap (λ k. own_state reaches seats' s' k i) asked_is
                ∙ turned.own n
                ∙ tried_is;
            linked = λ d.
                subst (λ f. Linked q d f (flights_of slots J' p d)) (sym (flight_is d))
                (subst (λ gs. Linked q d (spot_at (left (next_effect mine)).spots d).flight (gs d)) (sym (obeys-flights slots J p heard note legal meets are))
                (subst (λ e. Linked q d (spot_at (left (next_effect mine)).spots d).flight (flights_after fs l e d)) next_is
                (linked_by (next_effect mine) lawful_mine free_mine d)));
          }

      others : (j : ℕ) → j < length seats → j ≢ i → IsFollowing slots J' (part_at reaches seats j) (own_state reaches seats' s' (asked_at seats J' j) j) s'
      others j within ne =
          let apart : p ≢ (seat_at seats j).p = turn.numbers_apart reaches seats s i j run lt within (λ e. ne (sym e)) in
          let silent : answers_by (seat_at seats j).p (Obeys p note) ≡ [] = ap (λ b. cond b (answer_in_note note) []) (ne_eqb p (seat_at seats j).p apart) in
          let count : asked_at seats J' j ≡ asked_at seats J j = ap length (answers_same (seat_at seats j).p J (Obeys p note) silent) in
          let stay = obeys-others slots J p heard note legal meets are (seat_at seats j).p apart in
          record {
            is_seen =
                ap (λ k. own_state reaches seats' s' k j) count
                ∙ turned.others (asked_at seats J j) j within ne
                ∙ (old.each j within).is_seen
                ∙ sym (ap₂ seen stay.1 stay.0);
            linked = λ d.
                subst (λ f. Linked (part_at reaches seats j) d f (flights_of slots J' (seat_at seats j).p d)) (sym (flight_is d))
                (subst (λ gs. Linked (part_at reaches seats j) d (spot_at (left (next_effect mine)).spots d).flight (gs d)) (sym stay.1)
                (other_by (part_at reaches seats j) (own_state reaches seats s (asked_at seats J j) j) (old.each j within) apart (next_effect mine) lawful_mine
                free_mine d));
          }
