-- A yard that was loaded agrees with a journal that tells nothing.
use Rattle.std.proofs.Common.{◌≡◌, ◌≢◌, ℕ, zero, suc, ◌<◌, ◌≤◌, List, [], ◌∷◌, length, get_or, map, cond, Option, Some, None, is_some, refl, sym, ap, ◌∙◌}
use Rattle.std.proofs.Common.{subst, arith}
use Rattle.std.specs.List.{AllPairs}
use Rattle.std.proofs.lemmas.Bool.{eq-eqb, ne_eqb}
use Rattle.std.proofs.lemmas.List.Elements.{All-map}
use Rattle.std.proofs.lemmas.List.{ext_get_or, get_or-map, length-map}
use Rattle.std.proofs.lemmas.List.FromFn.{length-map-range_with_len, get_or-map-range_with_len}
use Rattle.kdf_journal.specs.declared.entry.Entry.{Entry}
use Rattle.kdf_journal.specs.Counts.{last_hold}
use Rattle.kdf_journal.specs.Recorded.{Recorded}
use Rattle.kdf_transfer.specs.Slots.{Slot}
use Rattle.kdf_processor.specs.State.{State, begin}
use Rattle.kdf_director.specs.declared.machine.TheConstants.{EVENT_LIMIT}
use Rattle.kdf_director.specs.Fields.Agrees.{Agrees, IsReady}
use Rattle.kdf_yard.specs.Fields.Standing.{Standing}
use Rattle.kdf_theory.specs.Flights.{Flight}
use Rattle.kdf_director.specs.Fields.Following.{AreFollowing, Linked}
use Rattle.kdf_theory.specs.Loading.{SlotLoad, loaded_slot}
use Rattle.kdf_yard.specs.Fields.Begun.{IsLoaded}
use Rattle.kdf_yard.specs.Fields.Filled.{first_seat}
use Rattle.kdf_yard.specs.Fields.Parts.{Part, Seat}
use Rattle.kdf_yard.specs.Fields.Running.{no_seat, own_state, part_at, seat_at}
use Rattle.kdf_director.specs.Fields.Viewed.{states_in}
use Rattle.kdf_theory.specs.Slots.{no_slot, start, start_of}
use Rattle.kdf_theory.specs.Slots as slots
use Rattle.kdf_places.specs.Spots.{Held}
use Rattle.kdf_theory.specs.ByJournal.{seen_of}
use Rattle.kdf_theory.proofs.Lists.{map_twice}
use Rattle.kdf_theory.proofs.Course.WorldsJudged.{legal_nil, true_nil}
use Rattle.kdf_theory.proofs.JobsLoaded.{no_load}
use Rattle.kdf_theory.proofs.Course.FlightsOnCourse.{none-first}
use Rattle.kdf_theory.proofs.Course.OwnSteps.{own-nil}
use Rattle.kdf_theory.proofs.Seen.SeenStates.{seen_nothing}

-- a slot is found by its number
found_at : (xs : List Slot) (i : ℕ) (d : Slot) → AllPairs (λ (a b : Slot). a.p ≢ b.p) xs → i < length xs
    → slots.slot_of xs (get_or xs i d).p ≡ Some (get_or xs i d)
found_at [] i d apart lt = absurd (omega arith)
found_at (x ∷ xs) zero d apart lt = ap (λ b. cond b (Some x) (slots.slot_of xs x.p)) (eq-eqb x.p x.p refl)
found_at (x ∷ xs) (suc i) d apart lt =
    ap (λ b. cond b (Some x) (slots.slot_of xs (get_or xs i d).p)) (ne_eqb x.p (get_or xs i d).p (apart 0 (suc i) d (omega arith) lt))
    ∙ found_at xs i d (λ j k e less inside. apart (suc j) (suc k) e (omega arith) (omega arith)) (omega arith)

-- before the first order each program is seen at its start
seen_start : (xs : List Slot) (p : ℕ) → seen_of xs [] p ≡ start xs p
seen_start xs p = seen_nothing _ _ (none-first xs p) ∙ own-nil xs p

linked_none : (q : Part) (d : ℕ) (o : Option Held) (f : Option Flight) → o ≡ None → f ≡ None → Linked q d o f
linked_none q d None None no_held no_flight = tt
linked_none q d None (Some f) no_held no_flight = cc
linked_none q d (Some h) f no_held no_flight = cc

module _ (xs : List SlotLoad) (y : Standing) (is : IsLoaded xs y) where
  abbrev ys : List Slot
  ys = map loaded_slot xs

  many : length y.seats ≡ length xs
  many = ap length is.programs_are ∙ length-map xs first_seat

  abbrev at : ℕ → SlotLoad
  at i = get_or xs i no_load

  seat_is : (i : ℕ) → i < length xs → (seat_at y.seats i).p ≡ (at i).p
  seat_is i lt = ap (λ ps. (seat_at ps i).p) is.programs_are ∙ ap (λ (x : Seat). x.p) (get_or-map first_seat xs i no_load no_seat lt)

  slot_is : (i : ℕ) → i < length xs → get_or ys i no_slot ≡ loaded_slot (at i)
  slot_is i lt = get_or-map loaded_slot xs i no_load no_slot lt

  start_is : (i : ℕ) → i < length xs → start ys (at i).p ≡ begin (loaded_slot (at i))
  start_is i lt =
      ap (start ys) (ap (λ (y : Slot). y.p) (sym (slot_is i lt)))
      ∙ ap start_of (found_at ys i no_slot is.can_be_loaded.numbers (let e = length-map xs loaded_slot in omega arith))
      ∙ ap begin (slot_is i lt)

  own_is : (i : ℕ) → i < length xs → own_state y.reaches y.seats y.shared 0 i ≡ begin (loaded_slot (at i))
  own_is i lt = is.starts i no_load lt

  following : AreFollowing ys [] y.reaches y.seats y.shared
  following =
      record {
        each = λ i lt.
            let li : i < length xs = let e = many in omega arith in
            record {
              is_seen = own_is i li ∙ sym (start_is i li) ∙ ap (start ys) (sym (seat_is i li)) ∙ sym (seen_start ys (seat_at y.seats i).p);
              linked = λ d. linked_none (part_at y.reaches y.seats i) d _ _ (is.idle d) (none-first ys (seat_at y.seats i).p d);
            };
        busy = λ d. ap is_some (is.idle d);
      }

  numbers : map (λ (x : Seat). x.p) y.seats ≡ map (λ (y : Slot). y.p) ys
  numbers =
      ap (map (λ (x : Seat). x.p)) is.programs_are
      ∙ map_twice (λ (x : Seat). x.p) first_seat xs
      ∙ sym (map_twice (λ (y : Slot). y.p) loaded_slot xs)

  agrees : Agrees ys y.reaches y.seats y.shared []
  agrees =
      record {
        are = is.can_be_loaded;
        four = All-map (λ (y : Slot). y.p < 4) loaded_slot xs (λ i l lt. (is.loads_are.each i l lt).number);
        numbers = numbers;
        running = is.running;
        following = following;
        lent = λ i d lt pooled. is.unlent d;
        legal = legal_nil ys;
        truly = true_nil ys;
        few_calls = omega arith;
        few_moves = omega arith;
      }

  none_held : y.holds ≡ map (λ (x : Seat). last_hold x.p []) y.seats
  none_held =
      is.no_hold
      ∙ sym (map_twice (λ (x : Seat). last_hold x.p []) first_seat xs)
      ∙ ap (map (λ (x : Seat). last_hold x.p [])) (sym is.programs_are)

  pub is_ready : (J : Recorded) (room : ℕ) → J.entries ≡ [] → room ≤ J.spare → room ≤ EVENT_LIMIT → IsReady y J room
  is_ready J room empty fits few =
      subst (λ (E : List Entry). IsReady y (record { entries = E; spare = J.spare }) room) (sym empty)
      (record {
        agrees = subst (λ ss. Agrees ss y.reaches y.seats y.shared []) (sym is.slots_are) agrees;
        holds = none_held;
        fits = fits;
        few_events = few;
        few_words = omega arith;
      })

  -- each program's own state is its start
  pub states_start : states_in y.reaches y.seats y.shared [] ≡ map begin ys
  states_start =
      ext_get_or (begin no_slot) _ _
      (length-map-range_with_len own 0 (length y.seats) ∙ many ∙ sym (length-map xs loaded_slot) ∙ sym (length-map ys begin))
      (λ i lt.
      let li : i < length y.seats = let e = length-map-range_with_len own 0 (length y.seats) in omega arith in
      let lx : i < length xs = let e = many in omega arith in
      let ly : i < length ys = let e = length-map xs loaded_slot in omega arith in
      get_or-map-range_with_len own 0 (length y.seats) i i (begin no_slot) li (omega arith)
      ∙ own_is i lx
      ∙ sym (ap begin (slot_is i lx))
      ∙ sym (get_or-map begin ys i no_slot (begin no_slot) ly))
    where
      own : ℕ → State
      own i = own_state y.reaches y.seats y.shared 0 i
