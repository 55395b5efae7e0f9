-- A machine in which an event is entered stays as a machine is.
use Rattle.std.proofs.Common.{◌≡◌, ℕ, ◌+◌, ◌-◌, ◌<◌, ◌≤◌, List, length, map, Option, refl, sym, ap, ◌∙◌, subst, arith}
use Rattle.std.proofs.Math.Path.{fun_ext}
use Rattle.std.proofs.lemmas.List.{ext_get_or, get_or-map, length-map}
use Rattle.std.proofs.lemmas.List.FromFn.{length-map-range_with_len, get_or-map-range_with_len}
use Rattle.kdf_journal.specs.declared.entry.Entry.{Entry}
use Rattle.kdf_journal.specs.declared.journal.TheConstants.{MOVE_LIMIT}
use Rattle.kdf_journal.specs.Counts.{clock, last_hold, moves}
use Rattle.kdf_journal.specs.Recorded.{Recorded}
use Rattle.kdf_journal.specs.Steps.{JournalStep, Moves, Ends, Sets, Swaps, added}
use Rattle.kdf_journal.proofs.Added.{calls_by, calls-added, hold_by, holder-quiet, last_hold-added, moves_by, moves-added}
use Rattle.kdf_transfer.specs.Slots.{Slot}
use Rattle.kdf_processor.specs.State.{State}
use Rattle.kdf_journal.specs.declared.need.Need.{Need}
use Rattle.kdf_director.specs.Fields.Agrees.{Agrees, IsReady}
use Rattle.kdf_yard.specs.Fields.Running.{AreLent, no_seat, own_state, IsRunning}
use Rattle.kdf_director.specs.Fields.Following.{AreFollowing, asked_at}
use Rattle.kdf_theory.specs.Legal.{Meets}
use Rattle.kdf_transfer.specs.ByNumber.{device_count}
use Rattle.kdf_yard.specs.Fields.Parts.{Reach, Seat}
use Rattle.kdf_places.specs.Shared.{Shared}
use Rattle.kdf_places.specs.Transfers.{after_end, after_move}
use Rattle.kdf_theory.specs.MachineView.{entered, states_seen}
use Rattle.kdf_director.specs.Fields.Viewed.{states_in, shown_of}
use Rattle.kdf_yard.specs.Fields.Standing.{Standing}
use Rattle.kdf_theory.specs.ByJournal.{lone_world, seen_of}
use Rattle.kdf_yard.proofs.Turns.FlightsMove.{ended_running, flown_running}
use Rattle.kdf_director.proofs.Linking.EventsFollowed.{ended_follows, flown_follows, exchanged_follows, set_follows}
use Rattle.kdf_theory.proofs.Course.WorldsJudged.{legal_added, true_added}
use Rattle.kdf_transfer.proofs.Numbers.{limit_is}
use Rattle.kdf_theory.proofs.Lists.{map_twice}

-- ---- what is shown
module _ (slots : List Slot) (reaches : List Reach) (seats : List Seat) (s : Shared) (J : List Entry) (a : Agrees slots reaches seats s J) where
  by_seats : states_in reaches seats s J ≡ map (λ (x : Seat). seen_of slots J x.p) seats
  by_seats =
      ext_get_or (seen_of slots J 0) _ _
      (length-map-range_with_len own 0 (length seats) ∙ sym (length-map seats (λ (x : Seat). seen_of slots J x.p)))
      (λ i lt.
      let within : i < length seats = omega (arith, length-map-range_with_len own 0 (length seats)) in
      get_or-map-range_with_len own 0 (length seats) i i (seen_of slots J 0) within (omega arith)
      ∙ (a.following.each i within).is_seen
      ∙ sym (get_or-map (λ (x : Seat). seen_of slots J x.p) seats i no_seat (seen_of slots J 0) within))
    where
      own : ℕ → State
      own = λ i. own_state reaches seats s (asked_at seats J i) i

  -- each program's own state is what is seen of it
  pub shows : states_in reaches seats s J ≡ states_seen slots J
  shows =
      by_seats
      ∙ sym (map_twice (seen_of slots J) (λ (x : Seat). x.p) seats)
      ∙ ap (map (seen_of slots J)) a.numbers
      ∙ map_twice (seen_of slots J) (λ (x : Slot). x.p) slots

  -- ---- an event more
  more : (st : JournalStep) (s' : Shared) → Meets (lone_world slots J) slots J 0 st → calls_by st ≡ 0 → moves J + moves_by st ≤ MOVE_LIMIT
      → IsRunning reaches seats s' → AreFollowing slots (added J st) reaches seats s' → AreLent (added J st) reaches seats
      → Agrees slots reaches seats s' (added J st)
  more st s' meets none few running following lent =
      record {
        are = a.are;
        four = a.four;
        numbers = a.numbers;
        running = running;
        following = following;
        lent = lent;
        legal = legal_added slots J 0 st a.legal meets;
        truly = true_added slots J 0 st a.legal a.truly meets;
        few_calls = (let c = a.few_calls in omega (arith, calls-added J st, none));
        few_moves = omega (arith, moves-added J st);
      }

  pub moved : (d n : ℕ) → d < 16 → moves J + n ≤ MOVE_LIMIT → Agrees slots reaches seats (after_move d n s) (added J (Moves d n))
  moved d n lt few =
      let small : d < device_count = omega (arith, limit_is) in
      more (Moves d n) (after_move d n s) tt refl few (flown_running reaches seats s d a.running small n)
      (flown_follows slots J reaches seats s a.are a.legal a.running a.following d small n)
      (λ i e within pooled. a.lent i e within pooled ∙ sym (holder-quiet e J (Moves d n) refl (λ q. refl)))

  pub ended : (d : ℕ) → d < 16 → Agrees slots reaches seats (after_end d s) (added J (Ends d))
  ended d lt =
      let small : d < device_count = omega (arith, limit_is) in
      more (Ends d) (after_end d s) tt refl (let few = a.few_moves in omega arith) (ended_running reaches seats s d a.running small)
      (ended_follows slots J reaches seats s a.are a.legal a.running a.following d small)
      (λ i e within pooled. a.lent i e within pooled ∙ sym (holder-quiet e J (Ends d) refl (λ q. refl)))

  pub timed : (t : ℕ) → clock J ≤ t → Agrees slots reaches seats s (added J (Sets t))
  timed t rises =
      more (Sets t) s rises refl (let few = a.few_moves in omega arith) a.running (set_follows slots J reaches seats s a.are a.legal a.running a.following t)
      (λ i e within pooled. a.lent i e within pooled ∙ sym (holder-quiet e J (Sets t) refl (λ q. refl)))

  pub exchanged : (p q : ℕ) → (p < 4) × (q < 4) → Agrees slots reaches seats s (added J (Swaps p q))
  exchanged p q slots_are =
      more (Swaps p q) s slots_are refl (let few = a.few_moves in omega arith) a.running
      (exchanged_follows slots J reaches seats s a.are a.legal a.running a.following p q)
      (λ i e within pooled. a.lent i e within pooled ∙ sym (holder-quiet e J (Swaps p q) refl (λ q. refl)))

-- ---- how things stand
module _ (y : Standing) (J : Recorded) (room : ℕ) (ready : IsReady y J room) where
  pub shown_seen : (shown_of y J room).states ≡ states_seen y.slots J.entries
  shown_seen = shows y.slots y.reaches y.seats y.shared J.entries ready.agrees

  -- an event is entered, of which what is shared is this
  module _ (some : 0 < room) (z : Standing) (K : Recorded) (taken : J.spare ≤ K.spare + 1) (st : JournalStep) (t : Shared) (is : z ≡ record y { shared = t })
      (quiet : (p : ℕ) → hold_by p (last_hold p J.entries) st ≡ last_hold p J.entries) (journal : K.entries ≡ added J.entries st) (words : moves_by st ≤ 4096)
      (agrees : Agrees y.slots y.reaches y.seats t (added J.entries st)) where
    -- the holds stay where a step names no program
    holds_more : y.holds ≡ map (λ (x : Seat). last_hold x.p (added J.entries st)) y.seats
    holds_more =
        ready.holds ∙ ap (λ (f : Seat → Option Need). map f y.seats)
        (fun_ext (λ (x : Seat). sym (last_hold-added x.p J.entries st ∙ quiet x.p)))

    pub ready_more : IsReady z K (room - 1)
    ready_more =
        subst (λ (x : Standing). IsReady x K (room - 1)) (sym is)
        (record {
          agrees = subst (λ E. Agrees y.slots y.reaches y.seats t E) (sym journal) agrees;
          holds = subst (λ (E : List Entry). y.holds ≡ map (λ (x : Seat). last_hold x.p E) y.seats) (sym journal) holds_more;
          fits = (let f = ready.fits in omega arith);
          few_events = (let f = ready.few_events in omega arith);
          few_words = omega (arith, ready.few_words, ap moves journal, moves-added J.entries st);
        })

    pub entered_more : shown_of z K (room - 1) ≡ entered (shown_of y J room) st
    entered_more =
        let states : states_in y.reaches y.seats t (added J.entries st) ≡ states_seen y.slots (added J.entries st) =
        shows y.slots y.reaches y.seats t (added J.entries st) agrees in
        ap (λ (x : Standing). shown_of x K (room - 1)) is
        ∙ ap (λ (E : List Entry). shown_of (record y { shared = t }) (record { entries = E; spare = K.spare }) (room - 1)) journal
        ∙ ap (λ ss. record { slots = y.slots; states = ss; journal = added J.entries st; room = room - 1 }) states
