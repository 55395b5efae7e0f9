-- What the turn of a program that is next makes of the machine.
use Rattle.std.specs.Prelude.{unwrap_or}
use Rattle.std.proofs.Common.{◌≡◌, ◌≢◌, ℕ, ◌<◌, inl, inr, ◌&&◌, Bool, true, false, List, length, get_or, map, set, Option, Some, None, is_some, cond, refl, sym}
use Rattle.std.proofs.Common.{ap, ap₂, ◌∙◌, subst, ⊎_elim, arith}
use Rattle.std.proofs.Math.Path.{fun_ext}
use Rattle.std.proofs.lemmas.Bool.{cases_eq, eq-eqb, ne_eqb}
use Rattle.std.proofs.lemmas.List.{ext_get_or, get_or-map, get_or-set_same, get_or-set_other, length-map, length-set}
use Rattle.kdf_journal.specs.declared.entry.Entry.{Entry}
use Rattle.kdf_journal.specs.declared.journal.TheConstants.{CALL_LIMIT}
use Rattle.kdf_journal.specs.Counts.{answers, calls, clock, last_hold}
use Rattle.kdf_journal.specs.Steps.{Note, JournalStep, Obeys, Holds, Waits, added}
use Rattle.kdf_journal.proofs.Added.{calls-added, hold_by, holder-quiet, last_hold-added, moves-added}
use Rattle.kdf_journal.specs.declared.need.Need.{Need}
use Rattle.kdf_processor.specs.declared.step.Step.{Step}
use Rattle.kdf_processor.specs.declared.step.Step.TheVariants as ending
use Rattle.kdf_processor.specs.Effect.{Question, Nothing, Effect, Failing, Ending}
use Rattle.kdf_processor.specs.Needs.{next_effect}
use Rattle.kdf_processor.specs.Outcome.{Outcome, held_or}
use Rattle.kdf_processor.specs.Row.{done_by, next_of}
use Rattle.kdf_transfer.specs.Slots.{Slot}
use Rattle.kdf_processor.specs.State.{State}
use Rattle.kdf_theory.specs.Seen.{tried}
use Rattle.kdf_director.specs.declared.machine.Progress.{Progress}
use Rattle.kdf_director.specs.declared.machine.Progress.TheVariants as progress
use Rattle.kdf_yard.specs.declared.remark.Remark.{Remark}
use Rattle.kdf_director.specs.Advance.{note_told, AdvanceWith}
use Rattle.kdf_director.specs.Fields.Agrees.{Agrees}
use Rattle.kdf_director.specs.Fields.Following.{AreFollowing, IsFollowing, Linked, asked_at}
use Rattle.kdf_theory.specs.Legal.{Meets, note_of}
use Rattle.kdf_theory.specs.Next.{any_live, next}
use Rattle.kdf_yard.specs.Fields.Parts.{Part, Reach, Seat, asked_after, borrower}
use Rattle.kdf_places.specs.Shared.{Shared}
use Rattle.kdf_yard.specs.Fields.Settled.{holder_left}
use Rattle.kdf_yard.specs.Fields.Running.{no_seat, answers_at, hold_of, outcome_at, own_state, part_at, seat_at, IsRunning}
use Rattle.kdf_yard.specs.Fields.Shared.{after_act, moment}
use Rattle.kdf_theory.specs.MachineView.{MachineView, state_at, world_of}
use Rattle.kdf_director.specs.Fields.Viewed.{states_in}
use Rattle.kdf_theory.specs.Slots.{slot_of}
use Rattle.kdf_places.specs.Spots.{spot_at}
use Rattle.kdf_yard.specs.Fields.Standing.{Standing}
use Rattle.kdf_director.specs.Fields.TurnTaken.{HasTaken, progress_of, step_told}
use Rattle.kdf_theory.specs.ByJournal.{flights_of, lone_world, own, seen_of}
use Rattle.kdf_theory.specs.True.{truth}
use Rattle.kdf_theory.specs.World.{first_need, hold_left}
use Rattle.kdf_theory.specs.World as world
use Rattle.kdf_director.proofs.Linking.OrdersEntered.{agrees_obeyed, need_is, shows_obeyed, told, lone_heard, state_heard}
use Rattle.kdf_director.proofs.Linking.EventsEntered.{shows}
use Rattle.kdf_director.proofs.Linking.JudgedAlike.{hold_same}
use Rattle.kdf_director.proofs.Linking.EventsFollowed.{held_follows, held_seen, waited_follows, waited_seen}
use Rattle.kdf_theory.proofs.Course.WorldsJudged.{legal_added, true_added}
use Rattle.kdf_director.proofs.Linking.TransfersLinked.{follow_part}
use Rattle.kdf_theory.proofs.Course.FlightsOnCourse.{legal-course}
use Rattle.kdf_theory.proofs.Course.SeenJournals.{same-need}
use Rattle.kdf_yard.proofs.Turns.OneOrder.{numbers_apart}
use Rattle.kdf_theory.proofs.Course.Worlds.{next-world, next_on, next_slot}
use Rattle.kdf_processor.specs.Lone.{is_live}
use Rattle.kdf_director.proofs.Linking.NextPrograms.{live_same}
use Rattle.kdf_course.specs.World as course
use Rattle.kdf_theory.specs.Served.{IsAnswered}
use Rattle.kdf_theory.proofs.Course.OneJournal.{heard_note}

-- ---- an order that was obeyed isn't held

abbrev pub IsNotHeld : Step → Type 0
IsNotHeld (ending.Held need) = ⊥
IsNotHeld ended = Unit {0}

done_free : (answer : Question → ℕ) (e : Effect) (s : State) → IsNotHeld (done_by answer e s).step
done_free answer (Failing kind) s = tt
done_free answer (Ending after) s = tt
done_free answer e s = tt

pub step_free : (p k : ℕ) (ended : Step) (beside : Remark) → IsNotHeld ended → step_told p k ended beside ≡ Obeys p (note_told k ended beside)
step_free p k (ending.Held need) beside free = absurd free
step_free p k ended beside free = refl

pub progress_free : (p : ℕ) (ended : Step) → IsNotHeld ended → progress_of p ended ≡ progress.Ran p
progress_free p (ending.Held need) free = absurd free
progress_free p ended free = refl

pub hold_free : (ended : Step) → IsNotHeld ended → hold_left ended ≡ None
hold_free (ending.Held need) free = absurd free
hold_free ended free = refl

-- ---- what a machine is after a call

abbrev pub holds_in : List Seat → List Entry → List (Option Need)
holds_in seats J = map (λ (x : Seat). last_hold x.p J) seats

abbrev pub shown : List Slot → List Reach → List Seat → Shared → List Entry → ℕ → MachineView
shown slots reaches seats s J room =
    record { slots = slots; states = states_in reaches seats s J; journal = J; room = room }

-- it is one still, and the call did what it answers
pub record HasAdvanced (answers : ℕ → ℕ → Type 0) (old : MachineView) (y : Standing) (J : List Entry) (room : ℕ) (answer : Progress) : Type 0 where
  pub agrees : Agrees y.slots y.reaches y.seats y.shared J
  pub holds_are : y.holds ≡ holds_in y.seats J
  pub advance : AdvanceWith answers old (shown y.slots y.reaches y.seats y.shared J room) answer
  pub answered : IsAnswered answers old.slots old.journal J

module _ (service : ℕ → ℕ → Type 0) (slots : List Slot) (reaches : List Reach) (seats : List Seat) (s : Shared) (J : List Entry) (room : ℕ)
    (a : Agrees slots reaches seats s J) (holds : List (Option Need)) (have : holds ≡ holds_in seats J) (few : calls J < CALL_LIMIT) where
  abbrev m : MachineView
  m = shown slots reaches seats s J room

  abbrev at : List Seat → Shared → List (Option Need) → Standing
  at seats' s' holds' = record { slots = slots; reaches = reaches; seats = seats'; holds = holds'; shared = s' }

  -- the states of a step that changes none
  states_stay : (st : JournalStep) (seats' : List Seat) (s' : Shared) → Agrees slots reaches seats' s' (added J st)
      → ((p : ℕ) → seen_of slots (added J st) p ≡ seen_of slots J p) → states_in reaches seats' s' (added J st) ≡ states_in reaches seats s J
  states_stay st seats' s' agrees same =
      shows slots reaches seats' s' (added J st) agrees
      ∙ ap (λ (f : Slot → State). map f slots) (fun_ext (λ (x : Slot). same x.p))
      ∙ sym (shows slots reaches seats s J a)

  -- the holds of a step that names no program
  pub holds_stay : (st : JournalStep) → ((p : ℕ) → hold_by p (last_hold p J) st ≡ last_hold p J) → holds ≡ holds_in seats (added J st)
  holds_stay st quiet =
      have ∙ ap (λ (f : Seat → Option Need). map f seats) (fun_ext (λ (x : Seat). sym (last_hold-added x.p J st ∙ quiet x.p)))

  -- ---- no program goes on
  module _ (live : any_live slots J ≡ true) (none : next (world_of m) slots J ≡ None) where
    meets_wait : Meets (lone_world slots J) slots J 0 Waits
    meets_wait = (live, next-world (own slots J) (state_at m) slots J ∙ none)

    agrees_wait : Agrees slots reaches seats s (added J Waits)
    agrees_wait =
        record {
          are = a.are;
          four = a.four;
          numbers = a.numbers;
          running = a.running;
          following = waited_follows slots J reaches seats s a.are a.legal a.running a.following;
          lent = λ j d within pooled. a.lent j d within pooled ∙ sym (holder-quiet d J Waits refl (λ q. refl));
          legal = legal_added slots J 0 Waits a.legal meets_wait;
          truly = true_added slots J 0 Waits a.legal a.truly meets_wait;
          few_calls = omega (arith, calls-added J Waits);
          few_moves = (let k = a.few_moves in omega (arith, moves-added J Waits));
        }

    pub waited : HasAdvanced service m (at seats s holds) (added J Waits) room progress.Idle
    waited =
        record {
          agrees = agrees_wait;
          holds_are = holds_stay Waits (λ p. refl);
          advance = record {
            heard = 0;
            is_heard = tt;
            advance = record {
              live = live;
              none_next = none;
              states = states_stay Waits seats s agrees_wait (waited_seen slots J reaches seats s a.are a.legal a.running a.following);
              journal = refl;
            };
          };
          answered = inr (Waits, refl, tt);
        }

  -- none is live
  pub all_ended : any_live slots J ≡ false → HasAdvanced service m (at seats s holds) J room progress.AllEnded
  all_ended dead = record { agrees = a; holds_are = have; advance = record { heard = 0; is_heard = tt; advance = (dead, refl) }; answered = inl refl }

  -- ---- the turn of a program
  module _ (i : ℕ) (lt : i < length seats) where
    abbrev p : ℕ
    p = (seat_at seats i).p

    module _ (turn : next (world_of m) slots J ≡ Some p) (seats' : List Seat) (s' : Shared) (holds' : List (Option Need)) (K : List Entry) (answer : Progress)
        (t : HasTaken service reaches i seats s holds J seats' s' holds' K answer) (run : IsRunning reaches seats' s') where
      -- what was heard of the service, or 0
      abbrev heard : ℕ
      heard = unwrap_or t.heard 0

      same_numbers : map (λ (x : Seat). x.p) seats' ≡ map (λ (x : Seat). x.p) seats
      same_numbers =
          ext_get_or 0 _ _
          (length-map seats' (λ (x : Seat). x.p) ∙ t.turned.count ∙ sym (length-map seats (λ (x : Seat). x.p)))
          (λ j within.
          let count = t.turned.count in
          let inside : j < length seats' = omega (arith, length-map seats' (λ (x : Seat). x.p)) in
          get_or-map (λ (x : Seat). x.p) seats' j no_seat 0 inside
          ∙ t.turned.numbers j
          ∙ sym (get_or-map (λ (x : Seat). x.p) seats j no_seat 0 (omega arith)))

      -- the holds where a step leaves that of the program so, and every other's
      holds_more : (st : JournalStep) (h : Option Need) → hold_by p (last_hold p J) st ≡ h
          → ((k : ℕ) → p ≢ k → hold_by k (last_hold k J) st ≡ last_hold k J) → set holds i h ≡ holds_in seats' (added J st)
      holds_more st h its others =
          ext_get_or None _ _
          (length-set holds i h ∙ ap length have ∙ length-map seats (told_by J) ∙ sym t.turned.count ∙ sym (length-map seats' (told_by (added J st))))
          (λ j within.
          let count = t.turned.count in
          let inside : j < length seats = omega (arith, length-set holds i h, ap length have, length-map seats (told_by J)) in
          let there : i < length holds = omega (arith, ap length have, length-map seats (told_by J)) in
          ⊎_elim
          (λ (same : j ≡ i).
          ap (λ k. get_or (set holds i h) k None) same
          ∙ get_or-set_same holds i h None there
          ∙ sym its
          ∙ sym (last_hold-added p J st)
          ∙ ap (λ k. last_hold (seat_at seats k).p (added J st)) (sym same))
          (λ (ne : j ≢ i).
          let apart = numbers_apart reaches seats s i j a.running lt inside (λ e. ne (sym e)) in
          get_or-set_other holds i j h None ne
          ∙ ap (λ hs. get_or hs j None) have
          ∙ get_or-map (told_by J) seats j no_seat None inside
          ∙ sym (last_hold-added (seat_at seats j).p J st ∙ others (seat_at seats j).p apart))
          (cases_eq j i)
          ∙ ap (λ k. last_hold k (added J st)) (sym (t.turned.numbers j))
          ∙ sym (get_or-map (told_by (added J st)) seats' j no_seat None (omega arith)))
        where
          told_by : List Entry → Seat → Option Need
          told_by L x = last_hold x.p L

      -- in this world its journal is J with a step more
      by_step : (st : JournalStep) (h : Option Need) (x : Progress) → step_told (seat_at seats' i).p (seat_at seats' i).registers.ran t.ended t.noted ≡ st
          → hold_left t.ended ≡ h → progress_of (seat_at seats' i).p t.ended ≡ x → HasAdvanced service m (at seats' s' (set holds i h)) (added J st) room x
          → HasAdvanced service m (at seats' s' holds') K room answer
      by_step st h x e f g advanced =
          subst (λ L. HasAdvanced service m (at seats' s' holds') L room answer) (sym (t.entered ∙ ap (added J) e))
          (subst (λ hs. HasAdvanced service m (at seats' s' hs) (added J st) room answer) (sym (t.left_held ∙ ap (set holds i) f))
          (subst (HasAdvanced service m (at seats' s' (set holds i h)) (added J st) room) (sym (t.answered ∙ g)) advanced))

      there : is_some (slot_of slots p) ≡ true
      there = next_slot (world_of m) slots J p turn

      -- it obeyed
      abbrev noted : Note
      noted = note_of (own slots J p) (truth (lone_world slots J) J p heard)

      outcome_free : hold_of reaches seats s i ≡ None → outcome_at reaches seats s (moment (clock J) heard) 0 i ≡ next_of (own_state reaches seats s 0 i)
          (answers_at reaches seats (moment (clock J) heard) s i)
      unfolding outcome_at
      outcome_free free = ap (λ o. held_or (seat_at seats i).registers o
          (next_of (own_state reaches seats s 0 i) (answers_at reaches seats (moment (clock J) heard) s i))) free

      not_held : hold_of reaches seats s i ≡ None → IsNotHeld t.ended
      not_held free =
          subst IsNotHeld (sym (t.turned.step 0 ∙ ap (λ (o : Outcome). o.step) (outcome_free free)))
          (done_free (answers_at reaches seats (moment (clock J) heard) s i) (next_effect (own_state reaches seats s 0 i)) (own_state reaches seats s 0 i))

      -- it is live
      is_on : is_live (seat_at seats i).registers.state ≡ true
      unfolding course.lives
      is_on = live_same slots reaches seats s J a i lt ∙ ap₂ (λ (b c : Bool). b && c) there (next_on (world_of m) slots J p turn)

      free_turn : hold_of reaches seats s i ≡ None → HasAdvanced service m (at seats' s' holds') K room answer
      free_turn free =
          by_step (Obeys p noted) None (progress.Ran p)
          (step_free (seat_at seats' i).p (seat_at seats' i).registers.ran t.ended t.noted (not_held free)
          ∙ ap₂ (λ q n. Obeys q n) (t.turned.numbers i)
          (told slots reaches seats s J room a i lt heard turn free seats' s' t.ended t.noted t.turned run few same_numbers))
          (hold_free t.ended (not_held free))
          (progress_free (seat_at seats' i).p t.ended (not_held free) ∙ ap (λ q. progress.Ran q) (t.turned.numbers i))
          (record {
            agrees = agrees_obeyed slots reaches seats s J room a i lt heard turn free seats' s' t.ended t.noted t.turned run few same_numbers;
            holds_are = holds_more (Obeys p noted) None (ap (λ b. cond b None (last_hold p J)) (eq-eqb p p refl))
                (λ k ne. ap (λ b. cond b None (last_hold k J)) (ne_eqb p k ne));
            advance = record {
              heard = heard;
              is_heard = state_heard slots reaches seats s J room a i lt service t.heard t.asked is_on free there;
              advance = shows_obeyed slots reaches seats s J room a i lt heard turn free seats' s' t.ended t.noted t.turned run few same_numbers;
            };
            answered = inr (
              Obeys p noted,
              refl,
              heard_note service slots J p heard
                  (lone_heard slots reaches seats s J room a i lt service t.heard t.asked is_on free),
            );
          })

      -- it was held
      module _ (need : Need) (held : hold_of reaches seats s i ≡ Some need) where
        abbrev q : Part
        q = part_at reaches seats i

        abbrev st : JournalStep
        st = Holds p need

        outcome_held : (n : ℕ) → outcome_at reaches seats s (moment (clock J) heard) n i ≡ record {
          step = ending.Held need;
          registers =
              (seat_at seats i).registers;
          act = Nothing;
        }
        unfolding outcome_at
        outcome_held n = ap (λ o. held_or (seat_at seats i).registers o
            (next_of (own_state reaches seats s n i) (answers_at reaches seats (moment (clock J) heard) s i))) held

        ended_is : t.ended ≡ ending.Held need
        ended_is = t.turned.step 0 ∙ ap (λ (o : Outcome). o.step) (outcome_held 0)

        same_flight : (d : ℕ) → (spot_at s'.spots d).flight ≡ (spot_at s.spots d).flight
        same_flight d = t.turned.flights 0 d ∙ ap (λ (o : Outcome). (spot_at (after_act q s o.act).spots d).flight) (outcome_held 0)

        tried_held : (n : ℕ) → tried (record { step = ending.Held need; registers = (seat_at seats i).registers; act = Nothing })
            (own_state reaches seats s n i) ≡ own_state reaches seats s n i
        unfolding own_state
        tried_held n = refl

        same_own : (n j : ℕ) → j < length seats → own_state reaches seats' s' n j ≡ own_state reaches seats s n j
        same_own n j inside =
            ⊎_elim
            (λ (same : j ≡ i).
            ap (own_state reaches seats' s' n) same
            ∙ ap (λ (o : Outcome). own_state reaches seats' s' (asked_after n o.act) i) (sym (outcome_held n))
            ∙ t.turned.own n
            ∙ ap (λ (o : Outcome). tried o (own_state reaches seats s n i)) (outcome_held n)
            ∙ tried_held n
            ∙ ap (own_state reaches seats s n) (sym same))
            (λ (ne : j ≢ i). t.turned.others n j inside ne)
            (cases_eq j i)

        meets_hold : Meets (lone_world slots J) slots J 0 st
        meets_hold = (
          next-world (own slots J) (state_at m) slots J ∙ turn,
          (sym (same-need slots J p)
              ∙ sym (hold_same slots J reaches seats s a.running a.following i lt (legal-course slots J a.are a.legal p) a.lent)
              ∙ held),
        )

        still : AreFollowing slots (added J st) reaches seats s
        still = held_follows slots J reaches seats s a.are a.legal a.running a.following p need

        follows : AreFollowing slots (added J st) reaches seats' s'
        follows =
            record {
              each = λ j within.
                  let inside : j < length seats = (let c = t.turned.count in omega arith) in
                  follow_part slots (added J st) (part_at reaches seats j) (part_at reaches seats' j)
                  (own_state reaches seats' s' (asked_at seats' (added J st) j) j) s' (t.turned.numbers j) refl
                  (subst (λ (x : State). IsFollowing slots (added J st) (part_at reaches seats j) x s')
                  (sym (ap (λ k. own_state reaches seats' s' (length (answers k (added J st))) j) (t.turned.numbers j)
                  ∙ same_own (asked_at seats (added J st) j) j inside))
                  (record {
                    is_seen = (still.each j inside).is_seen;
                    linked = λ d. subst (λ f. Linked (part_at reaches seats j) d f (flights_of slots (added J st) (seat_at seats j).p d)) (sym (same_flight d))
                        ((still.each j inside).linked d);
                  }));
              busy = λ d. ap is_some (same_flight d) ∙ still.busy d;
            }

        agrees_held : Agrees slots reaches seats' s' (added J st)
        agrees_held =
            record {
              are = a.are;
              four = a.four;
              numbers = same_numbers ∙ a.numbers;
              running = run;
              following = follows;
              lent = λ j d within pooled.
                  let count = t.turned.count in
                  let inside : j < length seats = omega arith in
                  t.turned.holders d
                  ∙ ap (λ e. holder_left p e t.noted d (borrower seats d)) ended_is
                  ∙ a.lent j d inside pooled
                  ∙ sym (holder-quiet d J st refl (λ q. refl));
              legal = legal_added slots J 0 st a.legal meets_hold;
              truly = true_added slots J 0 st a.legal a.truly meets_hold;
              few_calls = omega (arith, calls-added J st);
              few_moves = (let k = a.few_moves in omega (arith, moves-added J st));
            }

        held_turn : HasAdvanced service m (at seats' s' holds') K room answer
        held_turn =
            by_step st (Some need) (progress.Held p need)
            (ap (λ e. step_told (seat_at seats' i).p (seat_at seats' i).registers.ran e t.noted) ended_is
            ∙ ap (λ k. Holds k need) (t.turned.numbers i))
            (ap hold_left ended_is)
            (ap (progress_of (seat_at seats' i).p) ended_is ∙ ap (λ k. progress.Held k need) (t.turned.numbers i))
            (record {
              agrees = agrees_held;
              holds_are = holds_more st (Some need)
                  (ap (λ b. cond b (Some need) (last_hold p J)) (eq-eqb p p refl))
                  (λ k ne. ap (λ b. cond b (Some need) (last_hold k J)) (ne_eqb p k ne));
              advance = record {
                heard = 0;
                is_heard = tt;
                advance = record {
                  was_next = turn;
                  held = need_is slots reaches seats s J room a i lt there ∙ held;
                  states = states_stay st seats' s' agrees_held (held_seen slots J reaches seats s a.are a.legal a.running a.following p need);
                  journal = refl;
                };
              };
              answered = inr (st, refl, tt);
            })

      pub taken : HasAdvanced service m (at seats' s' holds') K room answer
      taken = by_hold (hold_of reaches seats s i) refl
        where
          by_hold : (o : Option Need) → hold_of reaches seats s i ≡ o → HasAdvanced service m (at seats' s' holds') K room answer
          by_hold None free = free_turn free
          by_hold (Some need) held = held_turn need held
