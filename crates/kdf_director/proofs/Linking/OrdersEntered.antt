-- A machine whose program obeyed an order, or was held, stays as a machine is, and shows just that.
use Rattle.std.specs.Prelude.{find, unwrap_or, IfSome}
use Rattle.std.specs.List.{AllPairs}
use Rattle.std.proofs.Common.{◌≡◌, ◌≢◌, ℕ, suc, ◌<◌, ◌^◌, true, false, List, [], ◌∷◌, length, get_or, map, Option, Some, None, is_some, cond, refl, sym, ap}
use Rattle.std.proofs.Common.{ap₂, ◌∙◌, subst, ⊎_elim, arith}
use Rattle.std.proofs.lemmas.Bool.{cases_eq, eq-eqb, ne_eqb}
use Rattle.kdf_journal.specs.declared.entry.Entry.{Entry}
use Rattle.kdf_journal.specs.declared.journal.TheConstants.{CALL_LIMIT}
use Rattle.kdf_journal.specs.Counts.{calls, clock, holder}
use Rattle.kdf_journal.specs.Steps.{Note, Obeys, added}
use Rattle.kdf_journal.proofs.Added.{calls-added, moves-added}
use Rattle.kdf_processor.specs.declared.step.Step.{Step}
use Rattle.kdf_processor.specs.declared.step.Step.TheVariants as ending
use Rattle.kdf_processor.specs.Ahead.{word_asked}
use Rattle.kdf_processor.specs.Effect.{Question, Act, Nothing, Writes, Starts, Asks, Acquires, Releases, Spools, FreeOf, Effect, Failing, Ending}
use Rattle.kdf_processor.specs.Needs.{needs, next_effect}
use Rattle.kdf_processor.specs.Row.{done_by}
use Rattle.kdf_processor.specs.Outcome.{Outcome}
use Rattle.kdf_transfer.specs.Slots.{Slot}
use Rattle.kdf_processor.specs.State.{State}
use Rattle.kdf_director.specs.Advance.{Obeyed, note_told, states_after}
use Rattle.kdf_theory.specs.Asked.{HasAsked, IsHeard}
use Rattle.kdf_director.specs.Fields.Agrees.{Agrees}
use Rattle.kdf_yard.specs.Fields.Running.{AreLent, outcome_at, hold_of, own_state, seat_at, IsRunning, reach_at}
use Rattle.kdf_director.specs.Fields.Following.{asked_at}
use Rattle.kdf_theory.specs.Legal.{Meets, note_for, note_of, note_of_outcome}
use Rattle.kdf_theory.specs.Next.{next}
use Rattle.kdf_yard.specs.Fields.Remarks as notes
use Rattle.kdf_yard.specs.Fields.Parts.{Reach, Seat}
use Rattle.kdf_places.specs.Shared.{Shared}
use Rattle.kdf_yard.specs.Fields.Settled.{holder_left}
use Rattle.kdf_theory.specs.Seen.{begun_row, seen}
use Rattle.kdf_theory.specs.MachineView.{MachineView, state_at, state_in, world_of}
use Rattle.kdf_director.specs.Fields.Viewed.{states_in}
use Rattle.kdf_theory.specs.Slots.{slot_of, start_of}
use Rattle.kdf_theory.specs.ByJournal.{flights_of, is_pending_after, lone_world, mine_after, own, seen_of, seen_world}
use Rattle.kdf_theory.specs.True.{truth}
use Rattle.kdf_yard.specs.Fields.Turned.{word_over, HasTurned}
use Rattle.kdf_theory.specs.World as world
use Rattle.kdf_theory.specs.World.{first_need}
use Rattle.kdf_yard.specs.declared.remark.Remark.{Remark}
use Rattle.kdf_director.proofs.Linking.EventsEntered.{shows}
use Rattle.kdf_director.proofs.Linking.OrdersFollowed.{outcome_is, turn_follows}
use Rattle.kdf_director.proofs.Linking.JudgedAlike.{hold_same}
use Rattle.kdf_director.proofs.Linking.HoldersChange.{IsGoing, holder_then}
use Rattle.kdf_theory.proofs.Course.WorldsJudged.{legal_added, true_added}
use Rattle.kdf_theory.proofs.Course.OrdersObeyed.{obeys-others, obeys-seen}
use Rattle.kdf_theory.proofs.Course.FlightsOnCourse.{apart-mine, free_hides_none, legal-course}
use Rattle.kdf_theory.proofs.Course.SeenJournals.{same-need, same-note}
use Rattle.kdf_theory.proofs.Course.Worlds.{next-world, next_on, next_slot}
use Rattle.kdf_yard.specs.Fields.Shared.{moment}
use Rattle.kdf_theory.proofs.Seen.OrdersSeen.{same_next}
use Rattle.kdf_processor.specs.Lone.{is_live}
use Rattle.kdf_theory.proofs.Course.HeardWords.{heard_so}
use Rattle.kdf_yard.proofs.Turns.HeardWords.{word_is}

-- ---- states by slots

-- the state in a slot
pub state_there : (g : ℕ → State) (p : ℕ) (slots : List Slot) → is_some (slot_of slots p) ≡ true → state_in slots (map (λ (x : Slot). g x.p) slots) p
    ≡ Some (g p)
state_there g p [] is = cc
state_there g p (x ∷ slots) is =
    ⊎_elim
    (λ (same : x.p ≡ p).
    ap (λ b. cond b (Some (g x.p)) (state_in slots (map (λ (y : Slot). g y.p) slots) p)) (eq-eqb x.p p same) ∙ ap (λ k. Some (g k)) same)
    (λ (ne : x.p ≢ p).
    ap (λ b. cond b (Some (g x.p)) (state_in slots (map (λ (y : Slot). g y.p) slots) p)) (ne_eqb x.p p ne)
    ∙ state_there g p slots (sym (ap (λ b. is_some (cond b (Some x) (slot_of slots p))) (ne_eqb x.p p ne)) ∙ is))
    (cases_eq x.p p)

-- slots that aren't the program's
states_apart : (g h : ℕ → State) (p : ℕ) → ((k : ℕ) → k ≢ p → h k ≡ g k) → (slots : List Slot)
    → ((j : ℕ) (d : Slot) → j < length slots → (get_or slots j d).p ≢ p) → map (λ (x : Slot). h x.p) slots ≡ map (λ (x : Slot). g x.p) slots
states_apart g h p same [] apart = refl
states_apart g h p same (x ∷ slots) apart =
    ap₂ (λ (a : State) (b : List State). a ∷ b) (same x.p (apart 0 x (omega arith)))
    (states_apart g h p same slots (λ j d lt. apart (suc j) d (omega arith)))

-- one program's state is another, and no other's
states_row : (g h : ℕ → State) (p : ℕ) (answer : Question → ℕ) → h p ≡ begun_row (g p) answer → ((k : ℕ) → k ≢ p → h k ≡ g k) → (slots : List Slot)
    → AllPairs (λ (a b : Slot). a.p ≢ b.p) slots → map (λ (x : Slot). h x.p) slots ≡ states_after slots (map (λ (x : Slot). g x.p) slots) p answer
states_row g h p answer this others [] pairs = refl
states_row g h p answer this others (x ∷ slots) pairs =
    ⊎_elim
    (λ (same : x.p ≡ p).
    ap₂ (λ (a : State) (b : List State). a ∷ b) (ap h same ∙ this ∙ ap (λ k. begun_row (g k) answer) (sym same))
    (states_apart g h p others slots (λ j d lt e. pairs 0 (suc j) d (omega arith) (omega arith) (same ∙ sym e)))
    ∙ sym (ap (λ b. cond b (begun_row (g x.p) answer ∷ rest) (g x.p ∷ states_after slots rest p answer)) (eq-eqb x.p p same)))
    (λ (ne : x.p ≢ p).
    ap₂ (λ (a : State) (b : List State). a ∷ b) (others x.p ne)
    (states_row g h p answer this others slots (λ i j d low lt. pairs (suc i) (suc j) d (omega arith) (omega arith)))
    ∙ sym (ap (λ b. cond b (begun_row (g x.p) answer ∷ rest) (g x.p ∷ states_after slots rest p answer)) (ne_eqb x.p p ne)))
    (cases_eq x.p p)
  where
    rest : List State
    rest = map (λ (y : Slot). g y.p) slots

-- ---- notes
told_act : (k : ℕ) (act : Act) (step : Step) → note_told k step (notes.note_of act) ≡ note_for k step act
told_act k Nothing (ending.Fails kind) = refl
told_act k Nothing ending.Ends = refl
told_act k Nothing ending.Done = refl
told_act k Nothing (ending.Held need) = refl
told_act k (Writes a w) (ending.Fails kind) = refl
told_act k (Writes a w) ending.Ends = refl
told_act k (Writes a w) ending.Done = refl
told_act k (Writes a w) (ending.Held need) = refl
told_act k (Starts d o first last) (ending.Fails kind) = refl
told_act k (Starts d o first last) ending.Ends = refl
told_act k (Starts d o first last) ending.Done = refl
told_act k (Starts d o first last) (ending.Held need) = refl
told_act k (Asks (FreeOf kind) answer) (ending.Fails why) = refl
told_act k (Asks question answer) (ending.Fails kind) = refl
told_act k (Asks (FreeOf kind) answer) ending.Ends = refl
told_act k (Asks question answer) ending.Ends = refl
told_act k (Asks (FreeOf kind) answer) ending.Done = refl
told_act k (Asks question answer) ending.Done = refl
told_act k (Asks (FreeOf kind) answer) (ending.Held need) = refl
told_act k (Asks question answer) (ending.Held need) = refl
told_act k (Acquires d) (ending.Fails kind) = refl
told_act k (Acquires d) ending.Ends = refl
told_act k (Acquires d) ending.Done = refl
told_act k (Acquires d) (ending.Held need) = refl
told_act k (Releases true d) (ending.Fails kind) = refl
told_act k (Releases false d) (ending.Fails kind) = refl
told_act k (Releases true d) ending.Ends = refl
told_act k (Releases false d) ending.Ends = refl
told_act k (Releases true d) ending.Done = refl
told_act k (Releases false d) ending.Done = refl
told_act k (Releases true d) (ending.Held need) = refl
told_act k (Releases false d) (ending.Held need) = refl
told_act k (Spools stream first last) (ending.Fails kind) = refl
told_act k (Spools stream first last) ending.Ends = refl
told_act k (Spools stream first last) ending.Done = refl
told_act k (Spools stream first last) (ending.Held need) = refl

-- what an effect comes to is no hold
done_going : (answer : Question → ℕ) (e : Effect) (s : State) → IsGoing (done_by answer e s).step
done_going answer (Failing kind) s = tt
done_going answer (Ending after) s = tt
done_going answer e s = tt

-- ---- a machine
module _ (slots : List Slot) (reaches : List Reach) (seats : List Seat) (s : Shared) (J : List Entry) (room : ℕ) (a : Agrees slots reaches seats s J) (i : ℕ)
    (lt : i < length seats) where
  abbrev p : ℕ
  p = (seat_at seats i).p

  abbrev m : MachineView
  m = record { slots = slots; states = states_in reaches seats s J; journal = J; room = room }

  -- its own state is what is seen of it
  state_is : is_some (slot_of slots p) ≡ true → state_at m p ≡ seen_of slots J p
  state_is there =
      ap (λ xs. unwrap_or (state_in slots xs p) (start_of None)) (shows slots reaches seats s J a)
      ∙ ap (λ o. unwrap_or o (start_of None)) (state_there (seen_of slots J) p slots there)

  by_state : is_some (slot_of slots p) ≡ true → first_need (world_of m) p ≡ first_need (seen_world slots J) p
  unfolding first_need
  by_state there = ap (λ x. find (is_pending_after slots J p) (needs x (mine_after J p))) (state_is there)

  -- where nothing holds it up, nothing does by its lone state
  lone_free : hold_of reaches seats s i ≡ None → first_need (lone_world slots J) p ≡ None
  lone_free free =
      sym (same-need slots J p)
      ∙ sym (hold_same slots J reaches seats s a.running a.following i lt (legal-course slots J a.are a.legal p) a.lent)
      ∙ free

  -- what is heard where its next order, which nothing holds up, asks the service, by its own state and by the lone one
  module _ (answers : ℕ → ℕ → Type 0) (heard : Option ℕ) (asked : HasAsked answers (word_over (seat_at seats i) (reach_at reaches i) s) heard)
      (live : is_live (seat_at seats i).registers.state ≡ true) (free : hold_of reaches seats s i ≡ None) where
    own_heard : (n : ℕ) → IsHeard answers (own_state reaches seats s n i) (unwrap_or heard 0)
    own_heard n =
        subst (λ o. IfSome o (λ word. (word < 2 ^ 48) × answers word (unwrap_or heard 0))) (word_is reaches seats s i a.running lt live free n)
        (heard_so answers (word_over (seat_at seats i) (reach_at reaches i) s) heard asked)

    pub lone_heard : IsHeard answers (own slots J p) (unwrap_or heard 0)
    lone_heard =
        subst (λ (e : Effect). IfSome (word_asked e) (λ word. (word < 2 ^ 48) × answers word (unwrap_or heard 0)))
        (ap next_effect (a.following.each i lt).is_seen
        ∙ sym (same_next (flights_of slots J p) (mine_after J p) (own slots J p) (apart-mine slots J p (free_hides_none slots J p (lone_free free)))))
        (own_heard (asked_at seats J i))

    pub state_heard : is_some (slot_of slots p) ≡ true → IsHeard answers (state_at m p) (unwrap_or heard 0)
    state_heard there =
        subst (λ (x : State). IsHeard answers x (unwrap_or heard 0)) ((a.following.each i lt).is_seen ∙ sym (state_is there)) (own_heard (asked_at seats J i))

  -- what holds it up by its own state
  pub need_is : is_some (slot_of slots p) ≡ true → first_need (world_of m) p ≡ hold_of reaches seats s i
  need_is there =
      by_state there
      ∙ sym (hold_same slots J reaches seats s a.running a.following i lt (legal-course slots J a.are a.legal p) a.lent)

  -- it is next, and nothing holds it up
  module _ (heard : ℕ) (turn : next (world_of m) slots J ≡ Some p) (free : hold_of reaches seats s i ≡ None) where
    abbrev answer : Question → ℕ
    answer = truth (lone_world slots J) J p heard

    there : is_some (slot_of slots p) ≡ true
    there = next_slot (world_of m) slots J p turn

    turn_lone : next (lone_world slots J) slots J ≡ Some p
    turn_lone = next-world (own slots J) (state_at m) slots J ∙ turn

    free_lone : first_need (lone_world slots J) p ≡ None
    free_lone = lone_free free

    abbrev noted : Note
    noted = note_of (own slots J p) answer

    meets : Meets (lone_world slots J) slots J heard (Obeys p noted)
    meets = (turn_lone, free_lone, refl)

    noted_own : note_of (state_at m p) (truth (world_of m) J p heard) ≡ noted
    noted_own = ap (λ (x : State). note_of x answer) (state_is there) ∙ same-note slots J p answer free_lone

    module _ (seats' : List Seat) (s' : Shared) (ended : Step) (beside : Remark)
        (turned : HasTurned reaches (moment (clock J) heard) i seats s seats' s' ended beside) (run : IsRunning reaches seats' s') (few : calls J < CALL_LIMIT)
        (numbers : map (λ (x : Seat). x.p) seats' ≡ map (λ (x : Seat). x.p) seats) where
      abbrev o : Outcome
      o = outcome_at reaches seats s (moment (clock J) heard) (asked_at seats J i) i

      count : (seat_at seats' i).registers.ran ≡ (outcome_at reaches seats s (moment (clock J) heard) (asked_at seats J i) i).registers.ran
      unfolding own_state
      count = ap (λ (x : State). x.registers.ran) (turned.own (asked_at seats J i))

      -- what is noted of it
      pub told : note_told (seat_at seats' i).registers.ran ended beside ≡ noted
      told =
          ap₂ (λ e b. note_told (seat_at seats' i).registers.ran e b) (turned.step (asked_at seats J i)) (turned.note (asked_at seats J i))
          ∙ ap (λ k. note_told k o.step (notes.note_of o.act)) count
          ∙ told_act o.registers.ran o.act o.step
          ∙ ap note_of_outcome (outcome_is slots J reaches seats s a.are a.legal a.running a.following a.lent i lt heard noted meets)
          ∙ ap (λ (x : State). note_of x answer) (a.following.each i lt).is_seen
          ∙ same-note slots J p answer free_lone

      -- it isn't held, and it was live
      going : IsGoing ended
      going = subst IsGoing (sym (turned.step (asked_at seats J i)
          ∙ ap (λ (x : Outcome). x.step) (outcome_is slots J reaches seats s a.are a.legal a.running a.following a.lent i lt heard noted meets)))
          (done_going answer (next_effect (own_state reaches seats s (asked_at seats J i) i)) (own_state reaches seats s (asked_at seats J i) i))

      -- each device of the pool is whose the journal tells then
      lent_then : AreLent (added J (Obeys p noted)) reaches seats'
      lent_then j d within pooled =
          let count' = turned.count in
          let inside : j < length seats = omega arith in
          turned.holders d
          ∙ ap (holder_left p ended beside d) (a.lent j d inside pooled)
          ∙ sym (holder_then p (seat_at seats' i).registers.ran d J ended beside going (next_on (lone_world slots J) slots J p turn_lone))
          ∙ ap (λ x. holder d (added J (Obeys p x))) told

      pub agrees_obeyed : Agrees slots reaches seats' s' (added J (Obeys p noted))
      agrees_obeyed =
          record {
            are = a.are;
            four = a.four;
            numbers = numbers ∙ a.numbers;
            running = run;
            following = turn_follows slots J reaches seats s a.are a.legal a.running a.following a.lent i lt heard noted meets seats' s' ended beside turned;
            lent = lent_then;
            legal = legal_added slots J heard (Obeys p noted) a.legal meets;
            truly = true_added slots J heard (Obeys p noted) a.legal a.truly meets;
            few_calls = omega (arith, calls-added J (Obeys p noted));
            few_moves = (let k = a.few_moves in omega (arith, moves-added J (Obeys p noted)));
          }

      pub shows_obeyed : Obeyed heard m (record {
        slots = slots;
        states = states_in reaches seats' s' (added J (Obeys p noted));
        journal =
            added J (Obeys p noted);
        room = room;
      }) p
      shows_obeyed =
          record {
            was_next = turn;
            free = need_is there ∙ free;
            states =
                shows slots reaches seats' s' (added J (Obeys p noted)) agrees_obeyed
                ∙ states_row (seen_of slots J) (seen_of slots (added J (Obeys p noted))) p answer
                (obeys-seen slots J p heard noted a.legal meets a.are)
                (λ k ne. other k (λ e. ne (sym e))) slots a.are.numbers
                ∙ ap (λ xs. states_after slots xs p answer) (sym (shows slots reaches seats s J a));
            journal = ap (λ x. added J (Obeys p x)) (sym noted_own);
          }
        where
          other : (k : ℕ) → p ≢ k → seen_of slots (added J (Obeys p noted)) k ≡ seen_of slots J k
          other k ne =
              let stay = obeys-others slots J p heard noted a.legal meets a.are k ne in
              ap₂ seen stay.1 stay.0
