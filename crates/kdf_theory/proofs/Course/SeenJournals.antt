-- What is seen of the programs, by a journal: it is judged as their lone states are, and what one step more makes of
-- it.
use Rattle.std.proofs.Common.{◌≡◌, ℕ, List, Option, Some, None, false, refl, sym, ◌∙◌, ap, ap₂, take, set, length}
use Rattle.kdf_transfer.specs.AtOnce.{written}
use Rattle.kdf_journal.specs.declared.need.Need.{Need}
use Rattle.kdf_processor.specs.Effect.{Question, Effect, Failing}
use Rattle.kdf_processor.specs.Lone.{is_live, lone}
use Rattle.kdf_processor.specs.Needs.{next_effect}
use Rattle.kdf_processor.specs.Row.{done_by}
use Rattle.kdf_transfer.specs.Slots.{Slot}
use Rattle.kdf_processor.specs.State.{State, device_in}
use Rattle.kdf_processor.proofs.FrameLemmas.{agree_under, first_agree}
use Rattle.kdf_processor.proofs.LoneLemmas.{same_end}
use Rattle.kdf_schedule.specs.Calls.{Call, AnOrder, AMove, AnEnd, AClock, ASwap}
use Rattle.kdf_course.specs.Course.{turn_step, turn_step_of}
use Rattle.kdf_theory.specs.Course.{step_at, lone_step_at}
use Rattle.kdf_journal.specs.declared.entry.Entry.{Entry}
use Rattle.kdf_journal.specs.Counts.{answers, ran}
use Rattle.kdf_journal.specs.Steps.{Note, JournalStep, Obeys, Holds, Waits, Moves, Ends, Sets, Swaps, added}
use Rattle.kdf_theory.specs.Flights.{Flight, completed, unmoved, with_flight}
use Rattle.kdf_theory.specs.Legal.{lone_note, note_of, note_of_outcome, true_note, Meets}
use Rattle.kdf_theory.specs.Next.{dispatched, lone_dispatched, next}
use Rattle.kdf_theory.specs.Seen.{pending_in_flight, seen, with_both, with_store}
use Rattle.kdf_theory.specs.Slots.{start}
use Rattle.kdf_theory.specs.ByJournal.{own_after, own, flights_of, further, is_pending_after, lone_world, mine_after, seen_of, seen_world}
use Rattle.kdf_theory.specs.True.{truth}
use Rattle.kdf_theory.specs.World.{first_need}
use Rattle.kdf_theory.proofs.Seen.OrdersSeen.{same_next}
use Rattle.kdf_theory.proofs.Seen.TransfersEnd.{ends_seen}
use Rattle.kdf_theory.proofs.Course.FlightsAdded.{flights-end, flights-move}
use Rattle.kdf_theory.proofs.Seen.WordsMove.{moves_seen, with_flight_itself}
use Rattle.kdf_theory.proofs.Course.FlightsOnCourse.{IsOnCourse, apart-mine, free_hides_none, pending-more}
use Rattle.kdf_theory.proofs.Course.OwnSteps.{own-same}
use Rattle.kdf_theory.proofs.Seen.SeenStates.{seen_agrees, seen_nothing}
use Rattle.kdf_theory.proofs.Course.Worlds.{next-world}

-- ---- one judgement

-- what holds a program up is the same in what is seen of it
pub same-need : (slots : List Slot) (J : List Entry) (p : ℕ) → first_need (seen_world slots J) p ≡ first_need (lone_world slots J) p
unfolding first_need
same-need slots J p =
    sym (first_agree (is_pending_after slots J p) (mine_after J p) (own slots J p) (seen_of slots J p)
    (agree_under (pending_in_flight (flights_of slots J p)) (is_pending_after slots J p) (own slots J p) (seen_of slots J p) (pending-more slots J p)
    (seen_agrees (flights_of slots J p) (own slots J p))))

note_alike : (flights : ℕ → Option Flight) (answer : Question → ℕ) (e : Effect) (s : State) → note_of_outcome (done_by answer e (seen flights s))
    ≡ note_of_outcome (done_by answer e s)
note_alike flights answer (Failing kind) s = refl
note_alike flights answer e s = refl

-- and so is the note of its order, where nothing holds it up
pub same-note : (slots : List Slot) (J : List Entry) (p : ℕ) (answer : Question → ℕ) → first_need (lone_world slots J) p ≡ None
    → note_of (seen_of slots J p) answer ≡ note_of (own slots J p) answer
same-note slots J p answer none =
    ap (λ (e : Effect). note_of_outcome (done_by answer e (seen_of slots J p)))
    (sym (same_next (flights_of slots J p) (mine_after J p) (own slots J p) (apart-mine slots J p (free_hides_none slots J p none))))
    ∙ note_alike (flights_of slots J p) answer (next_effect (own slots J p)) (own slots J p)

-- so a step that meets the rules by what is seen meets them by the lone states
pub judged : (slots : List Slot) (J : List Entry) (heard : ℕ) (s : JournalStep) → Meets (seen_world slots J) slots J heard s
    → Meets (lone_world slots J) slots J heard s
judged slots J heard (Obeys p note) m =
    let none : first_need (lone_world slots J) p ≡ None = sym (same-need slots J p) ∙ m.1 in (
      next-world (own slots J) (seen_of slots J) slots J ∙ m.0,
      none,
      m.2
          ∙ same-note slots J p (truth (lone_world slots J) J p heard) none,
    )
judged slots J heard (Holds p by) m = (next-world (own slots J) (seen_of slots J) slots J ∙ m.0, sym (same-need slots J p) ∙ m.1)
judged slots J heard Waits m = (m.0, next-world (own slots J) (seen_of slots J) slots J ∙ m.1)
judged slots J heard (Moves d n) m = tt
judged slots J heard (Ends d) m = tt
judged slots J heard (Sets t) m = m
judged slots J heard (Swaps p q) m = m

-- and each call makes the same step
same-turn : (slots : List Slot) (J : List Entry) (heard p : ℕ) (o : Option Need) → first_need (lone_world slots J) p ≡ o
    → turn_step (true_note (seen_world slots J) J heard) p o ≡ turn_step (lone_note slots heard J) p o
same-turn slots J heard p None none = ap (λ (n : Note). Obeys p n) (same-note slots J p (truth (lone_world slots J) J p heard) none)
same-turn slots J heard p (Some need) held = refl

same-turn_of : (slots : List Slot) (J : List Entry) (heard : ℕ) (o : Option ℕ)
    → turn_step_of (dispatched slots (seen_world slots J)) (true_note (seen_world slots J) J heard) o
    ≡ turn_step_of (lone_dispatched slots J) (lone_note slots heard J) o
same-turn_of slots J heard None = refl
same-turn_of slots J heard (Some p) =
    ap (λ (o : Option Need). turn_step (true_note (seen_world slots J) J heard) p o) (same-need slots J p)
    ∙ same-turn slots J heard p (first_need (lone_world slots J) p) refl

pub same-step : (slots : List Slot) (J : List Entry) (heard : ℕ) (c : Call) → step_at (seen_world slots J) slots J heard c ≡ lone_step_at slots J heard c
same-step slots J heard AnOrder =
    ap (turn_step_of (dispatched slots (seen_world slots J)) (true_note (seen_world slots J) J heard)) (next-world (seen_of slots J) (own slots J) slots J)
    ∙ same-turn_of slots J heard (next (lone_world slots J) slots J)
same-step slots J heard (AMove d n) = refl
same-step slots J heard (AnEnd d) = refl
same-step slots J heard (AClock t) = refl
same-step slots J heard (ASwap p q) = refl

-- ---- what is seen after a step
module _ (slots : List Slot) (J : List Entry) (p : ℕ) (asked : (own slots J p).stock.asked ≡ length (answers p J)) (course : IsOnCourse slots J p) where
  -- words of one of its transfers that come to the store are written to it
  pub move-seen : (d n : ℕ) (f : Flight) → flights_of slots J p d ≡ Some f → seen_of slots (added J (Moves d n)) p ≡ with_store (seen_of slots J p)
      (written (take n (unmoved d f)) (seen_of slots J p).stock.store)
  move-seen d n f this =
      ap₂ seen
      (flights-move slots J p asked course.past d n ∙ ap (λ (g : Option Flight). with_flight d (further d n g) (flights_of slots J p)) this)
      (own-same slots J (Moves d n) p refl refl)
      ∙ moves_seen n (flights_of slots J p) (own slots J p) d f this course.flying

  pub move-none : (d n : ℕ) → flights_of slots J p d ≡ None → flights_of slots (added J (Moves d n)) p ≡ flights_of slots J p
  move-none d n this =
      flights-move slots J p asked course.past d n
      ∙ ap (λ (g : Option Flight). with_flight d (further d n g) (flights_of slots J p)) this
      ∙ with_flight_itself d None (flights_of slots J p) this

  -- the end of one shows its device, and the words that were left
  pub end-seen : (d : ℕ) (f : Flight) → flights_of slots J p d ≡ Some f → seen_of slots (added J (Ends d)) p ≡ with_both (seen_of slots J p)
      (written (unmoved d f) (seen_of slots J p).stock.store) (set (seen_of slots J p).stock.devices d (device_in (completed d f) d))
  end-seen d f this =
      ap₂ seen (flights-end slots J p asked course.past d) (own-same slots J (Ends d) p refl refl)
      ∙ ends_seen (flights_of slots J p) (own slots J p) d f this course.flying

  pub end-none : (d : ℕ) → flights_of slots J p d ≡ None → flights_of slots (added J (Ends d)) p ≡ flights_of slots J p
  end-none d this = flights-end slots J p asked course.past d ∙ with_flight_itself d None (flights_of slots J p) this

-- ---- two journals

-- a program that is live in neither is seen alike in both, where it began alike and was answered alike
pub two-ends : (slots others : List Slot) (J K : List Entry) (p : ℕ) → ((d : ℕ) → flights_of slots J p d ≡ None) → ((d : ℕ) → flights_of others K p d ≡ None)
    → start slots p ≡ start others p → answers p J ≡ answers p K → is_live (own slots J p).registers.state ≡ false
    → is_live (own others K p).registers.state ≡ false → seen_of slots J p ≡ seen_of others K p
unfolding own
two-ends slots others J K p none none' begun told over over' =
    let same : own_after slots J p (ran p J) ≡ own_after others K p (ran p J) = ap₂ (λ (s : State) (xs : List ℕ). lone s xs (ran p J)) begun told in
    seen_nothing (flights_of slots J p) (own_after slots J p (ran p J)) none
    ∙ same
    ∙ same_end (start others p) (answers p K) (ran p J) (ran p K) (ap (λ (s : State). is_live s.registers.state) (sym same) ∙ over) over'
    ∙ sym (seen_nothing (flights_of others K p) (own_after others K p (ran p K)) none')
