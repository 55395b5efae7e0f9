-- At each moment of a legal journal the transfers of each program are in flight.
use Rattle.std.proofs.Common.{◌≡◌, ◌≢◌, ℕ, ◌+◌, ◌≤◌, min, List, [], ◌∷◌, length, Option, Some, None, is_some, Bool, true, false, cond, ◌||◌, eqb, refl, sym}
use Rattle.std.proofs.Common.{◌∙◌, ap, ap₂, subst, subst₂, ⊎_elim, arith}
use Rattle.std.specs.Prelude.{find}
use Rattle.std.specs.List.{filter, list_any, range_with_len}
use Rattle.std.proofs.Math.Path.{fun_ext}
use Rattle.std.proofs.lemmas.Bool.{or_parts, cases_eq, eq-eqb, ne_eqb, false_from_ne_true, false≢true}
use Rattle.std.proofs.lemmas.List.Folds.{list_any-append}
use Rattle.kdf_journal.specs.declared.need.Need.{Need}
use Rattle.kdf_journal.specs.declared.need.Need.TheVariants.{Group, Device, Pool}
use Rattle.kdf_processor.specs.Effect.{Question, Effect, Failing, Ending, Starting, Asking, FreeOf, Returning}
use Rattle.kdf_processor.specs.Frame.{HidesNone}
use Rattle.kdf_processor.specs.Lone.{is_live}
use Rattle.kdf_processor.specs.Needs.{effect_needs, fetch_needs, needs, next_effect}
use Rattle.kdf_processor.specs.Row.{done_by, perform, row}
use Rattle.kdf_transfer.specs.Slots.{Slot}
use Rattle.kdf_processor.specs.State.{State, word_at}
use Rattle.kdf_journal.specs.declared.entry.Entry.{Entry}
use Rattle.kdf_journal.specs.Counts.{ran, answers, pending, moved_if}
use Rattle.kdf_journal.specs.Steps.{JournalStep, Obeys, Holds, Waits, Moves, Ends, Sets, Swaps, added, journal_of, steps}
use Rattle.kdf_transfer.specs.ByNumber.{device_count}
use Rattle.kdf_journal.proofs.Added.{ran_by, ran-added, answer_in_note, answers_by, pending_by, pending-added, moved_by}
use Rattle.kdf_theory.specs.Flights.{Flight, beginning, flights_after, mine_of, move_count, with_flight}
use Rattle.kdf_theory.specs.Flying.{AreFlying}
use Rattle.kdf_course.specs.Legal as rules
use Rattle.kdf_theory.specs.Legal.{any_answer, note_of, note_of_outcome, EachMeets, IsLegal}
use Rattle.kdf_theory.specs.Next.{lone_dispatched}
use Rattle.kdf_theory.specs.Seen.{begun_row, pending_in_flight, seen}
use Rattle.kdf_theory.specs.Slots.{AreSlots}
use Rattle.kdf_theory.specs.ByJournal.{own, flights_of, flight_from, flight_of, further, is_of, is_pending_after, lone_world, mine_after, seen_of}
use Rattle.kdf_theory.specs.World.{first_need}
use Rattle.kdf_theory.proofs.Seen.OrdersSeen.{begun_seen, with_flight_is, with_flight_other}
use Rattle.kdf_theory.proofs.Seen.TransfersEnd.{flying_ended}
use Rattle.kdf_theory.proofs.Course.FlightsAdded.{IsPast, begun_at, flight-stays, flights-end, flights-move, flights-obey, none-there, pending_behind}
use Rattle.kdf_theory.proofs.Course.FlightsAdded.{pending-obeys}
use Rattle.kdf_theory.proofs.Course.LegalFacts.{IsKept, kept_of}
use Rattle.kdf_theory.proofs.Seen.WordsMove.{flying_moved}
use Rattle.kdf_theory.proofs.Seen.NoneInFlight.{nothing_flying, over_row}
use Rattle.kdf_theory.proofs.Course.OwnSteps.{own-nil, own-ran, own-same, own-obeys}
use Rattle.kdf_theory.proofs.Course.SlotsAtStart.{start-sized}
use Rattle.kdf_theory.proofs.Seen.FlightsStay.{row_flying}
use Rattle.kdf_theory.proofs.Course.Worlds.{next_on}

-- ---- what is pending

flight-pending : (slots : List Slot) (J : List Entry) (p d : ℕ) (o : Option (ℕ × ℕ)) → is_some (flight_of slots J p d o) ≡ true → is_some o ≡ true
flight-pending slots J p d None is = is
flight-pending slots J p d (Some begun) is = refl

device-pending : (slots : List Slot) (J : List Entry) (p d : ℕ) → is_some (flights_of slots J p d) ≡ true → is_some (pending d J) ≡ true
unfolding flights_of
device-pending slots J p d is = flight-pending slots J p d (pending d J) is

-- what a program's own transfers make pending is pending
pub pending-more : (slots : List Slot) (J : List Entry) (p : ℕ) (n : Need) → pending_in_flight (flights_of slots J p) n ≡ true
    → is_pending_after slots J p n ≡ true
pending-more slots J p (Group g) is = is
pending-more slots J p (Device d) is = device-pending slots J p d is
pending-more slots J p (Pool kind) is = cc

hides_less : (fewer more : Need → Bool) → ((n : Need) → fewer n ≡ true → more n ≡ true) → (ns : List Need) → HidesNone more ns → HidesNone fewer ns
hides_less fewer more part [] none = refl
hides_less fewer more part (n ∷ ns) none =
    let parts = or_parts _ _ none in
    ap₂ (λ (a b : Bool). a || b) (false_from_ne_true (fewer n) (λ is. false≢true (sym parts.0 ∙ part n is))) (hides_less fewer more part ns parts.1)

none_step : (b : Bool) (n : Need) (rest : Option Need) → cond b (Some n) rest ≡ None → (b ≡ false) × (rest ≡ None)
none_step true n rest e = cc
none_step false n rest e = (refl, e)

none_found : (f : Need → Bool) (ns : List Need) → find f ns ≡ None → list_any f ns ≡ false
none_found f [] e = refl
none_found f (n ∷ ns) e =
    let parts : (f n ≡ false) × (find f ns ≡ None) = none_step (f n) n (find f ns) e in
    ap₂ (λ (a b : Bool). a || b) parts.0 (none_found f ns parts.1)

-- a program that nothing holds up has no need that is pending
pub free_hides_none : (slots : List Slot) (J : List Entry) (p : ℕ) → first_need (lone_world slots J) p ≡ None
    → HidesNone (is_pending_after slots J p) (needs (own slots J p) (mine_after J p))
unfolding first_need
free_hides_none slots J p none = none_found (is_pending_after slots J p) (needs (own slots J p) (mine_after J p)) none

-- and none that its own transfers make pending
pub apart-mine : (slots : List Slot) (J : List Entry) (p : ℕ) → HidesNone (is_pending_after slots J p) (needs (own slots J p) (mine_after J p))
    → HidesNone (pending_in_flight (flights_of slots J p)) (needs (own slots J p) (mine_after J p))
apart-mine slots J p none = hides_less (pending_in_flight (flights_of slots J p)) (is_pending_after slots J p) (pending-more slots J p)
    (needs (own slots J p) (mine_after J p)) none

pub effect-free : (hidden : Need → Bool) (mine : List ℕ) (s : State) → HidesNone hidden (needs s mine) → HidesNone hidden (effect_needs mine (next_effect s))
effect-free hidden mine s none =
    (or_parts _ _ (sym (list_any-append hidden (fetch_needs s.stock.claims.size (word_at s) s.registers.at) (effect_needs mine (next_effect s))) ∙ none)).1

-- ---- a program's course

-- the transfers of program p in flight are those that the journal tells
pub record IsOnCourse (slots : List Slot) (J : List Entry) (p : ℕ) : Type 0 where
  pub past : (d : ℕ) → IsPast p (ran p J) (pending d J)
  pub mine : (d : ℕ) → is_some (flights_of slots J p d) ≡ is_of p (pending d J)
  pub flying : AreFlying (flights_of slots J p) (own slots J p)
  -- a program that isn't live has none
  pub over : is_live (own slots J p).registers.state ≡ false → (d : ℕ) → flights_of slots J p d ≡ None

-- so they are on the devices that the journal tells
pub mine-same : (slots : List Slot) (J : List Entry) (p : ℕ) → ((d : ℕ) → is_some (flights_of slots J p d) ≡ is_of p (pending d J))
    → mine_after J p ≡ mine_of (flights_of slots J p)
unfolding mine_after
mine-same slots J p mine = ap (λ (test : ℕ → Bool). filter test (range_with_len 0 device_count)) (fun_ext (λ d. sym (mine d)))

past_on : (p m n : ℕ) (o : Option (ℕ × ℕ)) → m ≤ n → IsPast p m o → IsPast p n o
past_on p m n None le past = tt
past_on p m n (Some begun) le past = λ mine. let most : begun.1 ≤ m = past mine in omega arith

past_begun : (b : Bool) (p k n : ℕ) (o : Option (ℕ × ℕ)) → k ≤ n → IsPast p n o → IsPast p n (cond b (begun_at p k) o)
past_begun true p k n o le past = λ mine. le
past_begun false p k n o le past = past

past_none : (b : Bool) (p n : ℕ) (o : Option (ℕ × ℕ)) → IsPast p n o → IsPast p n (cond b None o)
past_none true p n o past = tt
past_none false p n o past = past

past_behind : (p k d n : ℕ) (o : Option (ℕ × ℕ)) (e : Effect) → k ≤ n → IsPast p n o → IsPast p n (pending_behind p k d o e)
past_behind p k d n o (Starting x order first last after) le past = past_begun (eqb x d) p k n o le past
past_behind p k d n o e le past = past

mine_behind : (p k d : ℕ) (flights : ℕ → Option Flight) (s : State) (o : Option (ℕ × ℕ)) (e : Effect) → is_some (flights d) ≡ is_of p o
    → is_some (flights_after flights s e d) ≡ is_of p (pending_behind p k d o e)
mine_behind p k d flights s o (Starting x order first last after) mine =
    ⊎_elim
    (λ (same : d ≡ x).
    ap is_some (with_flight_is d x (Some (beginning order first last s)) flights same)
    ∙ sym (ap (λ (b : Bool). is_of p (cond b (begun_at p k) o)) (eq-eqb x d (sym same)) ∙ eq-eqb p p refl))
    (λ (ne : d ≢ x).
    ap is_some (with_flight_other x d (Some (beginning order first last s)) flights ne)
    ∙ mine
    ∙ sym (ap (λ (b : Bool). is_of p (cond b (begun_at p k) o)) (ne_eqb x d (λ e. ne (sym e)))))
    (cases_eq d x)
mine_behind p k d flights s o e mine = mine

-- an order after which the program isn't live begins no transfer
over_after : (flights : ℕ → Option Flight) (answer : Question → ℕ) (e : Effect) (s : State) → is_live s.registers.state ≡ true
    → is_live (perform answer e s).registers.state ≡ false → flights_after flights s e ≡ flights
over_after flights answer (Failing kind) s live over = refl
over_after flights answer (Ending after) s live over = refl
over_after flights answer e s live over = absurd (false≢true (sym over ∙ live))

-- ---- the program that obeys
module _ (slots : List Slot) (J : List Entry) (p : ℕ) (answer : Question → ℕ) (asked : (own slots J p).stock.asked ≡ length (answers p J))
    (live : is_live (own slots J p).registers.state ≡ true) (course : IsOnCourse slots J p)
    (none : HidesNone (is_pending_after slots J p) (needs (own slots J p) (mine_after J p))) where
  abbrev obeying : JournalStep
  obeying = Obeys p (note_of (own slots J p) answer)

  apart : HidesNone (pending_in_flight (flights_of slots J p)) (needs (own slots J p) (mine_after J p))
  apart = apart-mine slots J p none

  pub flights-then : flights_of slots (added J obeying) p ≡ flights_after (flights_of slots J p) (own slots J p) (next_effect (own slots J p))
  flights-then = flights-obey slots J p answer asked course.past (own-ran slots J p live)

  pub own-then : own slots (added J obeying) p ≡ row (own slots J p) answer
  own-then = own-obeys slots J p answer asked live

  -- does to what is seen what its order does there, where a transfer only begins
  pub seen-then : seen_of slots (added J obeying) p ≡ begun_row (seen_of slots J p) answer
  seen-then = ap₂ seen flights-then own-then ∙ sym (begun_seen (flights_of slots J p) (mine_after J p) (own slots J p) apart answer)

  pending-then : (d : ℕ) → pending d (added J obeying) ≡ pending_behind p ((own slots J p).registers.ran + 1) d (pending d J)
      (next_effect (own slots J p))
  pending-then d = pending-added d J obeying ∙ pending-obeys p d (pending d J) answer (next_effect (own slots J p)) (own slots J p)

  ran-then : ran p (added J obeying) ≡ ran p J + 1
  ran-then = ran-added p J obeying ∙ ap (λ (b : Bool). ran p J + cond b 1 0) (eq-eqb p p refl)

  past-then : (d : ℕ) → IsPast p (ran p (added J obeying)) (pending d (added J obeying))
  past-then d =
      subst (IsPast p (ran p (added J obeying))) (sym (pending-then d))
      (past_behind p ((own slots J p).registers.ran + 1) d (ran p (added J obeying)) (pending d J) (next_effect (own slots J p))
      (omega (arith, ran-then, own-ran slots J p live))
      (past_on p (ran p J) (ran p (added J obeying)) (pending d J) (omega (arith, ran-then)) (course.past d)))

  mine-then : (d : ℕ) → is_some (flights_of slots (added J obeying) p d) ≡ is_of p (pending d (added J obeying))
  mine-then d =
      ap (λ (fs : ℕ → Option Flight). is_some (fs d)) flights-then
      ∙ mine_behind p ((own slots J p).registers.ran + 1) d (flights_of slots J p) (own slots J p) (pending d J) (next_effect (own slots J p))
      (course.mine d)
      ∙ sym (ap (is_of p) (pending-then d))

  none-mine : HidesNone (pending_in_flight (flights_of slots J p)) (needs (own slots J p) (mine_of (flights_of slots J p)))
  none-mine =
      subst (λ (mine : List ℕ). HidesNone (pending_in_flight (flights_of slots J p)) (needs (own slots J p) mine)) (mine-same slots J p course.mine) apart

  over-then : is_live (own slots (added J obeying) p).registers.state ≡ false → (d : ℕ) → flights_of slots (added J obeying) p d ≡ None
  over-then dead d =
      let over : is_live (row (own slots J p) answer).registers.state ≡ false = sym (ap (λ (s : State). is_live s.registers.state) own-then) ∙ dead in
      ap (λ (fs : ℕ → Option Flight). fs d) (flights-then ∙ over_after (flights_of slots J p) answer (next_effect (own slots J p)) (own slots J p) live over)
      ∙ over_row (flights_of slots J p) answer (own slots J p) course.flying none-mine live over d

  -- and stays on its course
  pub course-obeys : IsOnCourse slots (added J obeying) p
  course-obeys = record {
    past = past-then;
    mine = mine-then;
    flying = subst₂ AreFlying (sym flights-then) (sym own-then) (row_flying (flights_of slots J p) (mine_after J p) answer (own slots J p) course.flying apart);
    over = over-then;
  }

-- ---- a program of which another journal tells the same
course-like : (slots : List Slot) (J K : List Entry) (q : ℕ) → ran q K ≡ ran q J → own slots K q ≡ own slots J q
    → ((d : ℕ) → flights_of slots K q d ≡ flights_of slots J q d) → ((d : ℕ) → IsPast q (ran q J) (pending d K))
    → ((d : ℕ) → is_of q (pending d K) ≡ is_of q (pending d J)) → IsOnCourse slots J q → IsOnCourse slots K q
course-like slots J K q count same flights past mine course = record {
  past = λ d. subst (λ (n : ℕ). IsPast q n (pending d K)) (sym count) (past d);
  mine = λ d. ap is_some (flights d) ∙ course.mine d ∙ sym (mine d);
  flying = subst₂ AreFlying (sym (fun_ext flights)) (sym same) course.flying;
  over = λ dead d. flights d ∙ course.over (sym (ap (λ (s : State). is_live s.registers.state) same) ∙ dead) d;
}

-- a step that runs no order of it and touches no transfer
pub flights-quiet : (slots : List Slot) (J : List Entry) (s : JournalStep) (q : ℕ) → (own slots J q).stock.asked ≡ length (answers q J)
    → ((d : ℕ) → pending_by d (pending d J) s ≡ pending d J) → ((d : ℕ) → moved_by d (moved_if d J) s ≡ moved_if d J) → IsOnCourse slots J q → (d : ℕ)
    → flights_of slots (added J s) q d ≡ flights_of slots J q d
flights-quiet slots J s q asked same words course d = flight-stays slots J q asked course.past s d (same d) (words d)

course-quiet : (slots : List Slot) (J : List Entry) (s : JournalStep) (q : ℕ) → (own slots J q).stock.asked ≡ length (answers q J) → ran_by q s ≡ 0
    → answers_by q s ≡ [] → ((d : ℕ) → pending_by d (pending d J) s ≡ pending d J) → ((d : ℕ) → moved_by d (moved_if d J) s ≡ moved_if d J)
    → IsOnCourse slots J q → IsOnCourse slots (added J s) q
course-quiet slots J s q asked none silent same words course =
    let there : (d : ℕ) → pending d (added J s) ≡ pending d J = λ d. pending-added d J s ∙ same d in
    course-like slots J (added J s) q
    (ran-added q J s ∙ omega (arith, none))
    (own-same slots J s q none silent)
    (flights-quiet slots J s q asked same words course)
    (λ d. subst (IsPast q (ran q J)) (sym (there d)) (course.past d))
    (λ d. ap (is_of q) (there d))
    course

-- ---- a program beside the one that obeys
none_of : (o : Option (ℕ × ℕ)) → is_some o ≡ false → o ≡ None
none_of None free_hides_none = refl
none_of (Some begun) free_hides_none = cc

module _ (slots : List Slot) (J : List Entry) (p q : ℕ) (answer : Question → ℕ) (differ : p ≢ q) (asked : (own slots J q).stock.asked ≡ length (answers q J))
    (course : IsOnCourse slots J q) where
  abbrev noting : Effect → JournalStep
  noting e = Obeys p (note_of_outcome (done_by answer e (own slots J p)))

  other : eqb p q ≡ false
  other = ne_eqb p q differ

  abbrev behind : ℕ → Effect → Option (ℕ × ℕ)
  behind d e = pending_behind p ((own slots J p).registers.ran + 1) d (pending d J) e

  pending-beside : (d : ℕ) (e : Effect) → pending d (added J (noting e)) ≡ behind d e
  pending-beside d e = pending-added d J (noting e) ∙ pending-obeys p d (pending d J) answer e (own slots J p)

  -- a transfer of another program is none of this one's
  theirs : (d k : ℕ) (e : Effect) → pending d (added J (noting e)) ≡ begun_at p k → flights_of slots (added J (noting e)) q d ≡ None
  unfolding flights_of
  theirs d k e is =
      ap (flight_of slots (added J (noting e)) q d) is ∙ ap (λ (b : Bool). cond b (flight_from slots (added J (noting e)) q d k) None) other

  pub flights-beside : (mine : List ℕ) (e : Effect) → HidesNone (is_pending_after slots J p) (effect_needs mine e) → (d : ℕ)
      → flights_of slots (added J (noting e)) q d ≡ flights_of slots J q d
  flights-beside mine (Starting x o first last after) none d =
      ⊎_elim
      (λ (same : x ≡ d).
      let k : ℕ = (own slots J p).registers.ran + 1 in
      let free_hides_none : pending d J ≡ None = none_of (pending d J) (ap (λ (y : ℕ). is_some (pending y J)) (sym same) ∙ (or_parts _ _ none).0) in
      theirs d k (Starting x o first last after) (pending-beside d (Starting x o first last after)
      ∙ ap (λ (b : Bool). cond b (begun_at p k) (pending d J)) (eq-eqb x d same))
      ∙ sym (none-there slots J q asked course.past d free_hides_none))
      (λ (ne : x ≢ d).
      flight-stays slots J q asked course.past (noting (Starting x o first last after)) d
      (ap (λ (b : Bool). cond b (begun_at p ((own slots J p).registers.ran + 1)) (pending d J)) (ne_eqb x d ne))
      (ap (λ (b : Bool). cond b (Some 0) (moved_if d J)) (ne_eqb x d ne)))
      (cases_eq x d)
  flights-beside mine (Failing kind) none d = flight-stays slots J q asked course.past (noting (Failing kind)) d refl refl
  flights-beside mine (Asking (FreeOf kind) after) none d = flight-stays slots J q asked course.past (noting (Asking (FreeOf kind) after)) d refl refl
  flights-beside mine (Asking question after) none d = flight-stays slots J q asked course.past (noting (Asking question after)) d refl refl
  flights-beside mine (Returning true x after) none d = flight-stays slots J q asked course.past (noting (Returning true x after)) d refl refl
  flights-beside mine (Returning false x after) none d = flight-stays slots J q asked course.past (noting (Returning false x after)) d refl refl
  flights-beside mine e none d = flight-stays slots J q asked course.past (noting e) d refl refl

  past-beside : (d : ℕ) (e : Effect) → IsPast q (ran q J) (behind d e)
  past-beside d (Starting x o first last after) = at (eqb x d)
    where
      at : (b : Bool) → IsPast q (ran q J) (cond b (begun_at p ((own slots J p).registers.ran + 1)) (pending d J))
      at true = λ mine. absurd (false≢true (sym other ∙ mine))
      at false = course.past d
  past-beside d e = course.past d

  mine-beside : (mine : List ℕ) (e : Effect) → HidesNone (is_pending_after slots J p) (effect_needs mine e) → (d : ℕ)
      → is_of q (behind d e) ≡ is_of q (pending d J)
  mine-beside mine (Starting x o first last after) none d =
      ⊎_elim
      (λ (same : x ≡ d).
      let free_hides_none : pending d J ≡ None = none_of (pending d J) (ap (λ (y : ℕ). is_some (pending y J)) (sym same) ∙ (or_parts _ _ none).0) in
      ap (λ (b : Bool). is_of q (cond b (begun_at p ((own slots J p).registers.ran + 1)) (pending d J))) (eq-eqb x d same)
      ∙ other
      ∙ sym (ap (is_of q) free_hides_none))
      (λ (ne : x ≢ d). ap (λ (b : Bool). is_of q (cond b (begun_at p ((own slots J p).registers.ran + 1)) (pending d J))) (ne_eqb x d ne))
      (cases_eq x d)
  mine-beside mine e none d = refl

  pub own-beside : (e : Effect) → own slots (added J (noting e)) q ≡ own slots J q
  own-beside e =
      own-same slots J (noting e) q (ap (λ (b : Bool). cond b 1 0) other)
      (ap (λ (b : Bool). cond b (answer_in_note (note_of_outcome (done_by answer e (own slots J p)))) []) other)

  pub course-beside : (mine : List ℕ) (e : Effect) → HidesNone (is_pending_after slots J p) (effect_needs mine e) → IsOnCourse slots (added J (noting e)) q
  course-beside mine e none =
      course-like slots J (added J (noting e)) q
      (ran-added q J (noting e) ∙ ap (λ (b : Bool). ran q J + cond b 1 0) other ∙ omega arith)
      (own-beside e)
      (flights-beside mine e none)
      (λ d. subst (IsPast q (ran q J)) (sym (pending-beside d e)) (past-beside d e))
      (λ d. ap (is_of q) (pending-beside d e) ∙ mine-beside mine e none d)
      course

-- ---- words that move, and transfers that end
with_none : (e d : ℕ) (flights : ℕ → Option Flight) → flights d ≡ None → with_flight e None flights d ≡ None
with_none e d flights none =
    ⊎_elim
    (λ (same : d ≡ e). with_flight_is d e None flights same)
    (λ (ne : d ≢ e). with_flight_other e d None flights ne ∙ none)
    (cases_eq d e)

mine_ended : (p e d : ℕ) (flights : ℕ → Option Flight) (o : Option (ℕ × ℕ)) → is_some (flights d) ≡ is_of p o
    → is_some (with_flight e None flights d) ≡ is_of p (cond (eqb e d) None o)
mine_ended p e d flights o mine =
    ⊎_elim
    (λ (same : d ≡ e). ap is_some (with_flight_is d e None flights same) ∙ sym (ap (λ (b : Bool). is_of p (cond b None o)) (eq-eqb e d (sym same))))
    (λ (ne : d ≢ e).
    ap is_some (with_flight_other e d None flights ne) ∙ mine ∙ sym (ap (λ (b : Bool). is_of p (cond b None o)) (ne_eqb e d (λ x. ne (sym x)))))
    (cases_eq d e)

further_some : (e n : ℕ) (f : Option Flight) → is_some (further e n f) ≡ is_some f
further_some e n None = refl
further_some e n (Some f) = refl

mine_moved : (e n d : ℕ) (flights : ℕ → Option Flight) → is_some (with_flight e (further e n (flights e)) flights d) ≡ is_some (flights d)
mine_moved e n d flights =
    ⊎_elim
    (λ (same : d ≡ e). ap is_some (with_flight_is d e (further e n (flights e)) flights same) ∙ further_some e n (flights e)
    ∙ ap (λ (x : ℕ). is_some (flights x)) (sym same))
    (λ (ne : d ≢ e). ap is_some (with_flight_other e d (further e n (flights e)) flights ne))
    (cases_eq d e)

flying_further : (e n : ℕ) (flights : ℕ → Option Flight) (s : State) (f : Option Flight) → flights e ≡ f → AreFlying flights s
    → AreFlying (with_flight e (further e n f) flights) s
flying_further e n flights s None this flying = flying_ended flights s e flying
flying_further e n flights s (Some f) this flying = flying_moved flights s e (min (f.moved + n) (move_count e f)) f this (omega arith) flying

none_further : (e n d : ℕ) (flights : ℕ → Option Flight) → flights e ≡ None → flights d ≡ None → with_flight e (further e n (flights e)) flights d ≡ None
none_further e n d flights this none = ap (λ (f : Option Flight). with_flight e (further e n f) flights d) this ∙ with_none e d flights none

module _ (slots : List Slot) (J : List Entry) (p : ℕ) (asked : (own slots J p).stock.asked ≡ length (answers p J)) (course : IsOnCourse slots J p) where
  pub course-end : (e : ℕ) → IsOnCourse slots (added J (Ends e)) p
  course-end e =
      let same : own slots (added J (Ends e)) p ≡ own slots J p = own-same slots J (Ends e) p refl refl in
      let flights : flights_of slots (added J (Ends e)) p ≡ with_flight e None (flights_of slots J p) = flights-end slots J p asked course.past e in
      let count : ran p (added J (Ends e)) ≡ ran p J = ran-added p J (Ends e) ∙ omega arith in
      record {
        past = λ d. subst₂ (IsPast p) (sym count) (sym (pending-added d J (Ends e))) (past_none (eqb e d) p (ran p J) (pending d J) (course.past d));
        mine = λ d.
            ap (λ (fs : ℕ → Option Flight). is_some (fs d)) flights
            ∙ mine_ended p e d (flights_of slots J p) (pending d J) (course.mine d)
            ∙ sym (ap (is_of p) (pending-added d J (Ends e)));
        flying = subst₂ AreFlying (sym flights) (sym same) (flying_ended (flights_of slots J p) (own slots J p) e course.flying);
        over = λ dead d.
            ap (λ (fs : ℕ → Option Flight). fs d) flights
            ∙ with_none e d (flights_of slots J p) (course.over (sym (ap (λ (s : State). is_live s.registers.state) same) ∙ dead) d);
      }

  pub course-move : (e n : ℕ) → IsOnCourse slots (added J (Moves e n)) p
  course-move e n =
      let same : own slots (added J (Moves e n)) p ≡ own slots J p = own-same slots J (Moves e n) p refl refl in
      let flights : flights_of slots (added J (Moves e n)) p ≡ with_flight e (further e n (flights_of slots J p e)) (flights_of slots J p) =
      flights-move slots J p asked course.past e n in
      let count : ran p (added J (Moves e n)) ≡ ran p J = ran-added p J (Moves e n) ∙ omega arith in
      record {
        past = λ d. subst₂ (IsPast p) (sym count) (sym (pending-added d J (Moves e n))) (course.past d);
        mine = λ d.
            ap (λ (fs : ℕ → Option Flight). is_some (fs d)) flights
            ∙ mine_moved e n d (flights_of slots J p)
            ∙ course.mine d
            ∙ sym (ap (is_of p) (pending-added d J (Moves e n)));
        flying = subst₂ AreFlying (sym flights) (sym same)
            (flying_further e n (flights_of slots J p) (own slots J p) (flights_of slots J p e) refl course.flying);
        over = λ dead d.
            let was : is_live (own slots J p).registers.state ≡ false = sym (ap (λ (s : State). is_live s.registers.state) same) ∙ dead in
            ap (λ (fs : ℕ → Option Flight). fs d) flights ∙ none_further e n d (flights_of slots J p) (course.over was e) (course.over was d);
      }

-- ---- each step
course-turn : (slots : List Slot) (J : List Entry) (p : ℕ) (answer : Question → ℕ) → is_live (own slots J p).registers.state ≡ true
    → HidesNone (is_pending_after slots J p) (needs (own slots J p) (mine_after J p)) → ((q : ℕ) → IsKept slots J q) → ((q : ℕ) → IsOnCourse slots J q)
    → (q : ℕ) → IsOnCourse slots (added J (Obeys p (note_of (own slots J p) answer))) q
course-turn slots J p answer live none kept course q =
    ⊎_elim
    (λ (same : p ≡ q). subst (IsOnCourse slots (added J (Obeys p (note_of (own slots J p) answer)))) same
    (course-obeys slots J p answer (kept p).asked live (course p) none))
    (λ (differ : p ≢ q).
    course-beside slots J p q answer differ (kept q).asked (course q) (mine_after J p) (next_effect (own slots J p))
    (effect-free (is_pending_after slots J p) (mine_after J p) (own slots J p) none))
    (cases_eq p q)

course-added : (slots : List Slot) (J : List Entry) (s : JournalStep) → rules.Meets (lone_dispatched slots J) (any_answer slots J) J s
    → ((q : ℕ) → IsKept slots J q)
    → ((q : ℕ) → IsOnCourse slots J q) → (q : ℕ) → IsOnCourse slots (added J s) q
course-added slots J (Obeys p note) m kept course q =
    let live : is_live (own slots J p).registers.state ≡ true = (kept p).alive ∙ next_on (lone_world slots J) slots J p m.0 in
    rw m.2.1 (course-turn slots J p (λ _. m.2.0) live (free_hides_none slots J p m.1) kept course q)
course-added slots J (Holds p by) m kept course q = course-quiet slots J (Holds p by) q (kept q).asked refl refl (λ d. refl) (λ d. refl) (course q)
course-added slots J Waits m kept course q = course-quiet slots J Waits q (kept q).asked refl refl (λ d. refl) (λ d. refl) (course q)
course-added slots J (Moves d n) m kept course q = course-move slots J q (kept q).asked (course q) d n
course-added slots J (Ends d) m kept course q = course-end slots J q (kept q).asked (course q) d
course-added slots J (Sets t) m kept course q = course-quiet slots J (Sets t) q (kept q).asked refl refl (λ d. refl) (λ d. refl) (course q)
course-added slots J (Swaps p r) m kept course q = course-quiet slots J (Swaps p r) q (kept q).asked refl refl (λ d. refl) (λ d. refl) (course q)

-- before the first step
pub none-first : (slots : List Slot) (p d : ℕ) → flights_of slots [] p d ≡ None
unfolding flights_of
none-first slots p d = refl

course-first : (slots : List Slot) → AreSlots slots → (p : ℕ) → IsOnCourse slots [] p
course-first slots are p = record {
  past = λ d. tt;
  mine = λ d. ap is_some (none-first slots p d);
  flying = nothing_flying (flights_of slots [] p) (own slots [] p) (rw own-nil (start-sized slots p are)) (none-first slots p);
  over = λ dead d. none-first slots p d;
}

course_of : (slots : List Slot) → AreSlots slots → (P : List JournalStep) → EachMeets slots P → (q : ℕ) → IsOnCourse slots (journal_of P) q
course_of slots are [] m q = course-first slots are q
course_of slots are (s ∷ P) m q = course-added slots (journal_of P) s m.1 (kept_of slots P m.0) (course_of slots are P m.0) q

-- each program is on its course by a legal journal
pub legal-course : (slots : List Slot) (J : List Entry) → AreSlots slots → IsLegal slots J → (q : ℕ) → IsOnCourse slots J q
legal-course slots J are l q = rw l.in_form at (course_of slots are (steps J) l.each q)
