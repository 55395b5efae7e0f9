-- A table goes on telling what is pending, whatever step follows.
use Rattle.std.proofs.Common.{◌≡◌, ◌≢◌, ℕ, ◌+◌, ◌/◌, ◌<◌, ◌≤◌, Bool, true, false, cond, ◌&&◌, leb, List, length, get_or, set, Option, Some, None, refl, sym, ap}
use Rattle.std.proofs.Common.{◌∙◌, subst, ⊎_elim, arith, eqb}
use Rattle.std.proofs.Math.ListN.{get_or-eq_default}
use Rattle.std.proofs.lemmas.Bool.{cases_eq, cases_lt, eq-eqb, ne_eqb}
use Rattle.std.proofs.lemmas.List.{get_or-set_same, get_or-set_other, length-set}
use Rattle.kdf_transfer.specs.AtOnce.{has_area}
use Rattle.kdf_transfer.specs.declared.order.TransferOrder.{TransferOrder}
use Rattle.kdf_journal.specs.declared.need.Need.{Need}
use Rattle.kdf_journal.specs.declared.entry.Entry.{Entry}
use Rattle.kdf_journal.specs.Counts.{moved_if, pending}
use Rattle.kdf_journal.specs.Steps.{Note, JournalStep, Obeys, Holds, Moves, Ends, added}
use Rattle.kdf_journal.proofs.Added.{moved_by, pending_by, pending-added}
use Rattle.kdf_processor.specs.Effect.{Question, Effect, Failing, Ending, Changing, Fetching, Keeping, Testing, Starting, Asking, Claiming, Returning, Spooling}
use Rattle.kdf_processor.specs.Needs.{next_effect}
use Rattle.kdf_processor.specs.Row.{done_by, next_of}
use Rattle.kdf_transfer.specs.Slots.{Slot}
use Rattle.kdf_processor.specs.State.{State}
use Rattle.kdf_theory.specs.Flights.{Flight, beginning, flights_after, touches, with_flight}
use Rattle.kdf_theory.specs.Legal.{IsLegal, Meets, note_of_outcome}
use Rattle.kdf_theory.specs.Slots.{AreSlots}
use Rattle.kdf_theory.specs.ByJournal.{flights_of, further, lone_world, own}
use Rattle.kdf_theory.specs.True.{truth}
use Rattle.kdf_theory.proofs.Course.FlightsAdded.{flights-end, flights-move, pending_behind, pending-obeys}
use Rattle.kdf_theory.proofs.Course.LegalFacts.{legal_asked}
use Rattle.kdf_theory.proofs.Course.OrdersObeyed.{obeys-flights, obeys-others}
use Rattle.kdf_theory.proofs.Course.FlightsOnCourse.{flights-quiet, legal-course}
use Rattle.kdf_check.specs.declared.table.Pending.{Pending}
use Rattle.kdf_check.specs.Around.{is_among}
use Rattle.kdf_check.specs.CheckPort.{groups_in, table_after, IsInTable}
use Rattle.kdf_check.specs.Tracks.{Tells, TellsAt}

-- a place tells on where the transfer stays and touches what it touched
keeps-at : (slots : List Slot) (J : List Entry) (s : JournalStep) (x : ℕ) (o : Option Pending) → TellsAt slots J x o
    → pending_by x (pending x J) s ≡ pending x J
    → ((q g : ℕ) → touches (flights_of slots (added J s) q x) g ≡ touches (flights_of slots J q x) g) → TellsAt slots (added J s) x o
keeps-at slots J s x None none stays touch = pending-added x J s ∙ stays ∙ none
keeps-at slots J s x (Some t) tells stays touch = (tells.0, pending-added x J s ∙ stays ∙ tells.1, λ g. touch t.p g ∙ tells.2 g)

-- steps that leave all transfers as they are
pub quiet_keeps : (slots : List Slot) (J : List Entry) (s : JournalStep) (table : List (Option Pending)) → Tells slots J table
    → ((x : ℕ) → pending_by x (pending x J) s ≡ pending x J) → ((q x g : ℕ) → touches (flights_of slots (added J s) q x) g ≡ touches (flights_of slots J q x) g)
    → Tells slots (added J s) table
quiet_keeps slots J s table tells stays touch =
    record { sixteen = tells.sixteen; each = λ x. keeps-at slots J s x (get_or table x None) (tells.each x) (stays x) (λ q g. touch q x g) }

-- the area of a transfer that begins
among : (o : TransferOrder) (first last : ℕ) (s : State) (g : ℕ) → touches (Some (beginning o first last s)) g ≡ is_among (groups_in o first last) g
among o first last s g = go (has_area o)
  where
    go : (b : Bool) → (b && (leb (first / 32) g && leb g (last / 32))) ≡ is_among (cond b (Some (first / 32, last / 32)) None) g
    go true = refl
    go false = refl

module _ (slots : List Slot) (J : List Entry) (p : ℕ) (note : Note) (table : List (Option Pending)) (tells : Tells slots J table) (answer : Question → ℕ)
    (others : (q : ℕ) → p ≢ q → flights_of slots (added J (Obeys p note)) q ≡ flights_of slots J q) where
  abbrev J' : List Entry
  J' = added J (Obeys p note)

  -- where the program's own transfers stay too
  same-touch : flights_of slots J' p ≡ flights_of slots J p → (q x g : ℕ) → touches (flights_of slots J' q x) g ≡ touches (flights_of slots J q x) g
  same-touch own_same q x g =
      ⊎_elim
      (λ (is : q ≡ p). subst (λ r. touches (flights_of slots J' r x) g ≡ touches (flights_of slots J r x) g) (sym is)
      (ap (λ (fs : ℕ → Option Flight). touches (fs x) g) own_same))
      (λ (ne : q ≢ p). ap (λ (fs : ℕ → Option Flight). touches (fs x) g) (others q (λ e. ne (sym e))))
      (cases_eq q p)

  begins : (d : ℕ) (o : TransferOrder) (first last k : ℕ) (s : State) → d < 16
      → ((x : ℕ) → pending_by x (pending x J) (Obeys p note) ≡ cond (eqb d x) (Some (p, k)) (pending x J))
      → flights_of slots J' p ≡ with_flight d (Some (beginning o first last s)) (flights_of slots J p)
      → Tells slots J' (set table d (Some (record { p = p; groups = groups_in o first last })))
  begins d o first last k s number told flights = record {
    sixteen = length-set table d (Some t) ∙ tells.sixteen;
    each = λ x. ⊎_elim
        (λ (is : x ≡ d). subst (λ y. TellsAt slots J' y (get_or (set table d (Some t)) y None)) (sym is)
        (subst (TellsAt slots J' d) (sym (get_or-set_same table d (Some t) None within)) here))
        (λ (ne : x ≢ d). subst (TellsAt slots J' x) (sym (get_or-set_other table d x (Some t) None ne)) (there x ne))
        (cases_eq x d);
  }
    where
      t : Pending
      t = record { p = p; groups = groups_in o first last }

      within : d < length table
      within = (let sixteen = tells.sixteen in omega arith)

      here : TellsAt slots J' d (Some t)
      here = (
        k,
        pending-added d J (Obeys p note) ∙ told d ∙ ap (λ b. cond b (Some (p, k)) (pending d J)) (eq-eqb d d refl),
        λ g. ap (λ (fs : ℕ → Option Flight). touches (fs d) g) flights
            ∙ ap (λ b. touches (cond b (Some (beginning o first last s)) (flights_of slots J p d)) g) (eq-eqb d d refl) ∙ among o first last s g,
      )

      there : (x : ℕ) → x ≢ d → TellsAt slots J' x (get_or table x None)
      there x ne =
          keeps-at slots J (Obeys p note) x (get_or table x None) (tells.each x)
          (told x ∙ ap (λ b. cond b (Some (p, k)) (pending x J)) (ne_eqb d x (λ e. ne (sym e))))
          (λ q g. ⊎_elim
          (λ (is : q ≡ p). subst (λ r. touches (flights_of slots J' r x) g ≡ touches (flights_of slots J r x) g) (sym is)
          (ap (λ (fs : ℕ → Option Flight). touches (fs x) g) flights ∙ ap (λ b. touches (cond b (Some (beginning o first last s)) (flights_of slots J p x)) g)
          (ne_eqb x d ne)))
          (λ (apart : q ≢ p). ap (λ (fs : ℕ → Option Flight). touches (fs x) g) (others q (λ e. apart (sym e))))
          (cases_eq q p))

  told : (s : State) (e : Effect) → note ≡ note_of_outcome (done_by answer e s) → (x : ℕ)
      → pending_by x (pending x J) (Obeys p note) ≡ pending_behind p (s.registers.ran + 1) x (pending x J) e
  told s e is x = ap (λ (n : Note). pending_by x (pending x J) (Obeys p n)) is ∙ pending-obeys p x (pending x J) answer e s

  -- an order of this effect, which comes out with this note
  obeyed : (s : State) (e : Effect) → IsInTable (done_by answer e s).act → note ≡ note_of_outcome (done_by answer e s)
      → flights_of slots J' p ≡ flights_after (flights_of slots J p) s e
      → Tells slots J' (table_after p (done_by answer e s).act table)
  obeyed s (Starting d o first last after) inside is flights =
      begins d o first last (s.registers.ran + 1) s inside (told s (Starting d o first last after) is) flights
  obeyed s (Failing kind) inside is flights = quiet_keeps slots J (Obeys p note) table tells (λ x. told s (Failing kind) is x) (same-touch flights)
  obeyed s (Ending after) inside is flights = quiet_keeps slots J (Obeys p note) table tells (λ x. told s (Ending after) is x) (same-touch flights)
  obeyed s (Changing after) inside is flights = quiet_keeps slots J (Obeys p note) table tells (λ x. told s (Changing after) is x) (same-touch flights)
  obeyed s (Fetching a after) inside is flights = quiet_keeps slots J (Obeys p note) table tells (λ x. told s (Fetching a after) is x) (same-touch flights)
  obeyed s (Keeping a w after) inside is flights = quiet_keeps slots J (Obeys p note) table tells (λ x. told s (Keeping a w after) is x) (same-touch flights)
  obeyed s (Testing d what after) inside is flights = quiet_keeps slots J (Obeys p note) table tells (λ x. told s (Testing d what after) is x)
      (same-touch flights)
  obeyed s (Asking q after) inside is flights = quiet_keeps slots J (Obeys p note) table tells (λ x. told s (Asking q after) is x) (same-touch flights)
  obeyed s (Claiming d after) inside is flights = quiet_keeps slots J (Obeys p note) table tells (λ x. told s (Claiming d after) is x) (same-touch flights)
  obeyed s (Returning pooled d after) inside is flights = quiet_keeps slots J (Obeys p note) table tells (λ x. told s (Returning pooled d after) is x)
      (same-touch flights)
  obeyed s (Spooling stream first last after) inside is flights =
      quiet_keeps slots J (Obeys p note) table tells (λ x. told s (Spooling stream first last after) is x) (same-touch flights)

-- a program obeys
pub obeyed_keeps : (slots : List Slot) (J : List Entry) (p heard : ℕ) (note : Note) (table : List (Option Pending)) → AreSlots slots → IsLegal slots J
    → Tells slots J table
    → Meets (lone_world slots J) slots J heard (Obeys p note) → IsInTable (next_of (own slots J p) (truth (lone_world slots J) J p heard)).act
    → Tells slots (added J (Obeys p note)) (table_after p (next_of (own slots J p) (truth (lone_world slots J) J p heard)).act table)
obeyed_keeps slots J p heard note table are l tells m inside =
    obeyed slots J p note table tells (truth (lone_world slots J) J p heard) (λ q ne. (obeys-others slots J p heard note l m are q ne).1)
    (own slots J p) (next_effect (own slots J p)) inside m.2 (obeys-flights slots J p heard note l m are)

-- words that are called for change no area
pub touches-further : (d n : ℕ) (o : Option Flight) (g : ℕ) → touches (further d n o) g ≡ touches o g
touches-further d n None g = refl
touches-further d n (Some f) g = refl

pub moved_keeps : (slots : List Slot) (J : List Entry) (d n : ℕ) (table : List (Option Pending)) → AreSlots slots → IsLegal slots J → Tells slots J table
    → Tells slots (added J (Moves d n)) table
moved_keeps slots J d n table are l tells = quiet_keeps slots J (Moves d n) table tells (λ x. refl) touch
  where
    flights : (q : ℕ) → flights_of slots (added J (Moves d n)) q ≡ with_flight d (further d n (flights_of slots J q d)) (flights_of slots J q)
    flights q = flights-move slots J q (legal_asked slots J l q) (legal-course slots J are l q).past d n

    touch : (q x g : ℕ) → touches (flights_of slots (added J (Moves d n)) q x) g ≡ touches (flights_of slots J q x) g
    touch q x g =
        ap (λ (fs : ℕ → Option Flight). touches (fs x) g) (flights q)
        ∙ ⊎_elim
        (λ (is : x ≡ d). ap (λ b. touches (cond b (further d n (flights_of slots J q d)) (flights_of slots J q x)) g) (eq-eqb x d is)
        ∙ touches-further d n (flights_of slots J q d) g ∙ ap (λ y. touches (flights_of slots J q y) g) (sym is))
        (λ (ne : x ≢ d). ap (λ b. touches (cond b (further d n (flights_of slots J q d)) (flights_of slots J q x)) g) (ne_eqb x d ne))
        (cases_eq x d)

pub ended_keeps : (slots : List Slot) (J : List Entry) (d : ℕ) (table : List (Option Pending)) → AreSlots slots → IsLegal slots J → Tells slots J table
    → Tells slots (added J (Ends d)) (set table d None)
ended_keeps slots J d table are l tells = record {
  sixteen = length-set table d None ∙ tells.sixteen;
  each = λ x. ⊎_elim
      (λ (is : x ≡ d). subst (λ y. TellsAt slots (added J (Ends d)) y (get_or (set table d None) y None)) (sym is)
      (subst (TellsAt slots (added J (Ends d)) d) (sym (ended d)) (pending-added d J (Ends d) ∙ ap (λ b. cond b None (pending d J)) (eq-eqb d d refl))))
      (λ (ne : x ≢ d). subst (TellsAt slots (added J (Ends d)) x) (sym (get_or-set_other table d x None None ne))
      (keeps-at slots J (Ends d) x (get_or table x None) (tells.each x) (ap (λ b. cond b None (pending x J)) (ne_eqb d x (λ e. ne (sym e))))
      (λ q g. ap (λ (fs : ℕ → Option Flight). touches (fs x) g) (flights q) ∙ ap (λ b. touches (cond b None (flights_of slots J q x)) g) (ne_eqb x d ne))))
      (cases_eq x d);
}
  where
    flights : (q : ℕ) → flights_of slots (added J (Ends d)) q ≡ with_flight d None (flights_of slots J q)
    flights q = flights-end slots J q (legal_asked slots J l q) (legal-course slots J are l q).past d

    ended : (x : ℕ) → get_or (set table x None) x None ≡ None
    ended x =
        ⊎_elim
        (λ (lt : x < length table). get_or-set_same table x None None lt)
        (λ (le : length table ≤ x).
        let count : length (set table x None) ≡ length table = length-set table x None in
        get_or-eq_default (set table x None) None (omega arith))
        (cases_lt x (length table))

-- a step that neither begins, moves nor ends a transfer
pub still_keeps : (slots : List Slot) (J : List Entry) (s : JournalStep) (table : List (Option Pending)) → AreSlots slots → IsLegal slots J
    → Tells slots J table
    → ((x : ℕ) → pending_by x (pending x J) s ≡ pending x J) → ((x : ℕ) → moved_by x (moved_if x J) s ≡ moved_if x J) → Tells slots (added J s) table
still_keeps slots J s table are l tells stays moves =
    quiet_keeps slots J s table tells stays
    (λ q x g. ap (λ (f : Option Flight). touches f g) (flights-quiet slots J s q (legal_asked slots J l q) stays moves (legal-course slots J are l q) x))

pub held_keeps : (slots : List Slot) (J : List Entry) (p : ℕ) (by : Need) (table : List (Option Pending)) → AreSlots slots → IsLegal slots J
    → Tells slots J table → Tells slots (added J (Holds p by)) table
held_keeps slots J p by table are l tells = still_keeps slots J (Holds p by) table are l tells (λ x. refl) (λ x. refl)
