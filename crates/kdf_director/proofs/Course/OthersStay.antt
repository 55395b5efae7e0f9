-- Programs that an event leaves as they were.
use Rattle.std.proofs.Common.{◌≡◌, ◌≢◌, ℕ, List, [], ◌∷◌, map, cond, Option, Some, None, is_some, false, refl, sym, ap, ap₂, ◌∙◌, ⊎_elim}
use Rattle.std.proofs.Math.Path.{fun_ext}
use Rattle.std.proofs.lemmas.Bool.{cases_eq, eq-eqb, ne_eqb}
use Rattle.kdf_journal.specs.Counts.{moved_if, pending}
use Rattle.kdf_journal.specs.Steps.{JournalStep, Moves, Ends, Sets, Swaps, added}
use Rattle.kdf_journal.proofs.Added.{answers_by, moved_by, pending_by, ran_by}
use Rattle.kdf_transfer.specs.Slots.{Slot}
use Rattle.kdf_processor.specs.State.{State}
use Rattle.kdf_director.specs.Advance.{OthersStay}
use Rattle.kdf_theory.specs.Flights.{Flight}
use Rattle.kdf_theory.specs.Legal.{IsLegal}
use Rattle.kdf_theory.specs.Seen.{seen}
use Rattle.kdf_theory.specs.MachineView.{MachineView, ShowsSeen, entered, state_in, state_of}
use Rattle.kdf_theory.specs.Slots.{AreSlots}
use Rattle.kdf_theory.specs.ByJournal.{flights_of, is_of, seen_of}
use Rattle.kdf_theory.proofs.Course.LegalFacts.{legal_asked}
use Rattle.kdf_theory.proofs.Course.FlightsOnCourse.{flights-quiet, legal-course}
use Rattle.kdf_theory.proofs.Course.OwnSteps.{own-same}
use Rattle.kdf_theory.proofs.Course.SeenJournals.{end-none, move-none}

-- where all that is told of program p is the same, so is its state
same_in : (g h : ℕ → State) (p : ℕ) → g p ≡ h p → (slots : List Slot) → state_in slots (map (λ (x : Slot). g x.p) slots) p ≡ state_in slots
    (map (λ (x : Slot). h x.p) slots) p
same_in g h p is [] = refl
same_in g h p is (x ∷ slots) =
    ⊎_elim
    (λ (same : x.p ≡ p).
    ap (λ b. cond b (Some (g x.p)) (state_in slots (map (λ (y : Slot). g y.p) slots) p)) (eq-eqb x.p p same)
    ∙ ap Some (ap g same ∙ is ∙ sym (ap h same))
    ∙ sym (ap (λ b. cond b (Some (h x.p)) (state_in slots (map (λ (y : Slot). h y.p) slots) p)) (eq-eqb x.p p same)))
    (λ (ne : x.p ≢ p).
    ap (λ b. cond b (Some (g x.p)) (state_in slots (map (λ (y : Slot). g y.p) slots) p)) (ne_eqb x.p p ne)
    ∙ same_in g h p is slots
    ∙ sym (ap (λ b. cond b (Some (h x.p)) (state_in slots (map (λ (y : Slot). h y.p) slots) p)) (ne_eqb x.p p ne)))
    (cases_eq x.p p)

none_of : (o : Option Flight) → is_some o ≡ false → o ≡ None
none_of None is = refl
none_of (Some f) is = cc

module _ (old new : MachineView) (are : AreSlots old.slots) (l : IsLegal old.slots old.journal) (shows : ShowsSeen old) where
  stays : (st : JournalStep) (p : ℕ) → new ≡ entered old st → seen_of old.slots (added old.journal st) p ≡ seen_of old.slots old.journal p
      → state_of new p ≡ state_of old p
  stays st p e same =
      ap (λ (m : MachineView). state_of m p) e
      ∙ same_in (seen_of old.slots (added old.journal st)) (seen_of old.slots old.journal) p same old.slots
      ∙ sym (ap (λ (xs : List State). state_in old.slots xs p) shows)

  none_there : (p d : ℕ) → is_of p (pending d old.journal) ≡ false → flights_of old.slots old.journal p d ≡ None
  none_there p d none = none_of (flights_of old.slots old.journal p d) ((legal-course old.slots old.journal are l p).mine d ∙ none)

  pub stay-moved : (d n : ℕ) → new ≡ entered old (Moves d n) → OthersStay old new d
  stay-moved d n e = λ p none.
      stays (Moves d n) p e
      (ap₂ seen
      (move-none old.slots old.journal p (legal_asked old.slots old.journal l p) (legal-course old.slots old.journal are l p) d n (none_there p d none))
      (own-same old.slots old.journal (Moves d n) p refl refl))

  pub stay-ended : (d : ℕ) → new ≡ entered old (Ends d) → OthersStay old new d
  stay-ended d e = λ p none.
      stays (Ends d) p e
      (ap₂ seen
      (end-none old.slots old.journal p (legal_asked old.slots old.journal l p) (legal-course old.slots old.journal are l p) d (none_there p d none))
      (own-same old.slots old.journal (Ends d) p refl refl))

  -- an event that runs no program and touches no transfer
  quiet : (st : JournalStep) → ((p : ℕ) → ran_by p st ≡ 0) → ((p : ℕ) → answers_by p st ≡ [])
      → ((d : ℕ) → pending_by d (pending d old.journal) st ≡ pending d old.journal)
      → ((d : ℕ) → moved_by d (moved_if d old.journal) st ≡ moved_if d old.journal) → new ≡ entered old st → new.states ≡ old.states
  quiet st none silent same words e =
      ap (λ (m : MachineView). m.states) e
      ∙ ap (λ (f : ℕ → State). map (λ (x : Slot). f x.p) old.slots)
      (fun_ext
      (λ p. ap₂ seen
      (fun_ext (flights-quiet old.slots old.journal st p (legal_asked old.slots old.journal l p) same words (legal-course old.slots old.journal are l p)))
      (own-same old.slots old.journal st p (none p) (silent p))))
      ∙ sym shows

  pub stay-timed : (t : ℕ) → new ≡ entered old (Sets t) → new.states ≡ old.states
  stay-timed t = quiet (Sets t) (λ _. refl) (λ _. refl) (λ d. refl) (λ d. refl)

  pub stay-exchanged : (p q : ℕ) → new ≡ entered old (Swaps p q) → new.states ≡ old.states
  stay-exchanged p q = quiet (Swaps p q) (λ _. refl) (λ _. refl) (λ d. refl) (λ d. refl)
