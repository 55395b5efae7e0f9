-- What a legal journal makes of each program with an order more.
use Rattle.std.proofs.Common.{◌≡◌, ◌≢◌, ℕ, List, None, true, ◌∙◌}
use Rattle.std.proofs.Math.Path.{fun_ext}
use Rattle.kdf_processor.specs.Effect.{Question}
use Rattle.kdf_processor.specs.Lone.{is_live}
use Rattle.kdf_processor.specs.Needs.{next_effect}
use Rattle.kdf_processor.specs.Row.{row}
use Rattle.kdf_transfer.specs.Slots.{Slot}
use Rattle.kdf_journal.specs.declared.entry.Entry.{Entry}
use Rattle.kdf_journal.specs.Steps.{Note, Obeys, added}
use Rattle.kdf_theory.specs.Flights.{flights_after}
use Rattle.kdf_theory.specs.Legal.{Meets, IsLegal}
use Rattle.kdf_theory.specs.Seen.{begun_row}
use Rattle.kdf_theory.specs.Slots.{AreSlots}
use Rattle.kdf_theory.specs.ByJournal.{own, flights_of, is_pending_after, lone_world, mine_after, seen_of}
use Rattle.kdf_theory.specs.True.{truth}
use Rattle.kdf_theory.specs.World.{first_need}
use Rattle.kdf_theory.proofs.Course.LegalFacts.{legal_alive, legal_asked}
use Rattle.kdf_theory.proofs.Course.FlightsOnCourse.{effect-free, flights-beside, flights-then, free_hides_none, legal-course, own-beside, seen-then}
use Rattle.kdf_theory.proofs.Course.OwnSteps.{own-obeys}
use Rattle.kdf_theory.proofs.Course.Worlds.{next_on}

module _ (slots : List Slot) (J : List Entry) (p : ℕ) (heard : ℕ) (note : Note) (l : IsLegal slots J)
    (m : Meets (lone_world slots J) slots J heard (Obeys p note)) where
  abbrev answer : Question → ℕ
  answer = truth (lone_world slots J) J p heard

  none_holds : first_need (lone_world slots J) p ≡ None
  none_holds = m.1

  live : is_live (own slots J p).registers.state ≡ true
  live = legal_alive slots J l p ∙ next_on (lone_world slots J) slots J p m.0

  pub obeys-own : own slots (added J (Obeys p note)) p ≡ row (own slots J p) answer
  obeys-own = rw m.2 (own-obeys slots J p answer (legal_asked slots J l p) live)

  pub obeys-flights : AreSlots slots → flights_of slots (added J (Obeys p note)) p ≡ flights_after (flights_of slots J p) (own slots J p)
      (next_effect (own slots J p))
  obeys-flights are =
      rw m.2 (flights-then slots J p answer (legal_asked slots J l p) live (legal-course slots J are l p) (free_hides_none slots J p none_holds))

  pub obeys-seen : AreSlots slots → seen_of slots (added J (Obeys p note)) p ≡ begun_row (seen_of slots J p) answer
  obeys-seen are =
      rw m.2 (seen-then slots J p answer (legal_asked slots J l p) live (legal-course slots J are l p) (free_hides_none slots J p none_holds))

  pub obeys-others : AreSlots slots → (q : ℕ) → p ≢ q → (own slots (added J (Obeys p note)) q ≡ own slots J q)
      × (flights_of slots (added J (Obeys p note)) q ≡ flights_of slots J q)
  obeys-others are q differ =
      let none = effect-free (is_pending_after slots J p) (mine_after J p) (own slots J p) (free_hides_none slots J p none_holds) in
      rw m.2 (
        own-beside slots J p q answer differ (legal_asked slots J l q) (legal-course slots J are l q) (next_effect (own slots J p)),
        fun_ext (flights-beside slots J p q answer differ (legal_asked slots J l q) (legal-course slots J are l q) (mine_after J p)
            (next_effect (own slots J p)) none),
      )
