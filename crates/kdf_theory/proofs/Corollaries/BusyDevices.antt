-- A device of the pool that has a transfer has a holder: the program that began the transfer.
use Rattle.std.proofs.Common.{◌≡◌, ℕ, true, false, cond, not, List, Option, Some, None, is_some, refl, sym, ap, ◌∙◌, ⊎_elim}
use Rattle.std.proofs.lemmas.Bool.{cases_Bool, eq-eqb, eqb-true, false≢true}
use Rattle.kdf_journal.specs.declared.entry.Entry.{Entry}
use Rattle.kdf_journal.specs.Counts.{holder, over, pending, taker, unless_over}
use Rattle.kdf_transfer.specs.AtOnce.{kind_of}
use Rattle.kdf_transfer.specs.Slots.{Slot}
use Rattle.kdf_processor.specs.State.{State, is_pooled}
use Rattle.kdf_processor.proofs.Lending.{mark_of}
use Rattle.kdf_theory.specs.ByJournal.{flights_of, is_of, own}
use Rattle.kdf_theory.specs.Flights.{Flight}
use Rattle.kdf_theory.specs.Flying.{IfFlight}
use Rattle.kdf_theory.specs.Holders.{has_mark, is_taker}
use Rattle.kdf_theory.specs.Legal.{IsLegal, IsTrue}
use Rattle.kdf_theory.specs.Slots.{AreSlots}
use Rattle.kdf_theory.proofs.Course.DevicesHeld.{legal_held}
use Rattle.kdf_theory.proofs.Course.FlightsOnCourse.{legal-course}
use Rattle.kdf_theory.proofs.Course.LegalFacts.{legal_alive}

-- a transfer in flight is on a device that has the mark
flying_mark : (s : State) (d : ℕ) (o : Option Flight) → IfFlight s d o → is_some o ≡ true → has_mark s d ≡ true
flying_mark s d None flies is = cc
flying_mark s d (Some f) flies is = mark_of s.stock.claims d (kind_of f.order) flies.claimed

taker_is : (p : ℕ) (o : Option ℕ) → is_taker p o ≡ true → o ≡ Some p
taker_is p None is = cc
taker_is p (Some q) is = ap Some (eqb-true q p is)

pub busy_held : (slots : List Slot) (J : List Entry) → AreSlots slots → IsLegal slots J → IsTrue slots J → (p d k : ℕ)
    → is_pooled (own slots J p).stock.claims d ≡ true → pending d J ≡ Some (p, k) → holder d J ≡ Some p
busy_held slots J are l truly p d k pooled busy =
    ap (unless_over J) takes ∙ ap (λ b. cond b None (Some p)) live
  where
    some : is_some (flights_of slots J p d) ≡ true
    some = (legal-course slots J are l p).mine d ∙ ap (is_of p) busy ∙ eq-eqb p p refl

    live : over p J ≡ false
    live =
        ⊎_elim
        (λ (dead : over p J ≡ true).
        let none : flights_of slots J p d ≡ None = (legal-course slots J are l p).over (legal_alive slots J l p ∙ ap not dead) d in
        absurd (false≢true (sym (ap is_some none) ∙ some)))
        (λ (on : over p J ≡ false). on)
        (cases_Bool (over p J))

    takes : taker d J ≡ Some p
    takes =
        taker_is p (taker d J)
        (sym (legal_held slots J are l truly p d pooled (ap not live))
        ∙ flying_mark (own slots J p) d (flights_of slots J p d) ((legal-course slots J are l p).flying.each d) some)
