-- A program that obeyed an order of which nothing is noted is next still.
use Rattle.std.specs.Prelude.{find}
use Rattle.std.specs.List.{range_with_len}
use Rattle.std.proofs.Common.{◌≡◌, ◌≢◌, ℕ, Bool, true, false, ◌&&◌, not, List, [], ◌∷◌, Option, Some, None, is_some, cond, refl, sym, ap, ap₂, ◌∙◌, ⊎_elim}
use Rattle.std.proofs.Math.Path.{fun_ext}
use Rattle.std.proofs.lemmas.Bool.{cases_eq, eq-eqb, ne_eqb}
use Rattle.kdf_journal.specs.declared.entry.Entry.{Entry}
use Rattle.kdf_journal.specs.declared.kind.Kind.{Kind}
use Rattle.kdf_journal.specs.Counts.{last_hold, priorities}
use Rattle.kdf_journal.specs.Steps.{Quiet, Obeys, added}
use Rattle.kdf_journal.proofs.Added.{holder-quiet, last_hold-added, over-added, pending-added, priorities-added}
use Rattle.kdf_journal.specs.declared.need.Need.{Need}
use Rattle.kdf_journal.specs.declared.need.Need.TheVariants.{Group, Device, Pool}
use Rattle.kdf_processor.specs.State.{State, pool_kind_at}
use Rattle.kdf_transfer.specs.ByNumber.{device_count}
use Rattle.kdf_transfer.specs.Devices.{is_kind}
use Rattle.kdf_transfer.specs.Slots.{Slot}
use Rattle.kdf_course.specs.World as course
use Rattle.kdf_course.specs.World.{can_go, lives, stands}
use Rattle.kdf_theory.specs.Legal.{IsLegal}
use Rattle.kdf_theory.specs.Next.{dispatched, next}
use Rattle.kdf_theory.specs.Seen.{touched_below}
use Rattle.kdf_theory.specs.Slots.{AreSlots, slot_of, start}
use Rattle.kdf_theory.specs.ByJournal.{free_after, is_pending_after, world_after}
use Rattle.kdf_theory.specs.World.{World}
use Rattle.kdf_theory.proofs.Course.LegalFacts.{legal_asked}
use Rattle.kdf_theory.proofs.Course.FlightsOnCourse.{flights-quiet, legal-course}
use Rattle.kdf_theory.proofs.Course.Worlds.{next_on, next_slot}

-- what is found first is found still, where it passes still and all others do as they did
first_by : (f g : ℕ → Bool) (p : ℕ) → ((q : ℕ) → p ≢ q → g q ≡ f q) → g p ≡ true → (q : ℕ) (ks : List ℕ) (b : Bool) → f q ≡ b
    → (find f ks ≡ Some p → find g ks ≡ Some p) → cond b (Some q) (find f ks) ≡ Some p → find g (q ∷ ks) ≡ Some p
first_by f g p others this q ks true is rest found =
    let same : q ≡ p = cc in
    ap (λ b. cond b (Some q) (find g ks)) (ap g same ∙ this) ∙ ap Some same
first_by f g p others this q ks false is rest found =
    ⊎_elim
    (λ (same : p ≡ q). ap (λ b. cond b (Some q) (find g ks)) (ap g (sym same) ∙ this) ∙ ap Some (sym same))
    (λ (ne : p ≢ q). ap (λ b. cond b (Some q) (find g ks)) (others q ne ∙ is) ∙ rest found)
    (cases_eq p q)

first_still : (f g : ℕ → Bool) (p : ℕ) → ((q : ℕ) → p ≢ q → g q ≡ f q) → g p ≡ true → (ks : List ℕ) → find f ks ≡ Some p → find g ks ≡ Some p
first_still f g p others this [] found = cc
first_still f g p others this (q ∷ ks) found = first_by f g p others this q ks (f q) refl (first_still f g p others this ks) found

module _ (slots : List Slot) (J : List Entry) (p : ℕ) (are : AreSlots slots) (legal : IsLegal slots J) where
  abbrev K : List Entry
  K = added J (Obeys p Quiet)

  same_free : (q : ℕ) (kind : Kind) → free_after slots K q kind ≡ free_after slots J q kind
  unfolding free_after
  same_free q kind =
      ap (λ (f : ℕ → Bool). find f (range_with_len 0 device_count))
      (fun_ext (λ (d : ℕ). ap (λ (h : Option ℕ). is_kind kind (pool_kind_at (start slots q).stock.claims d) && not (is_some h))
      (holder-quiet d J (Obeys p Quiet) refl (λ r. refl))))

  -- what was pending is, and no more
  same_pending : (q : ℕ) (need : Need) → is_pending_after slots K q need ≡ is_pending_after slots J q need
  same_pending q (Group g) =
      ap (λ f. touched_below device_count f g)
      (fun_ext (flights-quiet slots J (Obeys p Quiet) q (legal_asked slots J legal q) (λ d. refl) (λ d. refl) (legal-course slots J are legal q)))
  same_pending q (Device d) = ap is_some (pending-added d J (Obeys p Quiet))
  same_pending q (Pool kind) = ap (λ o. not (is_some o)) (same_free q kind)

  module _ (states others : ℕ → State) where
    abbrev w : World
    w = world_after slots J states

    abbrev v : World
    v = world_after slots K others

    same_stands : (q : ℕ) (o : Option Need) → stands (dispatched slots v) q o ≡ stands (dispatched slots w) q o
    same_stands q None = refl
    same_stands q (Some by) = same_pending q by

    same_go : (q : ℕ) → p ≢ q → can_go (dispatched slots v) K q ≡ can_go (dispatched slots w) J q
    unfolding can_go lives
    same_go q ne =
        ap₂ (λ (b c : Bool). (is_some (slot_of slots q) && not b) && not c)
        (over-added q J (Obeys p Quiet))
        (ap (stands (dispatched slots v) q) (last_hold-added q J (Obeys p Quiet) ∙ ap (λ b. cond b None (last_hold q J)) (ne_eqb p q ne))
        ∙ same_stands q (last_hold q J))

    goes_on : next w slots J ≡ Some p → can_go (dispatched slots v) K p ≡ true
    unfolding can_go lives
    goes_on turn =
        ap₂ (λ (b c : Bool). b && not c)
        (ap₂ (λ (b c : Bool). b && c) (next_slot w slots J p turn) (ap not (over-added p J (Obeys p Quiet)) ∙ next_on w slots J p turn))
        (ap (stands (dispatched slots v) p) (last_hold-added p J (Obeys p Quiet) ∙ ap (λ b. cond b None (last_hold p J)) (eq-eqb p p refl)))

    pub still_next : next w slots J ≡ Some p → next v slots K ≡ Some p
    unfolding course.next
    still_next turn =
        ap (find (can_go (dispatched slots v) K)) (priorities-added J (Obeys p Quiet))
        ∙ first_still (can_go (dispatched slots w) J) (can_go (dispatched slots v) K) p same_go (goes_on turn) (priorities J) turn
