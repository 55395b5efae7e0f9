-- The programs that are loaded keep to the empty journal.
use Rattle.std.proofs.Common.{◌≡◌, ◌≢◌, ℕ, zero, suc, ◌+◌, ◌-◌, ◌<◌, ◌≤◌, List, [], ◌∷◌, length, drop, drop-cons, add-one, get_or, set, Option, Some, None}
use Rattle.std.proofs.Common.{is_some, cond, refl, sym, ap, ap₂, ◌∙◌, subst, ⊎_elim, arith}
use Rattle.std.proofs.lemmas.Bool.{cases_eq, eq-eqb, ne_eqb}
use Rattle.std.proofs.lemmas.List.{get_or-set_same, get_or-set_other}
use Rattle.kdf_transfer.specs.Slots.{Slot}
use Rattle.kdf_job.specs.Job.{ShownSlot}
use Rattle.kdf_theory.specs.Loading.{HaveImages, load_of, loaded_slot, slots_of}
use Rattle.kdf_theory.specs.Slots.{slot_of, start_of}
use Rattle.kdf_theory.proofs.Course.OwnSteps.{own-nil}
use Rattle.kdf_check.specs.declared.program.Program.{Program}
use Rattle.kdf_check.specs.Begun.{IsBegun}
use Rattle.kdf_check.specs.Keeps.{place_at, IsKeptAt}

-- no program has a place at first
pub none_placed : (p : ℕ) → place_at (None ∷ None ∷ None ∷ None ∷ []) p ≡ None
none_placed zero = refl
none_placed (suc zero) = refl
none_placed (suc (suc zero)) = refl
none_placed (suc (suc (suc zero))) = refl
none_placed (suc (suc (suc (suc p)))) = refl

pub none_kept : (p : ℕ) → IsKeptAt [] [] p (place_at (None ∷ None ∷ None ∷ None ∷ []) p)
none_kept p = subst (IsKeptAt [] [] p) (sym (none_placed p)) refl

-- a slot more before the others
module _ (s : Slot) (rest : List Slot) (programs : List (Option Program)) (x : Program) (b : IsBegun s x) (lt : s.p < length programs)
    (each : (p : ℕ) → IsKeptAt rest [] p (place_at programs p)) where
  found : slot_of (s ∷ rest) s.p ≡ Some s
  found = ap (λ t. cond t (Some s) (slot_of rest s.p)) (eq-eqb s.p s.p refl)

  here : IsKeptAt (s ∷ rest) [] s.p (Some x)
  here = record {
    there = ap is_some found;
    number = b.number;
    own_is = b.begun ∙ ap start_of (sym found) ∙ sym (own-nil (s ∷ rest) s.p);
    hold_is = b.free;
  }

  other : (p : ℕ) → s.p ≢ p → (o : Option Program) → IsKeptAt rest [] p o → IsKeptAt (s ∷ rest) [] p o
  other p ne None none = ap (λ t. is_some (cond t (Some s) (slot_of rest p))) (ne_eqb s.p p ne) ∙ none
  other p ne (Some y) f =
      let same : slot_of (s ∷ rest) p ≡ slot_of rest p = ap (λ t. cond t (Some s) (slot_of rest p)) (ne_eqb s.p p ne) in
      record {
        there = ap is_some same ∙ f.there;
        number = f.number;
        own_is = f.own_is ∙ own-nil rest p ∙ ap start_of (sym same) ∙ sym (own-nil (s ∷ rest) p);
        hold_is = f.hold_is;
      }

  pub before_others : (p : ℕ) → IsKeptAt (s ∷ rest) [] p (place_at (set programs s.p (Some x)) p)
  before_others p =
      ⊎_elim
      (λ (is : p ≡ s.p). subst (λ (q : ℕ). IsKeptAt (s ∷ rest) [] q (place_at (set programs s.p (Some x)) q)) (sym is)
      (subst (IsKeptAt (s ∷ rest) [] s.p) (sym (get_or-set_same programs s.p (Some x) None lt)) here))
      (λ (ne : p ≢ s.p). subst (IsKeptAt (s ∷ rest) [] p) (sym (get_or-set_other programs s.p p (Some x) None ne))
      (other p (λ e. ne (sym e)) (place_at programs p) (each p)))
      (cases_eq p s.p)

-- the slots from one on
pub slots-from : (i : ℕ) (jobs : List ShownSlot) (images : List (List ℕ)) (d : ShownSlot) (e : List ℕ) → i < length jobs → i < length images
    → slots_of (drop i jobs) (drop i images) ≡ loaded_slot (load_of (get_or jobs i d) (get_or images i e)) ∷ slots_of (drop (i + 1) jobs) (drop (i + 1) images)
slots-from i jobs images d e lt lt' = rw (drop-cons jobs i d lt, drop-cons images i e lt', add-one) refl

-- ---- the slots of a job, the last one first

pub same_count : (jobs : List ShownSlot) (images : List (List ℕ)) → HaveImages jobs images → length jobs ≡ length images
same_count [] [] have = refl
same_count [] (words ∷ images) have = absurd have
same_count (s ∷ jobs) [] have = absurd have
same_count (s ∷ jobs) (words ∷ images) have = ap (λ n. suc n) (same_count jobs images have.1)

pub fits_at : (jobs : List ShownSlot) (images : List (List ℕ)) (i : ℕ) (j : ShownSlot) (w : List ℕ) → HaveImages jobs images → i < length jobs
    → length (get_or images i w) ≤ (get_or jobs i j).size
fits_at [] images i j w have lt = absurd (omega arith)
fits_at (s ∷ jobs) [] i j w have lt = absurd have
fits_at (s ∷ jobs) (words ∷ images) zero j w have lt = have.0
fits_at (s ∷ jobs) (words ∷ images) (suc i) j w have lt = fits_at jobs images i j w have.1 (omega arith)

module _ (jobs : List ShownSlot) (images : List (List ℕ)) (same : length jobs ≡ length images) where
  -- one more
  pub loaded-more : (i : ℕ) (programs : List (Option Program)) (j : ShownSlot) (w : List ℕ) (x : Program) → 0 < i → i ≤ length jobs → j ≡ get_or jobs (i - 1) j
      → w ≡ get_or images (i - 1) w
      → ((p : ℕ) → IsKeptAt (slots_of (drop i jobs) (drop i images)) [] p (place_at programs p)) → IsBegun (loaded_slot (load_of j w)) x → j.p < length programs
      → (p : ℕ) → IsKeptAt (slots_of (drop (i - 1) jobs) (drop (i - 1) images)) [] p (place_at (set programs j.p (Some x)) p)
  loaded-more i programs j w x some le at at' each begun lt =
      subst (λ (ss : List Slot). (p : ℕ) → IsKeptAt ss [] p (place_at (set programs j.p (Some x)) p)) (sym (front ∙ head))
      (before_others (loaded_slot (load_of j w)) (slots_of (drop (i - 1 + 1) jobs) (drop (i - 1 + 1) images)) programs x begun lt
      (subst (λ (n : ℕ). (p : ℕ) → IsKeptAt (slots_of (drop n jobs) (drop n images)) [] p (place_at programs p)) (omega arith) each))
    where
      front : slots_of (drop (i - 1) jobs) (drop (i - 1) images) ≡ loaded_slot (load_of (get_or jobs (i - 1) j) (get_or images (i - 1) w)) ∷ slots_of
          (drop (i - 1 + 1) jobs) (drop (i - 1 + 1) images)
      front = slots-from (i - 1) jobs images j w (omega arith) (omega (arith, same))

      head : loaded_slot (load_of (get_or jobs (i - 1) j) (get_or images (i - 1) w)) ∷ slots_of (drop (i - 1 + 1) jobs) (drop (i - 1 + 1) images) ≡ loaded_slot
          (load_of j w) ∷ slots_of (drop (i - 1 + 1) jobs) (drop (i - 1 + 1) images)
      head = ap₂ (λ (k : ShownSlot) (v : List ℕ). loaded_slot (load_of k v) ∷ slots_of (drop (i - 1 + 1) jobs) (drop (i - 1 + 1) images)) (sym at) (sym at')
