-- A slot that is found by its number, with the image of its deck.
use Rattle.std.proofs.Common.{◌≡◌, ℕ, zero, suc, ◌+◌, ◌<◌, ◌≤◌, cond, List, [], ◌∷◌, length, map, drop, get_or, Some, sym, subst, ◌∙◌, ap, arith}
use Rattle.std.proofs.lemmas.Bool.{eq-eqb, ne_eqb}
use Rattle.std.proofs.lemmas.List.{at_drop_more, get_or-map, length-map}
use Rattle.kdf_place.specs.declared.image.Image.{Image}
use Rattle.kdf_place.specs.Assembled.{words_or_none}
use Rattle.kdf_job.specs.declared.job.SlotJob.{SlotJob}
use Rattle.kdf_job.specs.Shows.{shown_slot}
use Rattle.kdf_job.specs.WellFormed.{AreSlots, IsSlot}
use Rattle.kdf_alone.specs.Program.{IsApart}
use Rattle.kdf_alone.proofs.Apart.{slot_apart}
use Rattle.kdf_theory.specs.Loading.{HaveImages}
use Rattle.kdf_top.specs.Loaded.{HasImages, IsFound, images_of, slot_numbered}
use Rattle.kdf_top.proofs.LoadedDecks.{picture_due, pictured, same_pictures, words_due}

-- each image fits its slot's store
fits_at : (slots : List SlotJob) (k : ℕ) (d : SlotJob) → HaveImages (map shown_slot slots) (images_of (map shown_slot slots)) → k < length slots
    → length (words_due (get_or slots k d)) ≤ (get_or slots k d).size
fits_at [] k d have lt = absurd (omega arith)
fits_at (s ∷ slots) zero d have lt = have.0
fits_at (s ∷ slots) (suc k) d have lt = fits_at slots k d have.1 (omega arith)

-- the slot in front is the one that is looked for, or not
front_is : (slots : List SlotJob) (k p : ℕ) (d : SlotJob) → k < length slots → (get_or slots k d).p ≡ p
    → slot_numbered (map shown_slot (drop k slots)) p ≡ Some (shown_slot (get_or slots k d))
front_is slots k p d lt same =
    at_drop_more (λ (xs : List SlotJob). slot_numbered (map shown_slot xs) p) slots k d lt
    ∙ ap (λ b. cond b (Some (shown_slot (get_or slots k d))) (slot_numbered (map shown_slot (drop (k + 1) slots)) p)) (eq-eqb (get_or slots k d).p p same)

front_other : (slots : List SlotJob) (k p : ℕ) (d : SlotJob) → k < length slots → ¬ ((get_or slots k d).p ≡ p)
    → slot_numbered (map shown_slot (drop k slots)) p ≡ slot_numbered (map shown_slot (drop (k + 1) slots)) p
front_other slots k p d lt other =
    at_drop_more (λ (xs : List SlotJob). slot_numbered (map shown_slot xs) p) slots k d lt
    ∙ ap (λ b. cond b (Some (shown_slot (get_or slots k d))) (slot_numbered (map shown_slot (drop (k + 1) slots)) p)) (ne_eqb (get_or slots k d).p p other)

module _ (slots : List SlotJob) (images : List Image) (have : HasImages (map shown_slot slots) images) where
  due : map pictured images ≡ map picture_due slots
  due = have.pictures ∙ sym (same_pictures slots)

  pub as_many : length images ≡ length slots
  as_many = sym (length-map images pictured) ∙ ap length due ∙ length-map slots picture_due

  module _ (p k : ℕ) (d slot : SlotJob) (e image : Image) (lt : k < length slots) (is : get_or slots k d ≡ slot) (its : get_or images k e ≡ image)
      (so_far : slot_numbered (map shown_slot slots) p ≡ slot_numbered (map shown_slot (drop k slots)) p) where
    picture : picture_due slot ≡ pictured image
    picture =
        ap picture_due (sym is) ∙ sym (get_or-map picture_due slots k d (pictured e) lt) ∙ ap (λ ps. get_or ps k (pictured e)) (sym due)
        ∙ get_or-map pictured images k e (pictured e) (let same = as_many in omega arith) ∙ ap pictured its

    pub found_here : AreSlots (map shown_slot slots) → slot.p ≡ p → IsFound (map shown_slot slots) p slot image
    found_here are same =
        let at : get_or (map shown_slot slots) k (shown_slot d) ≡ shown_slot slot = get_or-map shown_slot slots k d (shown_slot d) lt ∙ ap shown_slot is in
        let inside : k < length (map shown_slot slots) = omega (arith, length-map slots shown_slot) in
        record {
          found = so_far ∙ front_is slots k p d lt (ap (λ (s : SlotJob). s.p) is ∙ same) ∙ ap (λ (s : SlotJob). Some (shown_slot s)) is;
          well_formed = subst IsSlot at (are.each k (shown_slot d) inside);
          apart = subst IsApart at (slot_apart (map shown_slot slots) k (shown_slot d) inside are);
          picture = picture;
          fits = subst (λ (words : List ℕ). length words ≤ slot.size) (ap words_or_none picture)
              (subst (λ (s : SlotJob). length (words_due s) ≤ s.size) is (fits_at slots k d have.fits lt));
        }

    pub found_later : ¬ (slot.p ≡ p) → slot_numbered (map shown_slot slots) p ≡ slot_numbered (map shown_slot (drop (k + 1) slots)) p
    found_later other = so_far ∙ front_other slots k p d lt (λ same. other (sym (ap (λ (s : SlotJob). s.p) is) ∙ same))
