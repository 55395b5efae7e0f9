-- The lines of words, slot by slot and address by address.
use Rattle.std.proofs.Common.{◌≡◌, ℕ, ◌+◌, ◌-◌, ◌<◌, List, ◌++◌, All, length, map, subst, arith}
use Rattle.std.specs.List.{flat_map, range_with_len}
use Rattle.std.proofs.lemmas.List.{get_or-map, length-map}
use Rattle.kdf_text.specs.Text.{text}
use Rattle.kdf_text.proofs.Texts.{text_lines_more}
use Rattle.kdf_job.specs.declared.job.SlotJob.{SlotJob}
use Rattle.kdf_job.specs.Job.{ShownSlot}
use Rattle.kdf_job.specs.Shows.{shown_slot}

-- the lines of one address more
pub one_more : (f : ℕ → List (List ℕ)) (i : ℕ) (old mid new : List ℕ) → mid ≡ old ++ text (flat_map f (range_with_len 0 i)) → new ≡ mid ++ text (f i)
    → new ≡ old ++ text (flat_map f (range_with_len 0 (i + 1)))
one_more f i old mid new first then =
    let from : i ≡ i - 0 = omega arith in
    let to : i + 1 - 0 ≡ i + 1 = omega arith in
    subst (λ n. new ≡ old ++ text (flat_map f (range_with_len 0 n))) to
    (text_lines_more f 0 i old mid new (omega arith) (subst (λ n. mid ≡ old ++ text (flat_map f (range_with_len 0 n))) from first) then)

-- what holds of each slot, as it is shown, holds of each that is read
pub all_shown : (P : ShownSlot → Type 0) (slots : List SlotJob) → All P (map shown_slot slots) → All (λ (slot : SlotJob). P (shown_slot slot)) slots
all_shown P slots all k d lt =
    let inside : k < length (map shown_slot slots) = omega (arith, length-map slots shown_slot) in
    subst P (get_or-map shown_slot slots k d (shown_slot d) lt) (all k (shown_slot d) inside)
