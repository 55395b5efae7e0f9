-- Slots, each of which gets the pool.
use Rattle.std.proofs.Common.{◌≡◌, ℕ, List, [], ◌∷◌, ◌++◌, map, sym, ap, ◌∙◌}
use Rattle.std.proofs.lemmas.List.{map-append}
use Rattle.kdf_journal.specs.declared.kind.Kind.{Kind}
use Rattle.kdf_job.specs.declared.job.SlotJob.{SlotJob}
use Rattle.kdf_job.specs.Draft.{with_pool}
use Rattle.kdf_job.specs.Job.{ShownSlot}
use Rattle.kdf_job.specs.Shows.{shown_slot}

-- one slot more
pub shared_more : (pool : List (ℕ × Kind)) (slots : List SlotJob) (s : SlotJob) (done : List SlotJob) (x : SlotJob) (all : List SlotJob)
    → map shown_slot done ≡ map (with_pool pool) (map shown_slot slots) → shown_slot x ≡ with_pool pool (shown_slot s) → all ≡ done ++ x ∷ []
    → map shown_slot all ≡ map (with_pool pool) (map shown_slot (slots ++ s ∷ []))
shared_more pool slots s done x all first is then =
    ap (map shown_slot) then ∙ map-append shown_slot done (x ∷ [])
    ∙ ap (λ (ys : List ShownSlot). ys ++ shown_slot x ∷ []) first
    ∙ ap (λ (y : ShownSlot). map (with_pool pool) (map shown_slot slots) ++ y ∷ []) is
    ∙ sym (map-append (with_pool pool) (map shown_slot slots) (shown_slot s ∷ []))
    ∙ ap (map (with_pool pool)) (sym (map-append shown_slot slots (s ∷ [])))
