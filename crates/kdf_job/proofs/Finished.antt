-- A job of which all lines are read.
use Rattle.std.proofs.Common.{◌≡◌, ℕ, ◌≤◌, List, length, map, sym, ap, subst, ◌∙◌, arith}
use Rattle.std.proofs.lemmas.List.{length-map, length_push}
use Rattle.kdf_job.specs.declared.line_place.LinePlace.{LinePlace}
use Rattle.kdf_job.specs.declared.line_place.LinePlace.TheVariants.{BehindEnd}
use Rattle.kdf_job.specs.Draft.{ShownDraft, job_of, slot_of, slots_told, with_pool}
use Rattle.kdf_job.specs.Kept.{IsKept, IsPlaced}
use Rattle.kdf_job.specs.Job.{ShownJob, ShownSlot}
use Rattle.kdf_job.specs.WellFormed.{IsJob}
use Rattle.kdf_job.proofs.Pools.{are_slots, shared}
use Rattle.kdf_job.proofs.Told.{some_slot}

finished : (words : ℕ) (numbers : List ℕ) (d : ShownDraft) → IsKept words numbers d → d.place ≡ BehindEnd → IsJob (job_of d)
finished words numbers d was place =
    let there : IsPlaced BehindEnd d.slot = subst (λ (x : LinePlace). IsPlaced x d.slot) place was.placed in
    let s = some_slot d.slot there in
    let many : length (map (with_pool d.pool) (slots_told d)) ≡ length (slots_told d) = length-map (slots_told d) (with_pool d.pool) in
    record {
      some = let some : 1 ≤ length (slots_told d) = rw s.1 (let n = length_push d.slots (slot_of s.0) in omega arith) in omega arith;
      slots = are_slots d.pool (slots_told d) was.slots was.lent was.owned;
      schedule = was.schedule;
      pool = shared d.pool (slots_told d);
    }

abbrev made : List ShownSlot → ShownDraft → ShownJob
made slots d = record { slots = slots; events = d.events; pool = d.pool }

-- its last slot is put after the others, and each slot has the pool
pub well_formed : (words : ℕ) (numbers : List ℕ) (d : ShownDraft) (slots : List ShownSlot) (j : ShownJob) → IsKept words numbers d → d.place ≡ BehindEnd
    → slots ≡ slots_told d
    → j ≡ made (map (with_pool d.pool) slots) d → IsJob j
well_formed words numbers d slots j was place told is =
    subst IsJob (sym (is ∙ ap (λ (ss : List ShownSlot). made (map (with_pool d.pool) ss) d) told)) (finished words numbers d was place)
