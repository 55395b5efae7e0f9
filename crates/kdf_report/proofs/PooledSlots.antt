-- The slots of a job without a fault have their pool as the stints of a program begin.
use Rattle.std.specs.List.{All}
use Rattle.std.proofs.Common.{◌≡◌, ℕ, zero, suc, ◌<◌, ◌≤◌, Bool, true, false, List, length, get_or, map, Option, Some, None, is_some, refl, sym, ap, ◌∙◌, subst}
use Rattle.std.proofs.Common.{⊎_elim, arith}
use Rattle.std.proofs.lemmas.Bool.{cases_Bool, cases_lt, false≢true}
use Rattle.std.proofs.lemmas.List.{get_or-map, length-map}
use Rattle.kdf_transfer.proofs.Numbers.{length-numbers, limit_is, number_at, number_past}
use Rattle.kdf_transfer.specs.Devices.{new_progress}
use Rattle.kdf_transfer.specs.Slots.{Slot}
use Rattle.kdf_processor.specs.Lone.{is_live, lone, lone_step}
use Rattle.kdf_processor.specs.State.{State, begin, device_limit, is_pooled, stocked}
use Rattle.kdf_processor.specs.Stints.{HasPool, IsLent}
use Rattle.kdf_processor.proofs.Lending.{begin_lent, row_lent}
use Rattle.kdf_processor.proofs.RowFacts.{live_step, next_answer, over_step}
use Rattle.kdf_job.specs.Draft.{pool_numbers, numbers_of}
use Rattle.kdf_job.specs.Job.{JobDevice, ShownSlot}
use Rattle.kdf_job.specs.Reading.{job, job_fault}
use Rattle.kdf_job.specs.Slots.{lent_kind, numbered, progress_on, slot_of}
use Rattle.kdf_job.specs.WellFormed.{AreSlots}
use Rattle.kdf_job.proofs.Numbers.{not_in_both, ds, found, has, in_slots, lent}
use Rattle.kdf_report.proofs.FaultlessJobs.{bare, faultless}

module _ (slots : List ShownSlot) (are : AreSlots slots) (i : ℕ) (x : ShownSlot) (inside : i < length slots) (words : List ℕ) where
  abbrev s : ShownSlot
  s = get_or slots i x

  few : (d : ℕ) → is_pooled (stocked (slot_of s words)).claims d ≡ true → d < device_limit
  few d pooled =
      ⊎_elim
      (λ (low : d < 16). low)
      (λ (past : 16 ≤ d). cc (sym pooled ∙ ap is_some (number_past (lent_kind s.pool) d None (let e = limit_is in omega arith))))
      (cases_lt d 16)

  -- a number of the pool is none of the slot's own
  not_own : (d : ℕ) → is_pooled (stocked (slot_of s words)).claims d ≡ true → has (ds s.devices) d ≡ false
  not_own d pooled =
      ⊎_elim
      (λ (own : has (ds s.devices) d ≡ true).
      absurd (false≢true (sym (not_in_both (numbers_of slots) (pool_numbers s.pool) d (are.owned i x inside) (in_slots slots i x d inside own)) ∙ there)))
      (λ (none : has (ds s.devices) d ≡ false). none)
      (cases_Bool (has (ds s.devices) d))
    where
      there : has (pool_numbers s.pool) d ≡ true
      there =
          let low = few d pooled in
          sym (lent s.pool d) ∙ ap is_some (sym (number_at (lent_kind s.pool) d None (let e = limit_is in omega arith))) ∙ pooled

  nothing_on : (o : Option JobDevice) → is_some o ≡ false → progress_on o ≡ new_progress
  nothing_on None is = refl
  nothing_on (Some y) is = cc

  pool_at : HasPool (slot_of s words)
  pool_at =
      record {
        places = length-numbers (λ d. progress_on (numbered s.devices d)) ∙ limit_is;
        few = few;
        fresh = λ d pooled.
            let low = few d pooled in
            number_at (λ e. progress_on (numbered s.devices e)) d new_progress (let e = limit_is in omega arith)
            ∙ nothing_on (numbered s.devices d) (found s.devices d ∙ not_own d pooled);
      }

pub job_pools : (bytes words : List ℕ) → job_fault bytes ≡ None → All (λ (s : ShownSlot). HasPool (slot_of s words)) (job bytes).slots
job_pools bytes words free i x lt =
    let slots : List ShownSlot = (job bytes).slots in
    let inside : i < length (map bare slots) = let n = length-map slots bare in omega arith in
    subst (λ (s : ShownSlot). HasPool (slot_of s words)) (get_or-map bare slots i x x lt) (pool_at (map bare slots) (faultless bytes free) i x inside words)

-- ---- what holds of the stints of a program run alone

step_lent : (answers : List ℕ) (s : State) → IsLent s → IsLent (lone_step answers s)
step_lent answers s is =
    ⊎_elim
    (λ (live : is_live s.registers.state ≡ true). subst IsLent (sym (live_step answers s live)) (row_lent s is (next_answer answers s)))
    (λ (over : is_live s.registers.state ≡ false). subst IsLent (sym (over_step answers s over)) is)
    (cases_Bool (is_live s.registers.state))

lone_lent : (start : State) (answers : List ℕ) (n : ℕ) → IsLent start → IsLent (lone start answers n)
lone_lent start answers zero is = is
lone_lent start answers (suc n) is = step_lent answers (lone start answers n) (lone_lent start answers n is)

pub job_lent : (bytes words answers : List ℕ) (n : ℕ) → job_fault bytes ≡ None → All (λ (s : ShownSlot). IsLent (lone (begin (slot_of s words)) answers n))
    (job bytes).slots
job_lent bytes words answers n free i x lt =
    let slot : Slot = slot_of (get_or (job bytes).slots i x) words in
    lone_lent (begin slot) answers n (begin_lent slot (job_pools bytes words free i x lt))
