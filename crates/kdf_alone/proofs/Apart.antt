-- No slot of a job has a device of a number of the pool.
use Rattle.std.proofs.Common.{◌≡◌, ℕ, ◌<◌, true, false, List, length, get_or, Option, Some, None, is_some, refl, sym, ap, ◌∙◌}
use Rattle.std.proofs.lemmas.Bool.{false≢true}
use Rattle.kdf_job.specs.Draft.{pool_numbers, numbers_of}
use Rattle.kdf_job.specs.Job.{JobDevice, ShownSlot}
use Rattle.kdf_job.specs.Slots.{numbered}
use Rattle.kdf_job.specs.WellFormed.{AreSlots}
use Rattle.kdf_job.proofs.Numbers.{not_in_both, ds, found, has, in_slots, lent}
use Rattle.kdf_alone.specs.Program.{IsApart}

pub slot_apart : (slots : List ShownSlot) (k : ℕ) (x : ShownSlot) → k < length slots → AreSlots slots → IsApart (get_or slots k x)
slot_apart slots k x lt are d is = of (numbered s.devices d) refl
  where
    s : ShownSlot
    s = get_or slots k x

    of : (o : Option JobDevice) → numbered s.devices d ≡ o → numbered s.devices d ≡ None
    of None e = e
    of (Some y) e =
        let mine : has (ds s.devices) d ≡ true = sym (found s.devices d) ∙ ap is_some e in
        let other : has (pool_numbers s.pool) d ≡ false =
        not_in_both (numbers_of slots) (pool_numbers s.pool) d (are.owned k x lt) (in_slots slots k x d lt mine) in
        absurd (false≢true (sym other ∙ sym (lent s.pool d) ∙ is))
