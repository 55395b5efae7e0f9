use Rattle.std.specs.List.{IsDistinct}
use Rattle.std.proofs.Common.{[], List, map, sym, subst, arith}
use Rattle.kdf_job.specs.Job.{ShownSlot}
use Rattle.kdf_job.specs.Shows.{shown_slot}
use Rattle.kdf_job.specs.WellFormed.{AreSlots}
use Rattle.kdf_director.proofs.machine.fields.fields.Goals as goal

-- a job without a slot
no_slots : AreSlots (let slots : List ShownSlot = [] in slots)
unfolding IsDistinct
no_slots =
    record {
      each = λ k d lt. absurd (omega arith);
      rising = tt {0};
      fits = omega arith;
      apart = tt {0};
      common = λ i j d less lt. absurd (omega arith);
      owned = λ k d lt. absurd (omega arith);
    }

pub load-requires-clause-slots : goal.load-requires-clause-slots
load-requires-clause-slots c = subst (λ xs. AreSlots (map shown_slot xs)) (sym c.new.ensures.items) no_slots
