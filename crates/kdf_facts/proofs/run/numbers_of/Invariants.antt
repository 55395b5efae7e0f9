use Rattle.std.proofs.Common.{◌≡◌, map, take}
use Rattle.kdf_job.specs.Job.{ShownSlot}
use Rattle.kdf_job.specs.Shows.{shown_slot}
use Rattle.kdf_facts.proofs.run.numbers_of.Given as goal

abbrev pub invariant-loop-slot : goal.invariant-loop-slot
invariant-loop-slot l = l.numbers.items ≡ map (λ (s : ShownSlot). s.p) (map shown_slot (take l.slot-index l.slots))
