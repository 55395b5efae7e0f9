use Rattle.std.proofs.Common.{◌≡◌, map, drop}
use Rattle.kdf_job.specs.Shows.{shown_slot}
use Rattle.kdf_top.specs.Loaded.{slot_numbered}
use Rattle.kdf_facts.proofs.alone.find_slot.Given as goal

abbrev pub invariant-loop-i : goal.invariant-loop-i
invariant-loop-i l =
    slot_numbered (map shown_slot l.slots) l.p ≡ slot_numbered (map shown_slot (drop l.i l.slots)) l.p
