use Rattle.kdf_director.proofs.Course.WorkedSlots.{worked_slots}
use Rattle.kdf_director.proofs.worked.can_be_loaded.Goals as goal

pub returns : goal.returns
returns c = worked_slots
