use Rattle.kdf_director.proofs.Course.WorkedFlights.{asks_journal}
use Rattle.kdf_director.proofs.worked.is_answered.Goals as goal

pub returns : goal.returns
returns c = asks_journal
