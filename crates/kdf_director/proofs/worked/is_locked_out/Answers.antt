use Rattle.kdf_director.proofs.Course.WorkedFlights.{looks_journal}
use Rattle.kdf_director.proofs.worked.is_locked_out.Goals as goal

pub returns : goal.returns
returns c = looks_journal
