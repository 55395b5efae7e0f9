use Rattle.kdf_director.proofs.Course.WorkedFlights.{two_journal}
use Rattle.kdf_director.proofs.worked.runs_meanwhile.Goals as goal

pub returns : goal.returns
returns c = two_journal
