use Rattle.kdf_director.proofs.Course.WorkedFlights.{keeps_journal}
use Rattle.kdf_director.proofs.worked.lockout_covers_the_group.Goals as goal

pub returns : goal.returns
returns c = keeps_journal
