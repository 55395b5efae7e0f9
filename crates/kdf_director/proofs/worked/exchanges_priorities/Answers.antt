use Rattle.kdf_director.proofs.Course.WorkedSwaps.{swap_journal}
use Rattle.kdf_director.proofs.worked.exchanges_priorities.Goals as goal

pub returns : goal.returns
returns c = swap_journal
