use Rattle.kdf_director.proofs.Course.WorkedFlights.{punch_before, punch_behind, punch_journal}
use Rattle.kdf_director.proofs.worked.punches_a_block.Goals as goal

pub returns-clause-journal : goal.returns-clause-journal
returns-clause-journal c = punch_journal

pub returns-clause-before : goal.returns-clause-before
returns-clause-before c = punch_before

pub returns-clause-behind : goal.returns-clause-behind
returns-clause-behind c = punch_behind
