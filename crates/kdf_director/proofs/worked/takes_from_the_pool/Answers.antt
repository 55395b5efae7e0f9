use Rattle.kdf_director.proofs.Course.WorkedPools.{pool_first, pool_journal, pool_second}
use Rattle.kdf_director.proofs.worked.takes_from_the_pool.Goals as goal

pub returns-clause-journal : goal.returns-clause-journal
returns-clause-journal c = pool_journal

pub returns-clause-first : goal.returns-clause-first
returns-clause-first c = pool_first

pub returns-clause-second : goal.returns-clause-second
returns-clause-second c = pool_second
