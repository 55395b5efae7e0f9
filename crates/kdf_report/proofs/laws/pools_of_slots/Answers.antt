use Rattle.kdf_report.proofs.PooledSlots.{job_lent, job_pools}
use Rattle.kdf_report.proofs.laws.pools_of_slots.Goals as goal

pub returns-clause-pool : goal.returns-clause-pool
returns-clause-pool c = job_pools

pub returns-clause-lent : goal.returns-clause-lent
returns-clause-lent c = job_lent
