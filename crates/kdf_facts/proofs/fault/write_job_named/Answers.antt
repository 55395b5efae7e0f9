use Rattle.kdf_facts.specs.Faults.{job_named}
use Rattle.kdf_facts.proofs.fault.write_job_named.Goals as goal

pub returns : goal.returns
unfolding job_named
returns c = c.write.ensures.bytes
