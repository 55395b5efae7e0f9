use Rattle.kdf_facts.specs.Faults.{job_opening}
use Rattle.kdf_facts.proofs.fault.write_job_opening.Goals as goal

pub returns : goal.returns
unfolding job_opening
returns c = c.write.ensures.bytes
