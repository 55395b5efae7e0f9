use Rattle.kdf_job.proofs.JoinedJobs.{joined_fault, joined_job}
use Rattle.kdf_job.proofs.LastLines.{job_has_end}
use Rattle.kdf_job.proofs.laws.joined_jobs.Goals as goal

pub returns : goal.returns
returns c = record {
  last_line = job_has_end;
  fault = joined_fault;
  told = joined_job;
}
