use Rattle.kdf_job.proofs.FrontLaws.{first_fault, front_before, same_job, whole_front}
use Rattle.kdf_job.proofs.Fronts.{front_has, front_leaves}
use Rattle.kdf_job.proofs.laws.fronts.Goals as goal

pub returns : goal.returns
returns c = record {
  first_lines = front_has;
  others = front_leaves;
  whole = whole_front;
  same_job = same_job;
  followed = front_before;
  fault = first_fault;
}
