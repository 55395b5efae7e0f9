use Rattle.kdf_theory.proofs.Seen.TransfersEnd.{ends_seen, flying_ended}
use Rattle.kdf_director.proofs.laws.ends.Goals as goal

pub returns-clause-seen : goal.returns-clause-seen
returns-clause-seen c flights s d f this flying = ends_seen flights s d f this flying

pub returns-clause-flying : goal.returns-clause-flying
returns-clause-flying c flights s d flying = flying_ended flights s d flying
