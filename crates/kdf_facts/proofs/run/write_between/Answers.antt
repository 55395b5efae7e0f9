use Rattle.kdf_facts.specs.Run.{between}
use Rattle.kdf_facts.proofs.run.write_between.Goals as goal

pub returns : goal.returns
unfolding between
returns c = c.write.ensures.bytes
