use Rattle.kdf_facts.specs.Run.{opening}
use Rattle.kdf_facts.proofs.run.write_opening.Goals as goal

pub returns : goal.returns
unfolding opening
returns c = c.write.ensures.bytes
