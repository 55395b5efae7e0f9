use Rattle.kdf_alone.proofs.WorkedLemmas.{writing_ends}
use Rattle.kdf_alone.proofs.worked.writes_tape_with_the_mark.Goals as goal

pub returns : goal.returns
returns c = writing_ends
