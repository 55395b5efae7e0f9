use Rattle.kdf_alone.proofs.WorkedLemmas.{reading_ends}
use Rattle.kdf_alone.proofs.worked.reads_paper_tape.Goals as goal

pub returns : goal.returns
returns c = reading_ends
