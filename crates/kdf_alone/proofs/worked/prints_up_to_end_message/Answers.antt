use Rattle.kdf_alone.proofs.WorkedLemmas.{printing_ends}
use Rattle.kdf_alone.proofs.worked.prints_up_to_end_message.Goals as goal

pub returns : goal.returns
returns c = printing_ends
