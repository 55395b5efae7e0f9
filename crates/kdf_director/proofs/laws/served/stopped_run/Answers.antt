use Rattle.kdf_theory.proofs.Course.OneJournal.{stopped_for}
use Rattle.kdf_director.proofs.laws.served.stopped_run.Goals as goal

pub returns : goal.returns
returns g c rule is slots events left J K l truly f k = stopped_for _ slots is.one events left J K l truly f k
