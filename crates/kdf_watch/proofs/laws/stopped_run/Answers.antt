use Rattle.kdf_watch.specs.Cursors.{calls_left}
use Rattle.kdf_theory.proofs.Course.OneJournal.{stopped_for}
use Rattle.kdf_watch.proofs.laws.stopped_run.Goals as goal

pub returns : goal.returns
returns g c rule is slots events cursor J K l truly f k = stopped_for _ slots is.one events (calls_left events cursor) J K l truly f k
