use Rattle.kdf_theory.proofs.Course.OneJournal.{resumed_for}
use Rattle.kdf_director.proofs.laws.served.resumed.Goals as goal

pub returns : goal.returns
returns g c rule is slots events further J K j k = resumed_for _ slots is.one events further J K j k
