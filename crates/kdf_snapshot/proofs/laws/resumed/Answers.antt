use Rattle.kdf_theory.specs.Loading.{slots_of}
use Rattle.kdf_theory.proofs.Course.OneJournal.{resumed_for}
use Rattle.kdf_snapshot.proofs.laws.resumed.Goals as goal

pub returns : goal.returns
returns g c rule is front further images J K j k = resumed_for _ (slots_of front.slots images) is.one front.events further J K j k
