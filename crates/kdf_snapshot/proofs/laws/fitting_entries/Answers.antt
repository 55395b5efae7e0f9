use Rattle.kdf_snapshot.proofs.LegalEntries.{fitting_within}
use Rattle.kdf_snapshot.proofs.laws.fitting_entries.Goals as goal

pub returns : goal.returns
returns g c rule is slots are all events schedule J j = fitting_within _ is.words slots are all events schedule J j
