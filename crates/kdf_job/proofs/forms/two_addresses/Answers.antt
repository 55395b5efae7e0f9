use Rattle.kdf_job.proofs.WordLemmas.{addresses-more}
use Rattle.kdf_job.proofs.forms.two_addresses.Goals as goal

pub returns-in-Some : goal.returns-in-Some
returns-in-Some c = addresses-more _ _ _ _ _ c.in_ok-first.ensures c.in-Some.ensures
