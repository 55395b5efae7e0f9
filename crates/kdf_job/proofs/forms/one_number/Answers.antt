use Rattle.kdf_job.proofs.WordLemmas.{number-more}
use Rattle.kdf_job.proofs.forms.one_number.Goals as goal

pub returns-in-Some-clause-value : goal.returns-in-Some-clause-value
returns-in-Some-clause-value c = number-more _ _ _ _ _ c.in-Some.ensures
