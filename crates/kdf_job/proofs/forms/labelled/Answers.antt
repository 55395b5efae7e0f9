use Rattle.kdf_job.proofs.WordLemmas.{described-more}
use Rattle.kdf_job.proofs.forms.labelled.Goals as goal

pub returns-in-Some-clause-told : goal.returns-in-Some-clause-told
returns-in-Some-clause-told c = described-more c.args.d.now c.args.kind.now _ _ _ c.in-Some.ensures
