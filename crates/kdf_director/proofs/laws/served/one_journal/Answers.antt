use Rattle.kdf_theory.proofs.Course.OneJournal.{one_for}
use Rattle.kdf_director.proofs.laws.served.one_journal.Goals as goal

pub returns : goal.returns
returns g c rule is slots events J K j k = one_for _ slots is.one events J K j k
