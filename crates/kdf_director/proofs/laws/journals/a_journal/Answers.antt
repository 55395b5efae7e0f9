use Rattle.kdf_theory.specs.Served.{unasked}
use Rattle.kdf_theory.proofs.Course.OneJournal.{a_journal_for}
use Rattle.kdf_director.proofs.laws.journals.a_journal.Goals as goal

pub returns : goal.returns
returns c slots events none rises = a_journal_for unasked slots none events rises
