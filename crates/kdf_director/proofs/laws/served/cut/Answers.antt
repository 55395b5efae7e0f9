use Rattle.kdf_theory.proofs.Course.OneJournal.{journal_for_cut, true_for_cut, whole_for_cut}
use Rattle.kdf_theory.proofs.Course.WorldsJudged.{legal_cut}
use Rattle.kdf_director.proofs.laws.served.cut.Goals as goal

pub returns-clause-legal : goal.returns-clause-legal
returns-clause-legal g c = legal_cut

pub returns-clause-truly : goal.returns-clause-truly
returns-clause-truly g c rule slots n J truly = true_for_cut (λ n a. goal.F-post g rule n a) slots n J truly

pub returns-clause-whole : goal.returns-clause-whole
returns-clause-whole g c rule slots events before later J j is = whole_for_cut (λ n a. goal.F-post g rule n a) slots events before later J j is

pub returns-clause-journal : goal.returns-clause-journal
returns-clause-journal g c rule slots events earlier later J j is = journal_for_cut (λ n a. goal.F-post g rule n a) slots events earlier later J j is
