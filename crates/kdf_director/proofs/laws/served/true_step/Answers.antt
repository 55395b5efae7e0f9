use Rattle.kdf_theory.specs.Served.{unasked}
use Rattle.kdf_theory.proofs.Course.OneJournal.{answered_more, true_for_added, true_for_answered, true_for_more, true_for_nil, true_of_for}
use Rattle.kdf_director.proofs.laws.served.true_step.Goals as goal

pub returns-clause-empty : goal.returns-clause-empty
returns-clause-empty g c rule slots = true_for_nil (λ n a. goal.F-post g rule n a) slots

pub returns-clause-longer : goal.returns-clause-longer
returns-clause-longer g c rule slots J s l truly noted = true_for_added (λ n a. goal.F-post g rule n a) slots J s l truly noted

pub returns-clause-answered : goal.returns-clause-answered
returns-clause-answered g c rule slots J K l truly is = true_for_answered (λ n a. goal.F-post g rule n a) slots J K l truly is

pub returns-clause-truly : goal.returns-clause-truly
returns-clause-truly g c rule slots J truly = true_of_for (λ n a. goal.F-post g rule n a) slots J truly

pub returns-clause-every : goal.returns-clause-every
returns-clause-every g c rule slots J truly = true_for_more unasked (λ n a. goal.F-post g rule n a) (λ word answer none. absurd none) slots J truly

pub returns-clause-unanswered : goal.returns-clause-unanswered
returns-clause-unanswered g c rule slots J K is = answered_more unasked (λ n a. goal.F-post g rule n a) (λ word answer none. absurd none) slots J K is
