use Rattle.kdf_theory.proofs.Course.WorldsJudged.{legal_added, legal_before, legal_nil, true_added, true_nil}
use Rattle.kdf_theory.proofs.Course.FlightsOnCourse.{none-first}
use Rattle.kdf_theory.proofs.Course.OwnSteps.{own-nil}
use Rattle.kdf_director.proofs.laws.journals.legal_step.Goals as goal

pub returns-clause-empty : goal.returns-clause-empty
returns-clause-empty c slots = (legal_nil slots, true_nil slots)

pub returns-clause-start : goal.returns-clause-start
returns-clause-start c = own-nil

pub returns-clause-idle : goal.returns-clause-idle
returns-clause-idle c = none-first

pub returns-clause-longer : goal.returns-clause-longer
returns-clause-longer c = legal_added

pub returns-clause-truly : goal.returns-clause-truly
returns-clause-truly c = true_added

pub returns-clause-before : goal.returns-clause-before
returns-clause-before c = legal_before
