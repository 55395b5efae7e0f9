use Rattle.kdf_top.proofs.WorkedAnswers.{job_first, no_line, then_deck, two_words}
use Rattle.kdf_top.proofs.worked.answers_of_faults.Goals as goal

pub returns-clause-deck : goal.returns-clause-deck
returns-clause-deck c = then_deck

pub returns-clause-job : goal.returns-clause-job
returns-clause-job c = job_first

pub returns-clause-nothing : goal.returns-clause-nothing
returns-clause-nothing c = no_line

pub returns-clause-words : goal.returns-clause-words
returns-clause-words c = two_words
