use Rattle.kdf_theory.specs.ByJournal.{own, seen_of}
use Rattle.kdf_theory.proofs.Course.SeenJournals.{judged, same-need, same-note, same-step}
use Rattle.kdf_theory.proofs.Course.Worlds.{next-world}
use Rattle.kdf_director.proofs.laws.journals.judged_alike.Goals as goal

pub returns-clause-held : goal.returns-clause-held
returns-clause-held c = same-need

pub returns-clause-next : goal.returns-clause-next
returns-clause-next c slots J = next-world (seen_of slots J) (own slots J) slots J

pub returns-clause-note : goal.returns-clause-note
returns-clause-note c = same-note

pub returns-clause-step : goal.returns-clause-step
returns-clause-step c = judged

pub returns-clause-call : goal.returns-clause-call
returns-clause-call c = same-step
