use Rattle.std.proofs.Common.{refl}
use Rattle.kdf_journal.specs.Steps.{Moves}
use Rattle.kdf_theory.proofs.Course.FlightsAdded.{flights-move}
use Rattle.kdf_theory.proofs.Course.LegalFacts.{legal_asked}
use Rattle.kdf_theory.proofs.Course.FlightsOnCourse.{legal-course}
use Rattle.kdf_theory.proofs.Course.OwnSteps.{own-same}
use Rattle.kdf_theory.proofs.Course.SeenJournals.{move-none, move-seen}
use Rattle.kdf_director.proofs.laws.journals.words_moved.Goals as goal

pub returns-clause-own : goal.returns-clause-own
returns-clause-own c slots J p d n = own-same slots J (Moves d n) p refl refl

pub returns-clause-flights : goal.returns-clause-flights
returns-clause-flights c slots J p d n are l = flights-move slots J p (legal_asked slots J l p) (legal-course slots J are l p).past d n

pub returns-clause-seen : goal.returns-clause-seen
returns-clause-seen c slots J p d n f are l this = move-seen slots J p (legal_asked slots J l p) (legal-course slots J are l p) d n f this

pub returns-clause-none : goal.returns-clause-none
returns-clause-none c slots J p d n are l none = move-none slots J p (legal_asked slots J l p) (legal-course slots J are l p) d n none
