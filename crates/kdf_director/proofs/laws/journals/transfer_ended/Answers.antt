use Rattle.std.proofs.Common.{refl}
use Rattle.kdf_journal.specs.Steps.{Ends}
use Rattle.kdf_theory.proofs.Course.FlightsAdded.{flights-end}
use Rattle.kdf_theory.proofs.Course.LegalFacts.{legal_asked}
use Rattle.kdf_theory.proofs.Course.FlightsOnCourse.{legal-course}
use Rattle.kdf_theory.proofs.Course.OwnSteps.{own-same}
use Rattle.kdf_theory.proofs.Course.SeenJournals.{end-none, end-seen}
use Rattle.kdf_director.proofs.laws.journals.transfer_ended.Goals as goal

pub returns-clause-own : goal.returns-clause-own
returns-clause-own c slots J p d = own-same slots J (Ends d) p refl refl

pub returns-clause-flights : goal.returns-clause-flights
returns-clause-flights c slots J p d are l = flights-end slots J p (legal_asked slots J l p) (legal-course slots J are l p).past d

pub returns-clause-seen : goal.returns-clause-seen
returns-clause-seen c slots J p d f are l this = end-seen slots J p (legal_asked slots J l p) (legal-course slots J are l p) d f this

pub returns-clause-none : goal.returns-clause-none
returns-clause-none c slots J p d are l none = end-none slots J p (legal_asked slots J l p) (legal-course slots J are l p) d none
