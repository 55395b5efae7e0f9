use Rattle.kdf_theory.proofs.Course.FlightsAdded.{flight-told}
use Rattle.kdf_theory.proofs.Course.LegalFacts.{legal_alive}
use Rattle.kdf_theory.proofs.Course.FlightsOnCourse.{legal-course, mine-same}
use Rattle.kdf_director.proofs.laws.journals.in_flight.Goals as goal

pub returns-clause-flying : goal.returns-clause-flying
returns-clause-flying c slots J p are l = (legal-course slots J are l p).flying

pub returns-clause-told : goal.returns-clause-told
returns-clause-told c slots J p d are l = (legal-course slots J are l p).mine d

pub returns-clause-mine : goal.returns-clause-mine
returns-clause-mine c slots J p are l = mine-same slots J p (legal-course slots J are l p).mine

pub returns-clause-life : goal.returns-clause-life
returns-clause-life c slots J p l = legal_alive slots J l p

pub returns-clause-over : goal.returns-clause-over
returns-clause-over c slots J p are l dead d = (legal-course slots J are l p).over dead d

pub returns-clause-met : goal.returns-clause-met
returns-clause-met c slots J p d k f at is = (flight-told slots J p d k f at is).0

pub returns-clause-moved : goal.returns-clause-moved
returns-clause-moved c slots J p d k f at is = (flight-told slots J p d k f at is).1
