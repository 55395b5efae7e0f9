use Rattle.std.proofs.Common.{refl}
use Rattle.std.proofs.Math.Path.{fun_ext}
use Rattle.kdf_journal.specs.Steps.{Holds, Waits, Sets, Swaps}
use Rattle.kdf_theory.proofs.Course.LegalFacts.{legal_asked}
use Rattle.kdf_theory.proofs.Course.FlightsOnCourse.{flights-quiet, legal-course}
use Rattle.kdf_theory.proofs.Course.OwnSteps.{own-same}
use Rattle.kdf_director.proofs.laws.journals.nothing_changed.Goals as goal

pub returns-clause-held : goal.returns-clause-held
returns-clause-held c slots J p q by are l = (
  own-same slots J (Holds q by) p refl refl,
  fun_ext (flights-quiet slots J (Holds q by) p (legal_asked slots J l p) (λ d. refl) (λ d. refl) (legal-course slots J are l p)),
)

pub returns-clause-waited : goal.returns-clause-waited
returns-clause-waited c slots J p are l = (
  own-same slots J Waits p refl refl,
  fun_ext
      (flights-quiet slots J Waits p (legal_asked slots J l p) (λ d. refl) (λ d. refl) (legal-course slots J are l p)),
)

pub returns-clause-set : goal.returns-clause-set
returns-clause-set c slots J p t are l = (
  own-same slots J (Sets t) p refl refl,
  fun_ext (flights-quiet slots J (Sets t) p (legal_asked slots J l p) (λ d. refl) (λ d. refl) (legal-course slots J are l p)),
)

pub returns-clause-exchanged : goal.returns-clause-exchanged
returns-clause-exchanged c slots J p k q are l = (
  own-same slots J (Swaps k q) p refl refl,
  fun_ext (flights-quiet slots J (Swaps k q) p (legal_asked slots J l p) (λ d. refl) (λ d. refl) (legal-course slots J are l p)),
)
