use Rattle.kdf_theory.proofs.Course.FlightsAdded.{earlier}
use Rattle.kdf_theory.proofs.Course.LegalFacts.{legal_asked}
use Rattle.kdf_director.proofs.laws.journals.earlier_stays.Goals as goal

pub returns : goal.returns
returns c slots J s p k l le = earlier slots J s p k (legal_asked slots J l p) le
