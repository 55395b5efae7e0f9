use Rattle.kdf_theory.proofs.Course.FlightsOnCourse.{legal-course}
use Rattle.kdf_theory.proofs.Course.SeenJournals.{two-ends}
use Rattle.kdf_director.proofs.laws.journals.two_ends.Goals as goal

pub returns : goal.returns
returns c slots others J K p are l are' l' begun told over over' =
    two-ends slots others J K p ((legal-course slots J are l p).over over) ((legal-course others K are' l' p).over over') begun told over over'
