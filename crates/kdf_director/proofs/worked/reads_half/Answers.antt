use Rattle.kdf_director.proofs.Course.WorkedFlights.{half_both, half_device, half_journal, half_none, half_one}
use Rattle.kdf_director.proofs.worked.reads_half.Goals as goal

pub returns-clause-none : goal.returns-clause-none
returns-clause-none c = half_none

pub returns-clause-one : goal.returns-clause-one
returns-clause-one c = half_one

pub returns-clause-both : goal.returns-clause-both
returns-clause-both c = half_both

pub returns-clause-device : goal.returns-clause-device
returns-clause-device c = half_device

pub returns-clause-journal : goal.returns-clause-journal
returns-clause-journal c = half_journal
