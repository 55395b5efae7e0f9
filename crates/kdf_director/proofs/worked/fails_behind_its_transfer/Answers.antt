use Rattle.kdf_director.proofs.Course.WorkedFlights.{fail_device, fail_journal}
use Rattle.kdf_director.proofs.worked.fails_behind_its_transfer.Goals as goal

pub returns-clause-journal : goal.returns-clause-journal
returns-clause-journal c = fail_journal

pub returns-clause-device : goal.returns-clause-device
returns-clause-device c = fail_device
