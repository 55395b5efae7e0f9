use Rattle.kdf_director.proofs.Course.WorkedFlights.{print_device, print_journal, print_words}
use Rattle.kdf_director.proofs.worked.output_is_locked.Goals as goal

pub returns-clause-journal : goal.returns-clause-journal
returns-clause-journal c = print_journal

pub returns-clause-words : goal.returns-clause-words
returns-clause-words c = print_words

pub returns-clause-device : goal.returns-clause-device
returns-clause-device c = print_device
