use Rattle.kdf_director.proofs.Course.WorkedFlights.{tape_device, tape_journal, tape_words}
use Rattle.kdf_director.proofs.worked.reads_tape.Goals as goal

pub returns-clause-journal : goal.returns-clause-journal
returns-clause-journal c = tape_journal

pub returns-clause-words : goal.returns-clause-words
returns-clause-words c = tape_words

pub returns-clause-device : goal.returns-clause-device
returns-clause-device c = tape_device
