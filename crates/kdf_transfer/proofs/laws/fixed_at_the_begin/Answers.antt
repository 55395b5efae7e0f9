use Rattle.kdf_transfer.proofs.Moving.{words-moved}
use Rattle.kdf_transfer.proofs.Words.{ended-moved}
use Rattle.kdf_transfer.proofs.laws.fixed_at_the_begin.Goals as goal

pub returns-clause-words : goal.returns-clause-words
returns-clause-words c = words-moved

pub returns-clause-device : goal.returns-clause-device
returns-clause-device c = ended-moved
