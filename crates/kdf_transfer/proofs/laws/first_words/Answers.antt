use Rattle.kdf_transfer.proofs.Moving.{lease_input, lease_output}
use Rattle.kdf_transfer.proofs.laws.first_words.Goals as goal

pub returns-clause-input : goal.returns-clause-input
returns-clause-input c = lease_input

pub returns-clause-output : goal.returns-clause-output
returns-clause-output c = lease_output
