use Rattle.kdf_transfer.proofs.Moving.{moved_none, moved_two, moved_rest}
use Rattle.kdf_transfer.proofs.laws.cuts.Goals as goal

pub returns-clause-none : goal.returns-clause-none
returns-clause-none c = moved_none

pub returns-clause-two : goal.returns-clause-two
returns-clause-two c = moved_two

pub returns-clause-rest : goal.returns-clause-rest
returns-clause-rest c = moved_rest
