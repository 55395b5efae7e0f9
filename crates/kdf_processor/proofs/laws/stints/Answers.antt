use Rattle.kdf_processor.proofs.Lending.{begin_lent, row_lent}
use Rattle.kdf_processor.proofs.Stinting.{stints_begun, stints_row}
use Rattle.kdf_processor.proofs.laws.stints.Goals as goal

pub returns-clause-begun : goal.returns-clause-begun
returns-clause-begun c = stints_begun

pub returns-clause-row : goal.returns-clause-row
returns-clause-row c s answer lent = stints_row s lent answer

pub returns-clause-lent : goal.returns-clause-lent
returns-clause-lent c = begin_lent

pub returns-clause-kept : goal.returns-clause-kept
returns-clause-kept c s answer lent = row_lent s lent answer
