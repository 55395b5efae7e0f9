use Rattle.kdf_journal.proofs.Printing.{printed, read_again}
use Rattle.kdf_journal.proofs.laws.printed_again.Goals as goal

pub returns-clause-read : goal.returns-clause-read
returns-clause-read c = read_again

pub returns-clause-printed : goal.returns-clause-printed
returns-clause-printed c line e is = (printed line e is).0

pub returns-clause-fits : goal.returns-clause-fits
returns-clause-fits c line e is = (printed line e is).1
