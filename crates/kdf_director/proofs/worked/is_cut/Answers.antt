use Rattle.kdf_director.proofs.Course.WorkedFlights.{cut_all, cut_before, cut_idle, cut_note, cut_orders}
use Rattle.kdf_director.proofs.worked.is_cut.Goals as goal

pub returns-clause-idle : goal.returns-clause-idle
returns-clause-idle c = cut_idle

pub returns-clause-before : goal.returns-clause-before
returns-clause-before c = cut_before

pub returns-clause-note : goal.returns-clause-note
returns-clause-note c = cut_note

pub returns-clause-orders : goal.returns-clause-orders
returns-clause-orders c = cut_orders

pub returns-clause-all : goal.returns-clause-all
returns-clause-all c = cut_all
