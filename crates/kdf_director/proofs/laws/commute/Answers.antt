use Rattle.kdf_theory.proofs.Seen.OrdersSeen.{begun_seen, hidden_seen}
use Rattle.kdf_theory.proofs.Seen.FlightsStay.{row_flying}
use Rattle.kdf_director.proofs.laws.commute.Goals as goal

pub returns-clause-begun : goal.returns-clause-begun
returns-clause-begun c flights mine answer s none = begun_seen flights mine s none answer

pub returns-clause-hidden : goal.returns-clause-hidden
returns-clause-hidden c flights mine answer s none = hidden_seen flights mine answer s none

pub returns-clause-flying : goal.returns-clause-flying
returns-clause-flying c flights mine answer s flying none = row_flying flights mine answer s flying none
