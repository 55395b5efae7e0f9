use Rattle.kdf_theory.proofs.Seen.OrdersSeen.{row_seen}
use Rattle.kdf_director.proofs.laws.at_once.Goals as goal

pub returns : goal.returns
returns c flights mine answer s none = row_seen flights mine s none answer
