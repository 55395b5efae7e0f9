use Rattle.kdf_check.proofs.Comes.{tried_lem}
use Rattle.kdf_check.proofs.laws.order_tried.Goals as goal

pub returns : goal.returns
returns c = tried_lem
