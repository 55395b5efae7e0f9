use Rattle.kdf_processor.proofs.LoneLemmas.{longer}
use Rattle.kdf_processor.proofs.laws.longer_answers.Goals as goal

pub returns : goal.returns
returns c start xs ys n enough k le = longer start xs ys n enough k le
