use Rattle.kdf_syllable.proofs.Sizes.{spelling-apart}
use Rattle.kdf_syllable.proofs.laws.apart.Goals as goal

pub returns : goal.returns
returns c = spelling-apart
