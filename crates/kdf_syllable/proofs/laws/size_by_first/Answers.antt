use Rattle.kdf_syllable.proofs.Sizes.{size_of_first-spelling}
use Rattle.kdf_syllable.proofs.laws.size_by_first.Goals as goal

pub returns : goal.returns
returns c = size_of_first-spelling
