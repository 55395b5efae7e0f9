use Rattle.kdf_syllable.proofs.Reading.{same_from_spelling}
use Rattle.kdf_syllable.proofs.laws.one_order.Goals as goal

pub returns : goal.returns
returns c = same_from_spelling
