use Rattle.kdf_syllable.proofs.Digits.{packed-below, syllable-packed}
use Rattle.kdf_syllable.proofs.laws.packing.Goals as goal

pub returns-clause-below : goal.returns-clause-below
returns-clause-below c = packed-below

pub returns-clause-syllable : goal.returns-clause-syllable
returns-clause-syllable c = syllable-packed
