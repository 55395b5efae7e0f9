use Rattle.kdf_syllable.proofs.Bytes.{length-spelling, spelling-below}
use Rattle.kdf_syllable.proofs.laws.bytes.Goals as goal

pub returns-clause-length : goal.returns-clause-length
returns-clause-length c = length-spelling

pub returns-clause-below : goal.returns-clause-below
returns-clause-below c = spelling-below
