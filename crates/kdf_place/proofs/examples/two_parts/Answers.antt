use Rattle.std.proofs.Common.{refl}
use Rattle.kdf_syllable.specs.Spelling.{spelling}
use Rattle.kdf_place.specs.Placement.{placed}
use Rattle.kdf_place.proofs.examples.two_parts.Goals as goal

pub returns-clause-image : goal.returns-clause-image
unfolding placed spelling
returns-clause-image c = refl

pub returns-clause-too_large : goal.returns-clause-too_large
unfolding placed spelling
returns-clause-too_large c = refl
