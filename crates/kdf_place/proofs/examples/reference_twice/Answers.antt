use Rattle.std.proofs.Common.{refl}
use Rattle.kdf_syllable.specs.Spelling.{spelling}
use Rattle.kdf_place.specs.Placement.{placed}
use Rattle.kdf_place.proofs.examples.reference_twice.Goals as goal

pub returns : goal.returns
unfolding placed spelling
returns c = refl
