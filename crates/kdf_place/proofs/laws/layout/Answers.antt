use Rattle.kdf_place.proofs.LaidOut.{image-laid-out}
use Rattle.kdf_place.proofs.laws.layout.Goals as goal

pub returns : goal.returns
returns c = image-laid-out
