use Rattle.kdf_check.proofs.Pendings.{shown-here}
use Rattle.kdf_check.proofs.laws.lone_shown.Goals as goal

pub returns : goal.returns
returns c slots J p around are legal truly live is = shown-here slots J p around is are legal truly live
