use Rattle.kdf_snapshot.proofs.WrittenParts.{parts_again}
use Rattle.kdf_snapshot.proofs.laws.split_again.Goals as goal

pub returns : goal.returns
returns c first J sealed more are can = parts_again first J sealed more are can
