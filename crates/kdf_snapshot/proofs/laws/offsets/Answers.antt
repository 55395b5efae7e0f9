use Rattle.kdf_snapshot.proofs.CutLines.{lines-between, lines-rest}
use Rattle.kdf_snapshot.proofs.laws.offsets.Goals as goal

pub returns : goal.returns
returns c = record { rest = λ bytes k. lines-rest k bytes; between = λ bytes k n. lines-between k n bytes }
