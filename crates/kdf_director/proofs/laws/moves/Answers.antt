use Rattle.std.proofs.Common.{arith}
use Rattle.kdf_theory.proofs.Seen.WordsMove.{flying_moved, moves_seen}
use Rattle.kdf_director.proofs.laws.moves.Goals as goal

pub returns-clause-seen : goal.returns-clause-seen
returns-clause-seen c flights s d n f this flying = moves_seen n flights s d f this flying

pub returns-clause-flying : goal.returns-clause-flying
returns-clause-flying c flights s d n f this flying = flying_moved flights s d _ f this (omega arith) flying
