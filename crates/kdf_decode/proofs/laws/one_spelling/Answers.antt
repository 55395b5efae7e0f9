use Rattle.kdf_decode.proofs.First.{first-exactly}
use Rattle.kdf_decode.proofs.Inverse.{decoded-spelling}
use Rattle.kdf_decode.proofs.Spelt.{decoded-spelt}
use Rattle.kdf_decode.proofs.laws.one_spelling.Goals as goal

pub returns-clause-decoded : goal.returns-clause-decoded
returns-clause-decoded c = decoded-spelling

pub returns-clause-spelt : goal.returns-clause-spelt
returns-clause-spelt c = decoded-spelt

pub returns-clause-first : goal.returns-clause-first
returns-clause-first c = first-exactly
