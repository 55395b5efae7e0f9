use Rattle.kdf_code.proofs.Table.{code_of-host_of, host_of-code_of}
use Rattle.kdf_code.proofs.laws.inverse.Goals as goal

pub returns-clause-code : goal.returns-clause-code
returns-clause-code c = code_of-host_of

pub returns-clause-host : goal.returns-clause-host
returns-clause-host c = λ byte code e. (host_of-code_of byte code e).1

pub returns-clause-below : goal.returns-clause-below
returns-clause-below c = λ byte code e. (host_of-code_of byte code e).0
