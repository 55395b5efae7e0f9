use Rattle.std.specs.Prelude.{◌-◌, ◌^◌}
use Rattle.std.specs.Int.Count.{ones-ones}
use Rattle.kdf_arith.proofs.Ones.{bits_of, ones_of_five, ones_of_power}
use Rattle.kdf_arith.proofs.examples.ones.Goals as goal

pub returns-clause-five : goal.returns-clause-five
returns-clause-five c = bits_of 5 2 ones_of_five

pub returns-clause-nought : goal.returns-clause-nought
returns-clause-nought c = bits_of 0 0 (ones-ones 0)

pub returns-clause-first : goal.returns-clause-first
returns-clause-first c = bits_of (2 ^ 47) 1 (ones_of_power 47)

pub returns-clause-all : goal.returns-clause-all
returns-clause-all c = bits_of (2 ^ 48 - 1) 48 (ones-ones 48)
