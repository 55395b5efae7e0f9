use Rattle.kdf_theory.proofs.Corollaries.NoneAsked.{none_unserved, true_for_each}
use Rattle.kdf_director.proofs.laws.served.none_asked.Goals as goal

pub returns-clause-every : goal.returns-clause-every
returns-clause-every g c rule other slots J none truly = true_for_each (λ n a. goal.F-post g rule n a) (λ n a. goal.G-post g other n a) slots J none truly

pub returns-clause-unserved : goal.returns-clause-unserved
returns-clause-unserved g c = λ slots J unserved. none_unserved slots unserved J
