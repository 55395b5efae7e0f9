use Rattle.kdf_director.proofs.Calls.Halting.{at_most_of, but_fewer_of}
use Rattle.kdf_theory.proofs.Results.{if_ok, on_err}
use Rattle.kdf_director.proofs.machine.Machine.calls_with.Goals as goal

pub returns-clause-made : goal.returns-clause-made
returns-clause-made g c =
    if_ok c.orders_to.result _ _ (at_most_of (λ n a. goal.F-post g c.args.service.now n a) c.args.self.now c.args.most c.orders_to.new.left
    c.orders_to.new.self) c.orders_to.ensures.made

pub returns-clause-err : goal.returns-clause-err
returns-clause-err g c =
    on_err c.orders_to.result _ _ (but_fewer_of (λ n a. goal.F-post g c.args.service.now n a) c.args.self.now c.args.most c.orders_to.new.left
    c.orders_to.new.self) c.orders_to.ensures.err
