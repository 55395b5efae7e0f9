use Rattle.std.proofs.Common.{arith}
use Rattle.kdf_theory.proofs.Results.{if_ok, on_either, on_err, on_ok}
use Rattle.kdf_director.proofs.Calls.CallsInTurn.{all_of, lived_of, only_made, reached_of}
use Rattle.kdf_director.proofs.machine.Machine.orders_with.Goals as goal

pub returns-clause-made : goal.returns-clause-made
returns-clause-made g c =
    if_ok c.calls_with.result _ _ (all_of (λ n a. goal.F-post g c.args.service.now n a) c.args.self.now c.args.n c.calls_with.new.self)
    c.calls_with.ensures.made

pub returns-clause-steps : goal.returns-clause-steps
returns-clause-steps g c =
    on_ok c.calls_with.result _ _ (reached_of (λ n a. goal.F-post g c.args.service.now n a) c.args.self.now c.args.n c.calls_with.new.self)
    c.calls_with.ensures.made

pub returns-clause-truthful : goal.returns-clause-truthful
returns-clause-truthful g c =
    on_either c.calls_with.result _ _ _ c.calls_with.ensures.made c.calls_with.ensures.err
    (λ r x. (lived_of (λ n a. goal.F-post g c.args.service.now n a) c.args.self.now c.args.n c.calls_with.new.self r x).2.truthful)
    (λ fewer. fewer.2.truthful)

pub returns-clause-calls : goal.returns-clause-calls
returns-clause-calls g c =
    on_either c.calls_with.result _ _ _ c.calls_with.ensures.made c.calls_with.ensures.err
    (λ r x. let l = lived_of (λ n a. goal.F-post g c.args.service.now n a) c.args.self.now c.args.n c.calls_with.new.self r x in omega (arith, l.1, l.2.few))
    (λ fewer. omega (arith, fewer.1, fewer.2.few))

pub returns-clause-time : goal.returns-clause-time
returns-clause-time g c =
    on_either c.calls_with.result _ _ _ c.calls_with.ensures.made c.calls_with.ensures.err
    (λ r x. (lived_of (λ n a. goal.F-post g c.args.service.now n a) c.args.self.now c.args.n c.calls_with.new.self r x).2.time)
    (λ fewer. fewer.2.time)

pub returns-clause-err : goal.returns-clause-err
returns-clause-err g c =
    on_err c.calls_with.result _ _ (only_made (λ n a. goal.F-post g c.args.service.now n a) c.args.self.now c.args.n c.calls_with.new.self)
    c.calls_with.ensures.err
