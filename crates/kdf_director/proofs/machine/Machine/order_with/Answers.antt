use Rattle.kdf_director.proofs.Calls.CallsInTurn.{lived_of}
use Rattle.kdf_director.proofs.Calls.OnlyCall.{not_answered, not_made, only_answered, only_call}
use Rattle.kdf_theory.proofs.Results.{if_ok, on_either, on_err}
use Rattle.kdf_director.proofs.machine.Machine.order_with.Goals as goal

pub returns-clause-took : goal.returns-clause-took
returns-clause-took g c =
    if_ok c.calls_with.result _ _ (only_call (λ n a. goal.F-post g c.args.service.now n a) c.args.self.now c.calls_with.new.self) c.calls_with.ensures.made

pub returns-clause-answered : goal.returns-clause-answered
returns-clause-answered g c =
    on_either c.calls_with.result _ _ _ c.calls_with.ensures.made c.calls_with.ensures.err
    (only_answered (λ n a. goal.F-post g c.args.service.now n a) c.args.self.now c.calls_with.new.self)
    (not_answered (λ n a. goal.F-post g c.args.service.now n a) c.args.self.now c.calls_with.new.self)

pub returns-clause-truthful : goal.returns-clause-truthful
returns-clause-truthful g c =
    on_either c.calls_with.result _ _ _ c.calls_with.ensures.made c.calls_with.ensures.err
    (λ r x. (lived_of (λ n a. goal.F-post g c.args.service.now n a) c.args.self.now 1 c.calls_with.new.self r x).2.truthful)
    (λ fewer. fewer.2.truthful)

pub returns-clause-err : goal.returns-clause-err
returns-clause-err g c =
    on_err c.calls_with.result _ _ (not_made (λ n a. goal.F-post g c.args.service.now n a) c.args.self.now c.calls_with.new.self) c.calls_with.ensures.err
