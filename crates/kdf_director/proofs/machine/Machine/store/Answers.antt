use Rattle.std.specs.Prelude.{IfSome}
use Rattle.std.proofs.Common.{◌<◌, subst}
use Rattle.kdf_processor.specs.State.{State}
use Rattle.kdf_director.specs.Lends.{IsStored}
use Rattle.kdf_theory.specs.MachineView.{MachineView, state_of}
use Rattle.kdf_director.proofs.Linking.FieldsShow.{store_shown}
use Rattle.kdf_director.proofs.machine.Machine.store.Goals as goal

pub returns : goal.returns
returns c = λ p a.
    let m = c.self.inside in
    subst (λ (v : MachineView). IfSome (state_of v p) (λ (x : State). a < x.stock.claims.size → IsStored v m.store p a x)) c.self.view_is
    (store_shown m c.self.invariant p a)
