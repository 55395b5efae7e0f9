use Rattle.std.specs.Prelude.{find, IfSome, IsSomeAnd, is_some}
use Rattle.std.proofs.Common.{◌≡◌, eqb, ap, ◌∙◌, subst}
use Rattle.kdf_processor.specs.State.{State}
use Rattle.kdf_theory.specs.MachineView.{MachineView, state_of}
use Rattle.kdf_yard.specs.declared.program.Program.{Program}
use Rattle.kdf_director.proofs.Linking.FieldsShow.{texts_shown}
use Rattle.kdf_director.proofs.machine.Machine.spooled.Goals as goal

pub returns : goal.returns
returns c =
    let m = c.self.inside in
    subst (λ (v : MachineView). IsSomeAnd (state_of v c.args.p) (λ (x : State). c.texts_of.result.now ≡ x.stock.spooled)) c.self.view_is
    (texts_shown m c.self.invariant c.args.p c.texts_of.result.now
    (ap (λ (v : MachineView). is_some (state_of v c.args.p)) c.self.view_is ∙ c.requires)
    (subst (λ xs. IfSome (find (λ (x : Program). eqb x.p c.args.p) xs) (λ (x : Program). c.texts_of.result.now ≡ x.spooled.items)) c.deref.ensures.value
    c.texts_of.ensures))
