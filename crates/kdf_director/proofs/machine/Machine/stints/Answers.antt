use Rattle.std.specs.Prelude.{find, IfSome, IsSomeAnd, is_some}
use Rattle.std.proofs.Common.{◌≡◌, eqb, length, ap, ◌∙◌, subst}
use Rattle.kdf_processor.specs.State.{State, lendings}
use Rattle.kdf_theory.specs.MachineView.{MachineView, state_of}
use Rattle.kdf_yard.specs.declared.program.Program.{Program}
use Rattle.kdf_director.proofs.Linking.FieldsShow.{stints_shown}
use Rattle.kdf_director.proofs.machine.Machine.stints.Goals as goal

pub returns : goal.returns
returns c =
    let m = c.self.inside in
    subst (λ (v : MachineView). IsSomeAnd (state_of v c.args.p) (λ (x : State). length c.stints_of.result.now ≡ length (lendings x.stock))) c.self.view_is
    (stints_shown m c.self.invariant c.args.p c.stints_of.result.now
    (ap (λ (v : MachineView). is_some (state_of v c.args.p)) c.self.view_is ∙ c.requires)
    (subst (λ xs. IfSome (find (λ (x : Program). eqb x.p c.args.p) xs) (λ (x : Program). c.stints_of.result.now ≡ x.stints.items)) c.deref.ensures.value
    c.stints_of.ensures))
