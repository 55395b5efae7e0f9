use Rattle.std.specs.Prelude.{find}
use Rattle.std.specs.Option.{option_map}
use Rattle.std.proofs.Common.{eqb, ap, ◌∙◌}
use Rattle.kdf_director.specs.Lends.{window_in}
use Rattle.kdf_yard.specs.Fields.Parts.{window_at}
use Rattle.kdf_theory.specs.MachineView.{MachineView}
use Rattle.kdf_yard.specs.declared.program.Program.{Program}
use Rattle.kdf_director.proofs.Linking.FieldsShow.{window_told}
use Rattle.kdf_director.proofs.machine.Machine.window.Goals as goal

pub returns : goal.returns
returns c =
    let m = c.self.inside in
    c.window_given.ensures
    ∙ ap (λ xs. option_map (λ (x : Program). window_at m.windows c.args.p) (find (λ (x : Program). eqb x.p c.args.p) xs)) c.deref.ensures.value
    ∙ window_told m c.self.invariant c.args.p
    ∙ ap (λ (v : MachineView). window_in v.slots c.args.p) c.self.view_is
