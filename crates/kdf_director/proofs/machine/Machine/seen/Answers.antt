use Rattle.std.specs.Prelude.{find}
use Rattle.std.specs.Option.{option_map}
use Rattle.std.proofs.Common.{eqb, ap, ◌∙◌, subst}
use Rattle.kdf_processor.specs.State.{State}
use Rattle.kdf_director.specs.Fields.Machines.{stands}
use Rattle.kdf_theory.specs.MachineView.{MachineView, ShowsSeen, state_of}
use Rattle.kdf_yard.specs.declared.program.Program.{Program}
use Rattle.kdf_director.proofs.Linking.EventsEntered.{shown_seen}
use Rattle.kdf_director.proofs.Linking.FieldsShow.{registers_shown}
use Rattle.kdf_director.proofs.machine.Machine.seen.Goals as goal

pub returns-clause-registers : goal.returns-clause-registers
returns-clause-registers c =
    let m = c.self.inside in
    c.registers_of.ensures
    ∙ ap (λ xs. option_map (λ (x : Program). x.registers) (find (λ (x : Program). eqb x.p c.args.p) xs)) c.deref.ensures.value
    ∙ registers_shown m c.self.invariant c.args.p
    ∙ ap (λ (v : MachineView). option_map (λ (x : State). x.registers) (state_of v c.args.p)) c.self.view_is

pub returns-clause-seen : goal.returns-clause-seen
returns-clause-seen c =
    let m = c.self.inside in
    subst ShowsSeen c.self.view_is (shown_seen (stands m) m.journal m.room c.self.invariant.ready)
