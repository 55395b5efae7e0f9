use Rattle.std.proofs.Common.{◌<◌, ◌≤◌, sym, ap, ◌∙◌, subst}
use Rattle.kdf_journal.specs.Counts.{clock}
use Rattle.kdf_journal.specs.Steps.{Sets}
use Rattle.kdf_director.specs.Fields.Machines.{stands}
use Rattle.kdf_theory.specs.MachineView.{MachineView, entered}
use Rattle.kdf_director.proofs.Linking.AfterEvents.{ready_timed, shown_timed, states_timed}
use Rattle.kdf_director.proofs.machine.Machine.clock.Goals as goal

pub invariant_of-self : goal.invariant_of-self
invariant_of-self c =
    record {
      yard = c.self.invariant.yard;
      ready = ready_timed (stands c.self.inside) c.self.inside.journal c.self.inside.room c.self.invariant.ready
          (subst (λ (m : MachineView). 0 < m.room) (sym c.self.view_is) c.requires.room) c.push.new.self c.push.ensures.spare c.args.t
          (subst (λ (m : MachineView). clock m.journal ≤ c.args.t) (sym c.self.view_is) c.requires.rises) c.push.ensures.entries;
    }

pub returns-clause-entered : goal.returns-clause-entered
returns-clause-entered c =
    shown_timed (stands c.self.inside) c.self.inside.journal c.self.inside.room c.self.invariant.ready
    (subst (λ (m : MachineView). 0 < m.room) (sym c.self.view_is) c.requires.room) c.push.new.self c.push.ensures.spare c.args.t
    (subst (λ (m : MachineView). clock m.journal ≤ c.args.t) (sym c.self.view_is) c.requires.rises) c.push.ensures.entries
    ∙ ap (λ m. entered m (Sets c.args.t)) c.self.view_is

pub returns-clause-states : goal.returns-clause-states
returns-clause-states c =
    states_timed (stands c.self.inside) c.self.inside.journal c.self.inside.room c.self.invariant.ready
    (subst (λ (m : MachineView). 0 < m.room) (sym c.self.view_is) c.requires.room) c.push.new.self c.push.ensures.spare c.args.t
    (subst (λ (m : MachineView). clock m.journal ≤ c.args.t) (sym c.self.view_is) c.requires.rises) c.push.ensures.entries
    ∙ ap (λ (m : MachineView). m.states) c.self.view_is
