use Rattle.std.proofs.Common.{◌<◌, sym, ap, ◌∙◌, subst}
use Rattle.kdf_journal.specs.Steps.{Swaps}
use Rattle.kdf_director.specs.Fields.Machines.{stands}
use Rattle.kdf_theory.specs.MachineView.{MachineView, entered}
use Rattle.kdf_director.proofs.Linking.AfterEvents.{ready_exchanged, shown_exchanged, states_exchanged}
use Rattle.kdf_director.proofs.machine.Machine.swap.Goals as goal

pub invariant_of-self : goal.invariant_of-self
invariant_of-self c =
    record {
      yard = c.self.invariant.yard;
      ready = ready_exchanged (stands c.self.inside) c.self.inside.journal c.self.inside.room c.self.invariant.ready
          (subst (λ (m : MachineView). 0 < m.room) (sym c.self.view_is) c.requires.room) c.push.new.self c.push.ensures.spare c.args.p c.args.q
          (c.requires.p, c.requires.q) c.push.ensures.entries;
    }

pub returns-clause-entered : goal.returns-clause-entered
returns-clause-entered c =
    shown_exchanged (stands c.self.inside) c.self.inside.journal c.self.inside.room c.self.invariant.ready
    (subst (λ (m : MachineView). 0 < m.room) (sym c.self.view_is) c.requires.room) c.push.new.self c.push.ensures.spare c.args.p c.args.q
    (c.requires.p, c.requires.q) c.push.ensures.entries
    ∙ ap (λ m. entered m (Swaps c.args.p c.args.q)) c.self.view_is

pub returns-clause-states : goal.returns-clause-states
returns-clause-states c =
    states_exchanged (stands c.self.inside) c.self.inside.journal c.self.inside.room c.self.invariant.ready
    (subst (λ (m : MachineView). 0 < m.room) (sym c.self.view_is) c.requires.room) c.push.new.self c.push.ensures.spare c.args.p c.args.q
    (c.requires.p, c.requires.q) c.push.ensures.entries
    ∙ ap (λ (m : MachineView). m.states) c.self.view_is
