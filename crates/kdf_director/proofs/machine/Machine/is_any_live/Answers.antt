use Rattle.std.proofs.Common.{ap, ◌∙◌, subst}
use Rattle.kdf_yard.specs.Fields.Going.{any_on}
use Rattle.kdf_theory.specs.Next.{any_live}
use Rattle.kdf_director.specs.Fields.Machines.{stands}
use Rattle.kdf_theory.specs.MachineView.{MachineView, ShowsSeen}
use Rattle.kdf_director.proofs.Linking.EventsEntered.{shown_seen}
use Rattle.kdf_director.proofs.Linking.FieldsShow.{live_shown}
use Rattle.kdf_director.proofs.machine.Machine.is_any_live.Goals as goal

pub returns-clause-live : goal.returns-clause-live
returns-clause-live c =
    let m = c.self.inside in
    c.is_any_on.ensures
    ∙ ap any_on c.deref.ensures.value
    ∙ live_shown m c.self.invariant
    ∙ ap (λ (v : MachineView). any_live v.slots v.journal) c.self.view_is

pub returns-clause-seen : goal.returns-clause-seen
returns-clause-seen c =
    let m = c.self.inside in
    subst ShowsSeen c.self.view_is (shown_seen (stands m) m.journal m.room c.self.invariant.ready)
