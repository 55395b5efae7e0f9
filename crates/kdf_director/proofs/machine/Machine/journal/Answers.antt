use Rattle.std.proofs.Common.{subst}
use Rattle.kdf_director.specs.Fields.Machines.{stands}
use Rattle.kdf_theory.specs.MachineView.{ShowsSeen}
use Rattle.kdf_director.proofs.Linking.EventsEntered.{shown_seen}
use Rattle.kdf_director.proofs.machine.Machine.journal.Goals as goal

pub returns-clause-seen : goal.returns-clause-seen
returns-clause-seen c =
    subst ShowsSeen c.self.view_is
    (shown_seen (stands c.self.inside) c.self.inside.journal c.self.inside.room c.self.invariant.ready)
