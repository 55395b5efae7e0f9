use Rattle.std.specs.Option.{option_map}
use Rattle.std.proofs.Common.{map, ap₂, ◌∙◌, subst}
use Rattle.kdf_journal.specs.Counts.{pending}
use Rattle.kdf_director.specs.Lends.{IsLent}
use Rattle.kdf_theory.specs.MachineView.{MachineView}
use Rattle.kdf_places.specs.Spots.{Held, spot_at, spot_of}
use Rattle.kdf_director.proofs.Linking.FieldsShow.{transfer_shown}
use Rattle.kdf_director.proofs.machine.Machine.transfer.Goals as goal

pub returns : goal.returns
returns c =
    let m = c.self.inside in
    subst (λ (v : MachineView). IsLent v c.args.d (pending c.args.d v.journal) (option_map (λ t. t.now) c.transfer_in.result)) c.self.view_is
    (transfer_shown m c.self.invariant c.args.d (option_map (λ t. t.now) c.transfer_in.result)
    (c.transfer_in.ensures ∙ ap₂ (λ ps n. option_map (λ (h : Held). h.motion) (spot_at (map spot_of ps) n).flight) c.deref.ensures.value c.from.ensures))
