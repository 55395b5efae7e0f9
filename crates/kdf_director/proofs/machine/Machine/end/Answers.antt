use Rattle.std.proofs.Common.{◌≡◌, ◌<◌, map, set, sym, ap, ◌∙◌, subst, arith}
use Rattle.kdf_journal.specs.Counts.{pending}
use Rattle.kdf_journal.specs.Steps.{Ends}
use Rattle.kdf_places.specs.Spots.{spot_at, spot_of}
use Rattle.kdf_places.specs.Transfers.{after_end, back_cells, ended_spot, last_lease, IsBack}
use Rattle.kdf_theory.specs.ByJournal.{is_of}
use Rattle.kdf_director.specs.Fields.Machines.{stands}
use Rattle.kdf_yard.specs.Fields.Standing.{standing}
use Rattle.kdf_theory.specs.MachineView.{MachineView, entered, state_of}
use Rattle.kdf_director.proofs.Linking.AfterEvents.{comes_back, has_place, others_ended, ready_ended, shown_ended, stands_ended, yard_ended}
use Rattle.kdf_director.proofs.machine.Machine.end.Goals as goal
use Rattle.kdf_director.proofs.machine.Machine.end.Goals.{After-end_at}

pub end_at-requires-clause-there : goal.end_at-requires-clause-there
end_at-requires-clause-there c = omega (arith, has_place c.self.inside c.self.invariant c.args.d c.requires.device, c.from.ensures)

pub end_at-requires-clause-back : goal.end_at-requires-clause-back
end_at-requires-clause-back c =
    subst (λ d. IsBack c.self.inside.store (last_lease (spot_at (map spot_of c.self.inside.devices.items) d).flight)) (sym c.from.ensures)
    (comes_back c.self.inside c.self.invariant c.args.d c.requires.device)

store : (c : After-end_at) → c.end_at.new.store ≡ back_cells (last_lease (spot_at (map spot_of c.self.inside.devices.items) c.args.d).flight)
    c.self.inside.store
store c = c.end_at.ensures.store ∙ ap (λ d. back_cells (last_lease (spot_at (map spot_of c.self.inside.devices.items) d).flight) c.self.inside.store)
    c.from.ensures

spots : (c : After-end_at) → map spot_of c.end_at.new.places.items ≡ set (map spot_of c.self.inside.devices.items) c.args.d
    (ended_spot (spot_at (map spot_of c.self.inside.devices.items) c.args.d))
spots c =
    c.end_at.ensures.spots ∙ ap (λ d. set (map spot_of c.self.inside.devices.items) d (ended_spot (spot_at (map spot_of c.self.inside.devices.items) d)))
    c.from.ensures

there : (c : After-end_at) → standing c.self.inside.slots.items c.self.inside.windows c.end_at.new.store c.self.inside.programs.items c.end_at.new.places.items
    ≡ record (stands c.self.inside) { shared = after_end c.args.d (stands c.self.inside).shared }
there c = stands_ended c.self.inside c.self.invariant c.args.d c.requires.device c.end_at.new.store c.end_at.new.places.items c.end_at.ensures.dry (store c)
    (spots c)

pub invariant_of-self : goal.invariant_of-self
invariant_of-self c =
    let at = (goal.at.invariant_of-self c).After-end_at in
    record {
      yard = yard_ended c.self.inside c.self.invariant c.args.d c.requires.device c.end_at.new.store c.end_at.new.places.items c.end_at.ensures.dry (store at)
          (spots at);
      ready =
          ready_ended (stands c.self.inside) c.self.inside.journal c.self.inside.room c.self.invariant.ready
          (subst (λ (m : MachineView). 0 < m.room) (sym c.self.view_is) c.requires.room) _ c.push.new.self c.push.ensures.spare
          c.args.d c.requires.device (there at) c.push.ensures.entries;
    }

pub returns-clause-entered : goal.returns-clause-entered
returns-clause-entered c =
    let at = (goal.at.returns-clause-entered c).After-end_at in
    shown_ended (stands c.self.inside) c.self.inside.journal c.self.inside.room c.self.invariant.ready
    (subst (λ (m : MachineView). 0 < m.room) (sym c.self.view_is) c.requires.room) _ c.push.new.self c.push.ensures.spare
    c.args.d c.requires.device (there at) c.push.ensures.entries
    ∙ ap (λ m. entered m (Ends c.args.d)) c.self.view_is

pub returns-clause-others : goal.returns-clause-others
returns-clause-others c = λ p none.
    let at = (goal.at.returns-clause-others c).After-end_at in
    others_ended (stands c.self.inside) c.self.inside.journal c.self.inside.room c.self.invariant.ready
    (subst (λ (m : MachineView). 0 < m.room) (sym c.self.view_is) c.requires.room) _ c.push.new.self c.push.ensures.spare
    c.args.d c.requires.device (there at) c.push.ensures.entries
    p (ap (λ (m : MachineView). is_of p (pending c.args.d m.journal)) c.self.view_is ∙ none)
    ∙ ap (λ (m : MachineView). state_of m p) c.self.view_is
