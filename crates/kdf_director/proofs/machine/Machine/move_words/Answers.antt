use Rattle.std.proofs.Common.{◌≡◌, ◌<◌, map, set, sym, ap, ◌∙◌, refl, subst, arith}
use Rattle.kdf_journal.specs.Counts.{pending}
use Rattle.kdf_journal.specs.Steps.{Moves}
use Rattle.kdf_places.specs.Spots.{spot_at, spot_of}
use Rattle.kdf_places.specs.Transfers.{after_move, moved_spot}
use Rattle.kdf_theory.specs.ByJournal.{is_of}
use Rattle.kdf_director.specs.Fields.Machines.{stands}
use Rattle.kdf_yard.specs.Fields.Standing.{standing}
use Rattle.kdf_theory.specs.MachineView.{MachineView, entered, state_of}
use Rattle.kdf_director.proofs.Linking.AfterEvents.{has_place, others_moved, ready_moved, shown_moved, stands_moved, yard_moved}
use Rattle.kdf_director.proofs.machine.Machine.move_words.Goals as goal
use Rattle.kdf_director.proofs.machine.Machine.move_words.Goals.{After-move_at}

pub move_at-requires : goal.move_at-requires
move_at-requires c = record { there = omega (arith, has_place c.self.inside c.self.invariant c.args.d c.requires.device, c.from.ensures) }

spots : (c : After-move_at) → map spot_of c.move_at.new.places.items ≡ set (map spot_of c.self.inside.devices.items) c.args.d
    (moved_spot c.args.n (spot_at (map spot_of c.self.inside.devices.items) c.args.d))
spots c =
    c.move_at.ensures.spots ∙ ap (λ d. set (map spot_of c.self.inside.devices.items) d
    (moved_spot c.args.n (spot_at (map spot_of c.self.inside.devices.items) d))) c.from.ensures

there : (c : After-move_at) → standing c.self.inside.slots.items c.self.inside.windows c.self.inside.store c.self.inside.programs.items
    c.move_at.new.places.items ≡ record (stands c.self.inside) { shared = after_move c.args.d c.args.n (stands c.self.inside).shared }
there c =
    stands_moved c.self.inside c.self.invariant c.args.d c.requires.device c.self.inside.store c.move_at.new.places.items
    (c.move_at.ensures.dry c.self.invariant.yard.dry) c.args.n refl (spots c)

pub invariant_of-self : goal.invariant_of-self
invariant_of-self c =
    let at = (goal.at.invariant_of-self c).After-move_at in
    record {
      yard = yard_moved c.self.inside c.self.invariant c.args.d c.requires.device c.self.inside.store c.move_at.new.places.items
          (c.move_at.ensures.dry c.self.invariant.yard.dry) c.args.n refl (spots at);
      ready =
          ready_moved (stands c.self.inside) c.self.inside.journal c.self.inside.room c.self.invariant.ready
          (subst (λ (m : MachineView). 0 < m.room) (sym c.self.view_is) c.requires.room) _ c.push.new.self c.push.ensures.spare
          c.args.d c.args.n c.requires.device c.requires.few (there at) c.push.ensures.entries;
    }

pub returns-clause-entered : goal.returns-clause-entered
returns-clause-entered c =
    let at = (goal.at.returns-clause-entered c).After-move_at in
    shown_moved (stands c.self.inside) c.self.inside.journal c.self.inside.room c.self.invariant.ready
    (subst (λ (m : MachineView). 0 < m.room) (sym c.self.view_is) c.requires.room) _ c.push.new.self c.push.ensures.spare
    c.args.d c.args.n c.requires.device c.requires.few (there at) c.push.ensures.entries
    ∙ ap (λ m. entered m (Moves c.args.d c.args.n)) c.self.view_is

pub returns-clause-others : goal.returns-clause-others
returns-clause-others c = λ p none.
    let at = (goal.at.returns-clause-others c).After-move_at in
    others_moved (stands c.self.inside) c.self.inside.journal c.self.inside.room c.self.invariant.ready
    (subst (λ (m : MachineView). 0 < m.room) (sym c.self.view_is) c.requires.room) _ c.push.new.self c.push.ensures.spare
    c.args.d c.args.n c.requires.device c.requires.few (there at) c.push.ensures.entries
    p (ap (λ (m : MachineView). is_of p (pending c.args.d m.journal)) c.self.view_is ∙ none)
    ∙ ap (λ (m : MachineView). state_of m p) c.self.view_is
