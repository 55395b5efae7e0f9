use Rattle.std.proofs.Common.{◌≡◌, ◌+◌, ◌<◌, true, length, map, is_some, ap, ◌∙◌, sym, subst, arith}
use Rattle.kdf_transfer.specs.AtOnce.{kind_of, has_area}
use Rattle.kdf_transfer.specs.Devices.{is_kind}
use Rattle.kdf_places.specs.Spots.{spot_at, spot_kind, spot_of}
use Rattle.kdf_yard.specs.Fields.Shared.{is_out_of}
use Rattle.kdf_places.specs.Transfers.{IsFreeArea}
use Rattle.kdf_yard.specs.Fields.MachinePort.{part_of, shared}
use Rattle.kdf_yard.proofs.Physical.TransfersBegin.{free_groups, free_area}
use Rattle.kdf_places.proofs.TransfersBegin.{length-start}
use Rattle.kdf_yard.proofs.Physical.PartsShow.{claim_fixture, claim_spot}
use Rattle.kdf_yard.proofs.Turns.TurnsKeep.{kept_in, start_kept}
use Rattle.std.proofs.lemmas.List.{length-map}
use Rattle.kdf_yard.proofs.machine_port.MachinePortPort.start.Goals as goal
use Rattle.kdf_yard.proofs.machine_port.MachinePortPort.start.Goals.{After-from, After-place-2}

pub start_at-requires-clause-kind : goal.start_at-requires-clause-kind
start_at-requires-clause-kind c =
    let t = c.args.self.now in
    subst (λ d. is_kind (kind_of c.args.order) (spot_kind (spot_at (shared t).spots d)) ≡ true) (sym c.from.ensures)
    (claim_spot (part_of t) (shared t) c.args.device (kind_of c.args.order) (kept_in t) c.requires.kind)

-- the area in the places that were computed
placed : (c : After-place-2) → has_area c.args.order ≡ true → IsFreeArea c.args.self.now.store.now c.place.result c.place-2.result
placed c is =
    let t = c.args.self.now in
    let h : IsFreeArea t.store.now (t.window.base + c.args.first) (t.window.base + c.args.last) =
    free_area t.store.now t.window.base t.window.size c.args.first c.args.last t.at_group t.in_store (c.requires.area is)
    (free_groups (is_out_of (part_of t) (shared t)) c.args.order c.args.first c.args.last c.requires.free is) in
    subst (λ f. IsFreeArea t.store.now f c.place-2.result) (sym c.place.ensures)
    (subst (λ l. IsFreeArea t.store.now (t.window.base + c.args.first) l) (sym c.place-2.ensures) h)

pub start_at-requires-clause-area : goal.start_at-requires-clause-area
start_at-requires-clause-area c = placed (goal.at.start_at-requires-clause-area c).After-place-2

pub invariant_of-self-clause-in_store : goal.invariant_of-self-clause-in_store
invariant_of-self-clause-in_store c =
    let at = (goal.at.invariant_of-self-clause-in_store c).After-place-2 in
    let t = c.args.self.now in
    let same : length c.start_at.new.store ≡ length t.store.now = ap length c.start_at.ensures.store
    ∙ length-start c.args.order c.place.result c.place-2.result t.store.now (placed at) in
    let within = t.in_store in
    omega arith

-- its device stays where it is
inside : (c : After-from) → c.from.result < length (map spot_of c.args.self.now.places.now.items)
inside c = omega (arith, c.from.ensures, c.requires.number, c.args.self.now.sixteen, length-map c.args.self.now.places.now.items spot_of)

some : (c : After-from) → is_some (spot_at (shared c.args.self.now).spots c.from.result).fixture ≡ true
some c =
    let t = c.args.self.now in
    let there = claim_fixture (part_of t) (shared t) c.args.device (kind_of c.args.order) (kept_in t) c.requires.kind in
    ap (λ e. is_some (spot_at (shared t).spots e).fixture) c.from.ensures ∙ ap is_some (sym there.1) ∙ there.0

pub invariant_of-self-clause-kept : goal.invariant_of-self-clause-kept
invariant_of-self-clause-kept c =
    let at = (goal.at.invariant_of-self-clause-kept c).After-from in
    start_kept c.args.self.now c.from.result c.args.order c.place.result c.place-2.result c.start_at.new.places.items (inside at) c.start_at.ensures.spots
    (some at)

pub invariant_of-self-clause-active : goal.invariant_of-self-clause-active
invariant_of-self-clause-active c = c.args.self.now.active
